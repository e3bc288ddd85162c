use Rattle.std.proofs.Common.{refl, rules}
use Rattle.rules.specs.Tree.Chain.{link}
use Rattle.rules.specs.Removal.{keeps_class}
use Rattle.records.proofs.Walks.{any_is}
use Rattle.verdicts.specs.Shaking.{by_shaker, keeps_by}
use Rattle.verdicts.proofs.tree_shaker.TreeShaker.keeps_class.Goals as goal

pub returns : goal.returns
returns g c =
    let by = by_shaker g.J.Judge.acts c.args.self.now in
    any_is _ _ (λ h ch rest. keeps_by by h ch (link h ch rest)) (λ s t x b q st e. search rules) (keeps_class by) refl (λ h ch rest. search rules)
    _ _ _ c.any.ensures.ran
