use Rattle.std.proofs.Common.{refl, rules}
use Rattle.rules.specs.Removal.{name_goes, all_go}
use Rattle.shaker.specs.Places.{place_of}
use Rattle.records.proofs.Walks.{all_is}
use Rattle.verdicts.specs.Grounds.{by_of}
use Rattle.verdicts.proofs.basis.Basis.all_go.Goals as goal

pub returns : goal.returns
returns c = λ acts. (
    let by = by_of acts c.args.self.now in
    let p = place_of c.args.place in
    all_is _ _ (λ h ch rest. name_goes by p c.args.is_var ch) (λ s t x b q st e. search rules) (all_go by p c.args.is_var) refl (λ h ch rest. refl)
    _ _ _ c.all.ensures.ran)
