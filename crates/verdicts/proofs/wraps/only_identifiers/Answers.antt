use Rattle.std.proofs.Common.{refl, rules}
use Rattle.rules.specs.Tree.{◌is◌}
use Rattle.rules.specs.Kinds.{identifier}
use Rattle.rules.specs.Removal.{only_identifiers}
use Rattle.records.proofs.Walks.{all_is}
use Rattle.verdicts.proofs.wraps.only_identifiers.Goals as goal

pub returns : goal.returns
returns c =
    all_is _ _ (λ h ch rest. h is identifier) (λ s t x b q st e. search rules) only_identifiers refl (λ h ch rest. refl) _ _ _ c.all.ensures.ran
