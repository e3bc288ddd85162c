-- The chain from record 2 on computes: records 2, 3 and 4, and below 3 record 5, and below that 6.
use Rattle.std.proofs.Common.{refl}
use Rattle.rules.specs.Words.{chain_of, tree_of, Whole}
use Rattle.records.proofs.tests.module.Goals as goal

pub returns : goal.returns
unfolding chain_of tree_of Whole
returns c =
    (refl, refl, refl, (refl, refl, (refl, refl, (refl, refl, refl, refl), refl), (refl, refl, refl, refl)))
