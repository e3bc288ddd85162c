-- That a chain ends is a fact with one proof at most, so that a struct can keep it.
--
--   whole_prop      of two proofs that the chain from a link ends, each is the other
use Rattle.std.specs.Prelude.{ℕ, List}
use Rattle.std.proofs.Props.{props}
use Rattle.rules.specs.Tree.{Chain}
use Rattle.rules.specs.Tree.Chain.{end, link}
use Rattle.rules.specs.Words.{first_child, next, Holds, tree_of, Whole}

holds_prop : (words : List ℕ) (n : ℕ) (c : Chain) → IsProp (Holds words n c)
holds_prop words n end = Prim.hlevel props
holds_prop words n (link h children rest) =
    Prim.hlevel (props, holds_prop words (first_child words n) children, holds_prop words (next words n) rest)

pub whole_prop : (words : List ℕ) (n : ℕ) → IsProp (Whole words n)
unfolding Whole
whole_prop words n = holds_prop words n (tree_of words n)
