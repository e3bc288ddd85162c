use Rattle.std.proofs.Common.{◌≡◌, ℕ, ◌+◌, ◌-◌, List}
use Rattle.rules.specs.Check.{most_nesting}
use Rattle.checker.specs.Expecting.{ways}
use Rattle.checker.specs.Walking.{Marks, unmarked}
use Rattle.checker.proofs.Going.{Going}
use Rattle.checker.proofs.walk.+chain.Given as goal

abbrev pub decreases-chain : goal.decreases-chain
decreases-chain l = 2 + most_nesting - l.siblings.nesting

abbrev pub invariant-loop-at : goal.invariant-loop-at
invariant-loop-at l =
    (l.count + unmarked l.seen ≡ unmarked l.initial.seen)
    × ((before : List ℕ) → Marks l.initial.seen before →
    Going l.words l.siblings.nesting l.siblings.parent l.first (ways l.initial.expected) before
    l.at (ways l.expected) l.seen l.count)

abbrev pub decreases-loop-at : goal.decreases-loop-at
decreases-loop-at l = unmarked l.seen
