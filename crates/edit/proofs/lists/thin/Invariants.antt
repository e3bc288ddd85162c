use Rattle.edit.proofs.Moves.{to_go}
use Rattle.edit.proofs.Turns.{Thinning}
use Rattle.edit.proofs.lists.thin.Given as goal

abbrev pub invariant-loop-words : goal.invariant-loop-words
invariant-loop-words g l = Thinning (goal.F-post g l.heir) l.initial.words l.slot l.words l.at

abbrev pub decreases-loop-words : goal.decreases-loop-words
decreases-loop-words g l = to_go l.words l.at
