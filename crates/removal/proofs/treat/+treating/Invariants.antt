-- Whatever treats what is left has treated the whole, and what was removed so far with what is yet to be removed decides whether something is.
use Rattle.std.proofs.Common.{◌+◌, ◌*◌}
use Rattle.edit.proofs.Moves.{to_go}
use Rattle.shaker.specs.Places.{place_of}
use Rattle.removal.proofs.Treats.{Walking}
use Rattle.removal.proofs.treat.+treating.Given as goal

abbrev pub decreases-treat : goal.decreases-treat
decreases-treat g l = l.left * 3 + 1

abbrev pub decreases-treat_record : goal.decreases-treat_record
decreases-treat_record g l = l.left * 3

abbrev pub decreases-visit_mut_stmt_likes : goal.decreases-visit_mut_stmt_likes
decreases-visit_mut_stmt_likes g l = l.left * 3 + 2

abbrev pub invariant-treat-loop-words : goal.invariant-treat-loop-words
invariant-treat-loop-words g l =
    Walking (g.B.Basis.by l.basis) (place_of l.place) l.initial.words l.slot l.words l.at l.left l.changed

abbrev pub decreases-treat-loop-words : goal.decreases-treat-loop-words
decreases-treat-loop-words g l = to_go l.words l.at
