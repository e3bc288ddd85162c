use Rattle.std.proofs.Common.{length, vec_items}
use Rattle.text.proofs.Reading.{Sofar}
use Rattle.text.proofs.words.VecFromLine.from_line.Given as goal

abbrev pub invariant-loop-rest : goal.invariant-loop-rest
invariant-loop-rest g l = Sofar g.T.FromWord.meaning l.content (vec_items l.read) l.rest

abbrev pub decreases-loop-rest : goal.decreases-loop-rest
decreases-loop-rest g l = length l.rest
