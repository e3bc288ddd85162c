use Rattle.std.proofs.Common.{length}
use Rattle.rings.specs.Joining.{joins}
use Rattle.rings.specs.Marking.{Outside}
use Rattle.rings.proofs.marks.mark_outside.Given as goal

abbrev pub invariant-loop-edge : goal.invariant-loop-edge
invariant-loop-edge l = Outside (joins l.graph.edges.words.now) l.graph.labels.now (length l.yielded) l.marks
