use Rattle.std.proofs.Common.{◌<◌, get_or}
use Rattle.graph.specs.Searching.{Onward, left}
use Rattle.graph.proofs.walk.Walk.visit.Given as goal

abbrev pub invariant-loop-self : goal.invariant-loop-self
invariant-loop-self g l = Onward l.fn.self l.self × (0 < get_or l.self.places l.root 0)

abbrev pub decreases-loop-self : goal.decreases-loop-self
decreases-loop-self g l = left l.self
