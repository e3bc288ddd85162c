use Rattle.std.proofs.Common.{arith}
use Rattle.graph.proofs.Stepping.{depth_room}
use Rattle.graph.proofs.walk.Walk.step.Goals as goal

pub bounds-self-inside-self-inside : goal.bounds-self-inside-self-inside
bounds-self-inside-self-inside g c = omega (arith, depth_room c.self.invariant, rw (← c.self.view_is) at c.requires)
