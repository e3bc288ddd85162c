use Rattle.std.proofs.Common.{arith}
use Rattle.std.proofs.lemmas.List.{length-set}
use Rattle.graph.proofs.Leading.{depth_low}
use Rattle.graph.proofs.Entering.{entered, node_room}
use Rattle.graph.proofs.walk.Walk.enter.Goals as goal

pub bounds-self-inside-self-inside : goal.bounds-self-inside-self-inside
bounds-self-inside-self-inside g c = omega (arith, depth_low c.self.invariant.bordered, c.self.invariant.sized.borders_long, node_room c.self.invariant c.args.node (rw (← c.self.view_is) at c.requires.known) (rw (← c.self.view_is) at c.requires.unseen))

pub overflow_add-self-2 : goal.overflow_add-self-2
overflow_add-self-2 g c = omega (arith, depth_low c.self.invariant.bordered, c.self.invariant.stacked.room, c.self.invariant.sized.few)

pub invariant_of-self : goal.invariant_of-self
invariant_of-self g c = rw length-set (entered c.self.invariant c.args.node (rw (← c.self.view_is) at c.requires.known) (rw (← c.self.view_is) at c.requires.unseen) (rw (← c.self.view_is) at c.requires.reached))
