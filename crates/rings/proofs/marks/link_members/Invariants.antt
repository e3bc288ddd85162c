use Rattle.rings.specs.Marking.{Members}
use Rattle.rings.proofs.marks.link_members.Given as goal

abbrev pub invariant-loop-node : goal.invariant-loop-node
invariant-loop-node l = Members l.graph.labels.now l.node l.firsts l.nexts
