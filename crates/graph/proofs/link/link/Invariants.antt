use Rattle.std.proofs.Common.{length}
use Rattle.graph.specs.Searching.{Linked}
use Rattle.graph.proofs.link.link.Given as goal

abbrev pub invariant-loop-k : goal.invariant-loop-k
invariant-loop-k g l = Linked (g.E.Edges.list l.edges) (length l.initial.turns) l.k l.turns l.links
