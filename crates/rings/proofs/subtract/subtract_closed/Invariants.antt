-- What the edges that are left take from the names as they stand is what all edges take from them as they were.
use Rattle.std.proofs.Common.{◌≡◌}
use Rattle.rings.specs.Joining.{node_edges, edges_left}
use Rattle.rings.specs.Spending.{spent}
use Rattle.rings.proofs.subtract.subtract_closed.Given as goal

abbrev pub invariant-loop-edge : goal.invariant-loop-edge
invariant-loop-edge l =
    spent l.graph.labels.now l.closed (edges_left l.edge-iterator) l.names ≡ spent l.graph.labels.now l.closed (node_edges l.graph.edges.words.now) l.initial.names
