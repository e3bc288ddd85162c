use Rattle.std.proofs.Common.{rules, arith}
use Rattle.rings.proofs.Joined.{edge_met}
use Rattle.rings.proofs.subtract.subtract_closed.Goals as goal

pub share_ring-requires : goal.share_ring-requires
share_ring-requires c =
    let met = edge_met c.args.graph.now.edges.words.now c.into_iter-edge-iterator.result c.loop-edge.edge-iterator c.loop-edge.yielded (search rules) c.loop-edge.yielded_by c.next.new.self c.next.result c.in-Some.edge c.in-Some.is c.next.ensures.steps _ c.args.graph.now.inside in
    record { source_in = met.source_in; target_in = met.target_in; low = omega (arith, c.args.graph.now.low c.in-Some.edge.target met.target_in) }
