use Rattle.std.proofs.Common.{length, subst, arith, rules}
use Rattle.std.proofs.lemmas.Grind.{common_steps}
use Rattle.rings.specs.Joining.{joins}
use Rattle.rings.specs.Marking.{Outside}
use Rattle.std.proofs.lemmas.List.{length-append}
use Rattle.rings.proofs.Marked.{outside_same}
use Rattle.rings.proofs.Joined.{Met, edge_met, edges_over}
use Rattle.rings.proofs.marks.mark_outside.Goals as goal
use Rattle.rings.proofs.marks.mark_outside.Goals.{In-Some}

met : (c : In-Some) → Met c.args.graph.now.edges.words.now (length c.args.graph.now.labels.now) (length c.loop-edge.yielded) c.in-Some.edge
met c = edge_met c.args.graph.now.edges.words.now c.into_iter-edge-iterator.result c.loop-edge.edge-iterator c.loop-edge.yielded (search rules) c.loop-edge.yielded_by c.next.new.self c.next.result c.in-Some.edge c.in-Some.is c.next.ensures.steps _ c.args.graph.now.inside

pub bounds-graph-edge : goal.bounds-graph-edge
bounds-graph-edge c = (met (goal.at.bounds-graph-edge c).In-Some).source_in

pub bounds-graph-edge-in-loop-edge : goal.bounds-graph-edge-in-loop-edge
bounds-graph-edge-in-loop-edge c = (met (goal.at.bounds-graph-edge-in-loop-edge c).In-Some).target_in

pub bounds-marks-edge : goal.bounds-marks-edge
bounds-marks-edge c = let m = met (goal.at.bounds-marks-edge c).In-Some in omega (arith, c.fill.ensures.len)

pub loop-edge-preserved-then-graph-edge : goal.loop-edge-preserved-then-graph-edge
loop-edge-preserved-then-graph-edge c = let m = met (goal.at.loop-edge-preserved-then-graph-edge c).In-Some in grind (arith, common_steps, c.fill.ensures.len)

pub loop-edge-preserved : goal.loop-edge-preserved
loop-edge-preserved c =
    let m = met (goal.at.loop-edge-preserved c).In-Some in
    rw length-append (outside_same _ _ _ _ _ _ m.source_is m.target_is c.loop-edge.invariant c.if-graph-edge.false)

pub returns : goal.returns
returns c = subst
    (λ n. Outside (joins c.args.graph.now.edges.words.now) c.args.graph.now.labels.now n c.loop-edge.marks)
    (edges_over c.args.graph.now.edges.words.now c.into_iter-edge-iterator.result c.loop-edge.edge-iterator c.loop-edge.yielded (search rules) c.loop-edge.yielded_by c.next.new.self c.next.result c.in-None.is c.next.ensures.steps)
    c.loop-edge.invariant
