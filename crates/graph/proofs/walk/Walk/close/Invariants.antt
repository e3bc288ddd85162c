use Rattle.std.proofs.Common.{◌≡◌}
use Rattle.graph.specs.Searching.{Stamped, walking}
use Rattle.graph.proofs.walk.Walk.close.Given as goal

abbrev pub invariant-loop-p : goal.invariant-loop-p
invariant-loop-p g l =
    let before = walking (g.E.Edges.list l.initial.self-inside.edges.now) l.initial.self-inside in
    let now = walking (g.E.Edges.list l.self-inside.edges.now) l.self-inside in
    (now ≡ record before { places = now.places }) × Stamped before.nodes before.places now.places l.border l.p l.label
