use Rattle.std.proofs.Common.{sym, ap, subst, arith}
use Rattle.graph.specs.Searching.{walking}
use Rattle.graph.proofs.Stepping.{Steps, after_edge, target_reached, steps_in, target_merged, steps_on}
use Rattle.graph.proofs.walk.Walk.follow.Goals as goal
use Rattle.graph.proofs.walk.Walk.follow.Goals.{then-place-eq0, else-place-eq0}

pub enter-requires-clause-reached : goal.enter-requires-clause-reached
enter-requires-clause-reached g c = rw (← c.self.view_is) (target_reached c.self.invariant (rw (← c.self.view_is) at c.requires.some) (rw (← c.self.view_is) at c.requires.under) (omega arith) c.edge-target.result.1 (ap (λ p. p.1) c.edge-target.ensures))

pub invariant_of-self-else-place-eq0 : goal.invariant_of-self-else-place-eq0
invariant_of-self-else-place-eq0 g c =
    let m = rw (← c.self.view_is) at c.borders_below-self-inside.ensures in
    target_merged c.self.invariant (rw (← c.self.view_is) at c.requires.some) (rw (← c.self.view_is) at c.requires.under) (omega arith) c.edge-target.result.1 (ap (λ p. p.1) c.edge-target.ensures)
    c.if-place-eq0.false c.borders_below-self-inside.result m.fewer m.kept m.dropped

pub invariant_of-self-2 : goal.invariant_of-self-2
invariant_of-self-2 g c = (subst (λ v. Steps (walking (g.E.Edges.list c.self.inside.edges.now) c.self.inside) (after_edge (walking (g.E.Edges.list c.self.inside.edges.now) c.self.inside) v)) (sym c.self-2.view_is)
    (elim c.if-place-eq0.branch [
      | then-place-eq0 w ↦ rw (w.self-is, w.enter.ensures.walk, ← c.self.view_is) (steps_in c.self.invariant (rw (← c.self.view_is) at c.requires.some) (rw (← c.self.view_is) at c.requires.under) (omega arith) c.edge-target.result.1 (ap (λ p. p.1) c.edge-target.ensures) w.if-place-eq0.true)
      | else-place-eq0 w ↦ let m = rw (← c.self.view_is) at w.borders_below-self-inside.ensures in
          rw w.self-is (steps_on c.self.invariant (rw (← c.self.view_is) at c.requires.some) (rw (← c.self.view_is) at c.requires.under) (omega arith) c.edge-target.result.1 (ap (λ p. p.1) c.edge-target.ensures)
          w.if-place-eq0.false w.borders_below-self-inside.result m.fewer m.kept m.dropped)
    ])).kept

pub returns : goal.returns
returns g c = rw (← c.self.view_is) ((subst (λ v. Steps (walking (g.E.Edges.list c.self.inside.edges.now) c.self.inside) (after_edge (walking (g.E.Edges.list c.self.inside.edges.now) c.self.inside) v)) (sym c.self-2.view_is)
    (elim c.if-place-eq0.branch [
      | then-place-eq0 w ↦ rw (w.self-is, w.enter.ensures.walk, ← c.self.view_is) (steps_in c.self.invariant (rw (← c.self.view_is) at c.requires.some) (rw (← c.self.view_is) at c.requires.under) (omega arith) c.edge-target.result.1 (ap (λ p. p.1) c.edge-target.ensures) w.if-place-eq0.true)
      | else-place-eq0 w ↦ let m = rw (← c.self.view_is) at w.borders_below-self-inside.ensures in
          rw w.self-is (steps_on c.self.invariant (rw (← c.self.view_is) at c.requires.some) (rw (← c.self.view_is) at c.requires.under) (omega arith) c.edge-target.result.1 (ap (λ p. p.1) c.edge-target.ensures)
          w.if-place-eq0.false w.borders_below-self-inside.result m.fewer m.kept m.dropped)
    ])).stepped)
