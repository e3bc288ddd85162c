use Rattle.std.proofs.Common.{ℕ, ◌<◌, ◌≤◌, length, get_or, take, arith, rules}
use Rattle.std.proofs.lemmas.List.{length-take, get_or-take}
use Rattle.graph.proofs.Stepping.{depth_room}
use Rattle.graph.proofs.walk.Walk.borders_below.Goals as goal

pub slice_bounds-borders-end : goal.slice_bounds-borders-end
slice_bounds-borders-end g c = omega (arith, length-take {A = ℕ}, depth_room c.self.invariant)

pub returns-clause-dropped : goal.returns-clause-dropped
returns-clause-dropped g c =
    let bs = take c.self.inside.depth c.self.inside.borders.now in
    let h : (t : ℕ) → c.map_or.result ≤ t → t < length bs → c.args.place ≤ get_or bs t 0 = search rules in
    rw (← c.self.view_is) (λ t low high. omega (arith, h t low (omega (arith, length-take {A = ℕ}, depth_room c.self.invariant)), get_or-take c.self.inside.depth c.self.inside.borders.now t 0 high))
