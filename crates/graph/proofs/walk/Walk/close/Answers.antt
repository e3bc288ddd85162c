use Rattle.std.proofs.Common.{◌+◌, ◌-◌, length, get_or, sym, ap, subst, set, arith}
use Rattle.std.proofs.lemmas.List.{length-set}
use Rattle.graph.specs.Searching.{Walking, Search, Stamped}
use Rattle.graph.proofs.Closing.{stamped_more, closed}
use Rattle.graph.proofs.walk.Walk.close.Goals as goal

pub loop-p-preserved : goal.loop-p-preserved
loop-p-preserved g c =
    let e = c.loop-p.invariant.0 in
    let now = c.loop-p.self-inside in (
      rw length-set (ap {A = Walking} (λ v. record v { places = set now.places.now (get_or now.stack.now c.loop-p.p 0) (length c.self.inside.places.now + 1 + c.self.inside.count) }) e),
      rw (ap {A = Walking} (λ v. v.stack) e) (stamped_more c.loop-p.p c.self.invariant.stacked (ap (λ v. v.nodes) e) (omega arith) (omega arith) (omega arith) c.loop-p.invariant.1),
    )

pub invariant_of-self : goal.invariant_of-self
invariant_of-self g c =
    let now = c.loop-p.self-inside in
    let some = rw (← c.self.view_is) at c.requires.some in
    let border = get_or c.self.inside.borders.now (c.self.inside.depth - 1) 0 in
    let stamped = subst (λ top. Stamped (length c.self.inside.places.now) c.self.inside.places.now now.places.now border top (length c.self.inside.places.now + 1 + c.self.inside.count))
    (omega (arith, c.self.invariant.bordered.within (c.self.inside.depth - 1) (omega (arith, some)))) c.loop-p.invariant.1 in
    subst Search (ap {A = Walking} (λ v. record v { top = border; depth = v.depth - 1; count = v.count + 1 }) (sym c.loop-p.invariant.0))
    (closed c.self.invariant some (rw (← c.self.view_is) at c.requires.over) now.places.now (ap (λ v. v.nodes) c.loop-p.invariant.0) stamped)
