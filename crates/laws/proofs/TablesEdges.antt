-- What the edges tell, event by event: whether some edge passes a test of its two names, and the weights of those that do.
-- Two rows of one edge would do no harm here: their weights are added up.
--
--   edged, some_edge_entered, edged_commutes      some edge passes
--   weighed, weights_entered, weighed_commutes    the weights of the edges that pass
use Rattle.std.specs.Prelude.{if◌then◌else◌}
use Rattle.std.proofs.Common.{◌≡◌, ℕ, ◌+◌, Bool, true, false, ◌||◌, List, [], ◌∷◌, sym, refl, ap, ◌∙◌, subst₂, arith}
use mathlib.Core.Bool.{or_self}
use Rattle.std.proofs.lemmas.Bool.{and_parts, and_from}
use Rattle.rules.specs.Tree.{Name}
use Rattle.rules.specs.Names.{same}
use Rattle.rules.specs.Counting.{Event}
use Rattle.rules.specs.Tables.{EdgeRow, Counts, some_row, edge_of, reads, writes}
use Rattle.rules.specs.Rings.{total}
use Rattle.rules.proofs.SameNames.{same_eq, same_refl}
use Rattle.laws.proofs.Basics.{or_swap, Commutes}
use Rattle.laws.proofs.TablesRows.{with_change, some_with_change, total_with_change}
use Rattle.laws.proofs.TablesFilled.{new_edge, adds_edge, held_by, all_held, entered}

-- an edge is the one between two names
pub edge_eq : (a b : Name) (r : EdgeRow) → edge_of a b r ≡ true → (a ≡ r.from) × (b ≡ r.to)
edge_eq a b r h = let p = and_parts (same a r.from) (same b r.to) h in (same_eq a r.from p.0, same_eq b r.to p.1)

pub edge_refl : (a b : Name) → edge_of a b (new_edge a b) ≡ true
edge_refl a b = and_from (same a a) (same b b) (same_refl a) (same_refl b)

-- THE EDGES THERE ARE

-- some edge passes a test of its two names
abbrev pub some_edge : (Name → Name → Bool) → List EdgeRow → Bool
some_edge p rs = some_row (λ r. p r.from r.to) rs

some_edge_changed : (p : Name → Name → Bool) (a b : Name) (e : Event) (rs : List EdgeRow) → some_edge p (with_change (edge_of a b) (new_edge a b) (adds_edge e) rs) ≡ (p a b || some_edge p rs)
some_edge_changed p a b e rs = some_with_change (λ r. p r.from r.to) (edge_of a b) (new_edge a b) (adds_edge e) (p a b) refl
    (λ r q. let (x, y) = edge_eq a b r q in subst₂ (λ (u v : Name). p u v ≡ (p a b || p u v)) x y (sym (or_self (p a b)))) rs

-- a test of the edges that an event brings
abbrev pub held_edge : (Name → Name → Bool) → List Name → Name → Bool
held_edge p [] n = false
held_edge p (h ∷ hs) n = p h n || held_edge p hs n

some_edge_held : (p : Name → Name → Bool) (e : Event) (hs : List Name) (c : Counts) → some_edge p (all_held e hs c).edges ≡ (held_edge p hs e.name || some_edge p c.edges)
some_edge_held p e [] c = refl
some_edge_held p e (h ∷ hs) c = grind (arith, some_edge_held p e hs (held_by e h c), some_edge_changed p h e.name e c.edges)

-- the same after an event
abbrev pub edged : (Name → Name → Bool) → Bool → Event → Bool
edged p b e = held_edge p e.holders e.name || b

pub some_edge_entered : (p : Name → Name → Bool) (e : Event) (c : Counts) → some_edge p (entered e c).edges ≡ edged p (some_edge p c.edges) e
some_edge_entered p e c = some_edge_held p e e.holders c

pub edged_commutes : (p : Name → Name → Bool) → Commutes (edged p)
edged_commutes p x y r = or_swap (held_edge p x.holders x.name) (held_edge p y.holders y.name) r

-- THEIR WEIGHTS

-- usage, or assign
abbrev pub weight : (assigns : Bool) → EdgeRow → ℕ
weight true r = r.assign
weight false r = r.usage

-- what an event adds to it
abbrev pub weighs : (assigns : Bool) → Event → ℕ
weighs true e = writes e
weighs false e = reads e

-- the weights of the edges that pass a test
abbrev pub weights : (assigns : Bool) → (Name → Name → Bool) → List EdgeRow → ℕ
weights a p rs = total (λ r. p r.from r.to) (weight a) rs

new_share : (a b : Bool) (f t : Name) (e : Event) → (if b then weight a (adds_edge e (new_edge f t)) else 0) ≡ (if b then weighs a e else 0)
new_share a b f t e = grind arith

more_share : (a b : Bool) (r : EdgeRow) (e : Event) → (if b then weight a (adds_edge e r) else 0) ≡ (if b then weight a r else 0) + (if b then weighs a e else 0)
more_share a b r e = grind arith

weights_changed : (a : Bool) (p : Name → Name → Bool) (f t : Name) (e : Event) (rs : List EdgeRow) → weights a p (with_change (edge_of f t) (new_edge f t) (adds_edge e) rs) ≡ weights a p rs + (if p f t then weighs a e else 0)
weights_changed a p f t e rs = total_with_change (λ r. p r.from r.to) (weight a) (edge_of f t) (new_edge f t) (adds_edge e) (if p f t then weighs a e else 0)
    (new_share a (p f t) f t e)
    (λ r q. let (x, y) = edge_eq f t r q in
    more_share a (p r.from r.to) r e ∙ ap (λ (b : Bool). (if p r.from r.to then weight a r else 0) + (if b then weighs a e else 0)) (λ i. p (sym x i) (sym y i))) rs

held_weight : Bool → (Name → Name → Bool) → List Name → Event → ℕ
held_weight a p [] e = 0
held_weight a p (h ∷ hs) e = (if p h e.name then weighs a e else 0) + held_weight a p hs e

weights_held : (a : Bool) (p : Name → Name → Bool) (e : Event) (hs : List Name) (c : Counts) → weights a p (all_held e hs c).edges ≡ weights a p c.edges + held_weight a p hs e
unfolding held_weight
weights_held a p e [] c = omega arith
weights_held a p e (h ∷ hs) c =
    let ih = weights_held a p e hs (held_by e h c) in
    let g = weights_changed a p h e.name e c.edges in
    omega arith

pub weighed : Bool → (Name → Name → Bool) → ℕ → Event → ℕ
weighed a p k e = k + held_weight a p e.holders e

pub weights_entered : (a : Bool) (p : Name → Name → Bool) (e : Event) (c : Counts) → weights a p (entered e c).edges ≡ weighed a p (weights a p c.edges) e
unfolding weighed
weights_entered a p e c = weights_held a p e e.holders c

pub weighed_commutes : (a : Bool) (p : Name → Name → Bool) → Commutes (weighed a p)
unfolding weighed
weighed_commutes a p x y r = omega arith
