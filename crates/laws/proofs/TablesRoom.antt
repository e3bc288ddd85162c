-- Filling with room and filling without bound: they give the same where the rows that are needed fit, and otherwise the filling with room
-- is refused. A table only grows, so that once it is too large it stays so. Which refusal it is, and at which record, is left aside.
--
--   Bounded, then_bounded          an outcome that is a result exactly if a test passes
--   fits, Larger                   the rows fit; tables grow
--   all_declared, declare_bounded  the declared names, each once
--   fill_bounded                   names and edges
use Rattle.std.proofs.Common.{◌≡◌, ℕ, ◌+◌, ◌≤◌, Bool, true, false, ◌&&◌, ltb, leb, List, [], ◌∷◌, length, sym, refl, ap, ◌∙◌, subst, inl, inr, arith}
use Rattle.std.proofs.lemmas.Bool.{cases_Bool, le-leb}
use Rattle.std.proofs.lemmas.Bool.Decides.{nat_tests}
use Rattle.std.proofs.lemmas.List.{length-map, length_push}
use Rattle.rules.specs.Tree.{Head, Name, name_of}
use Rattle.rules.specs.Refusals.{Outcome, and_then, declared_full, names_full, edges_full}
use Rattle.rules.specs.Refusals.Outcome.{fine, refused}
use Rattle.rules.specs.Names.{same}
use Rattle.rules.specs.Counting.{Event}
use Rattle.rules.specs.Tables.{Counts, no_rows, Room, some_row, need, declare, fresh, row_of, edge_of, need_name, need_edge, grow_edge, grow_name, hold, enter, fill}
use Rattle.rules.proofs.SameNames.{same_refl}
use Rattle.laws.proofs.TablesRows.{with_row, with_change, change_with, keys_with_change, with_row_there, with_row_new}
use Rattle.laws.proofs.TablesFilled.{new_edge, adds_edge, adds, held_by, all_held, entered, filled}
use Rattle.laws.proofs.TablesEdges.{edge_refl}

-- the result a if the test passes, else a refusal
abbrev pub Bounded : {A : Type 0} → Bool → A → Outcome A → Type 0
Bounded b a (fine x) = (b ≡ true) × (x ≡ a)
Bounded b a (refused number at) = b ≡ false

pub then_bounded : {A B : Type 0} (o : Outcome A) (f : A → Outcome B) (b : Bool) (a : A) (b' : Bool) (a' : B) → Bounded b a o → (b ≡ true → Bounded b' a' (f a)) → (b ≡ false → b' ≡ false) → Bounded b' a' (and_then o f)
then_bounded {A} (fine x) f b a b' a' h g k = subst (λ (y : A). Bounded b' a' (f y)) (sym h.1) (g h.0)
then_bounded (refused number at) f b a b' a' h g k = k h

-- SIZES

length_with_row : {Row : Type 0} (is_it : Row → Bool) (new : Row) (rs : List Row) → length rs ≤ length (with_row is_it new rs)
length_with_row is_it new [] = omega arith
length_with_row is_it new (r ∷ rs) = grind (arith, length_with_row is_it new rs)

length_with_change : {Row : Type 0} (is_it : Row → Bool) (new : Row) (to : Row → Row) (rs : List Row) → length (with_change is_it new to rs) ≡ length (with_row is_it new rs)
length_with_change {Row} is_it new to rs =
    let none : Row → ℕ = λ r. 0 in
    sym (length-map (with_change is_it new to rs) none) ∙ (ap length (keys_with_change none is_it new to (λ r. refl) rs) ∙ length-map (with_row is_it new rs) none)

-- a row is needed
need_bounded : {Row : Type 0} (is_it : Row → Bool) (new : Row) (space full at : ℕ) (rs : List Row) → leb (length rs) space ≡ true → Bounded (leb (length (with_row is_it new rs)) space) (with_row is_it new rs) (need is_it new space full at rs)
need_bounded {Row} is_it new space full at rs h = elim (cases_Bool (some_row is_it rs)) [
  | inl e ↦ rw e (rw (with_row_there is_it new rs e) h, sym (with_row_there is_it new rs e))
  | inr e ↦ rw e (elim (cases_Bool (ltb (length rs) space)) [
    | inl l ↦ rw l (grind (arith, nat_tests, size e), sym (with_row_new is_it new rs e))
    | inr l ↦ rw l (grind (arith, nat_tests, size e))
  ])
]
  where
    size : some_row is_it rs ≡ false → length (with_row is_it new rs) ≡ length rs + 1
    size e = ap length (with_row_new is_it new rs e) ∙ length_push rs new

-- THE DECLARED NAMES

-- each once, without bound
abbrev pub all_declared : List Head → List Name → List Name
all_declared [] rows = rows
all_declared (h ∷ hs) rows = all_declared hs (with_row (same (name_of h)) (name_of h) rows)

length_all_declared : (hs : List Head) (rows : List Name) → length rows ≤ length (all_declared hs rows)
length_all_declared [] rows = omega arith
length_all_declared (h ∷ hs) rows =
    let p = length_with_row (same (name_of h)) (name_of h) rows in
    let q = length_all_declared hs (with_row (same (name_of h)) (name_of h) rows) in
    omega arith

-- a size that does not fit stays so
too_large : (space m n : ℕ) → m ≤ n → leb m space ≡ false → leb n space ≡ false
too_large space m n l h = grind (arith, nat_tests)

declare_onward : (space : ℕ) (hs : List Head) (rows : List Name) → leb (length rows) space ≡ true → Bounded (leb (length (all_declared hs rows)) space) (all_declared hs rows) (declare space hs rows)
declare_onward space [] rows h = (h, refl)
declare_onward space (h ∷ hs) rows l =
    let more = with_row (same (name_of h)) (name_of h) rows in
    then_bounded (need (same (name_of h)) (name_of h) space declared_full h.number rows) (λ rs. declare space hs rs) (leb (length more) space) more (leb (length (all_declared hs more)) space) (all_declared hs more)
    (need_bounded (same (name_of h)) (name_of h) space declared_full h.number rows l)
    (λ k. declare_onward space hs more k)
    (too_large space (length more) (length (all_declared hs more)) (length_all_declared hs more))

pub declare_bounded : (space : ℕ) (hs : List Head) → Bounded (leb (length (all_declared hs [])) space) (all_declared hs []) (declare space hs [])
declare_bounded space hs = declare_onward space hs [] (le-leb 0 space (omega arith))

-- NAMES AND EDGES

-- both tables fit
abbrev pub fits : Room → Counts → Bool
fits space c = leb (length c.names) space.names && leb (length c.edges) space.edges

-- tables grow
record Larger (c d : Counts) : Type 0 where
  names : length c.names ≤ length d.names
  edges : length c.edges ≤ length d.edges

larger_than : {c d f : Counts} → Larger c d → Larger d f → Larger c f
larger_than p q = record { names = let a = p.names in let b = q.names in omega arith; edges = let a = p.edges in let b = q.edges in omega arith }

full_stays : (space : Room) {c d : Counts} → Larger c d → fits space c ≡ false → fits space d ≡ false
full_stays space {c} {d} l h = grind (arith, nat_tests, l.names, l.edges)

-- a name's row is there
abbrev name_there : Name → Counts → Counts
name_there n c = record { names = with_row (row_of n) (fresh n) c.names; edges = c.edges }

-- an edge's row is there
abbrev edge_there : (from to : Name) → Counts → Counts
edge_there a b c = record { names = c.names; edges = with_row (edge_of a b) (new_edge a b) c.edges }

larger_name : (n : Name) (c : Counts) → Larger c (name_there n c)
larger_name n c = record { names = length_with_row (row_of n) (fresh n) c.names; edges = omega arith }

larger_edge : (a b : Name) (c : Counts) → Larger c (edge_there a b c)
larger_edge a b c = record { names = omega arith; edges = length_with_row (edge_of a b) (new_edge a b) c.edges }

-- an edge's row that has grown is as large as one that is there
larger_held : (e : Event) (h : Name) (c : Counts) → Larger (edge_there h e.name (name_there e.name (name_there h c))) (held_by e h c)
larger_held e h c = record { names = omega arith; edges = let q = length_with_change (edge_of h e.name) (new_edge h e.name) (adds_edge e) c.edges in omega arith }

larger_all : (e : Event) (hs : List Name) (c : Counts) → Larger c (all_held e hs c)
larger_all e [] c = record { names = omega arith; edges = omega arith }
larger_all e (h ∷ hs) c =
    larger_than (larger_name h c) (larger_than (larger_name e.name (name_there h c))
    (larger_than (larger_edge h e.name (name_there e.name (name_there h c))) (larger_than (larger_held e h c) (larger_all e hs (held_by e h c)))))

larger_noted : (e : Event) (c : Counts) → Larger (name_there e.name (all_held e e.holders c)) (entered e c)
larger_noted e c = record { names = let q = length_with_change (row_of e.name) (fresh e.name) (adds e) (all_held e e.holders c).names in omega arith; edges = omega arith }

larger_entered : (e : Event) (c : Counts) → Larger (all_held e e.holders c) (entered e c)
larger_entered e c = larger_than (larger_name e.name (all_held e e.holders c)) (larger_noted e c)

larger_filled : (es : List Event) (c : Counts) → Larger c (filled es c)
larger_filled [] c = record { names = omega arith; edges = omega arith }
larger_filled (e ∷ es) c = larger_than (larger_all e e.holders c) (larger_than (larger_entered e c) (larger_filled es (entered e c)))

module _ (space : Room) where
  need_name_bounded : (at : ℕ) (n : Name) (c : Counts) → fits space c ≡ true → Bounded (fits space (name_there n c)) (name_there n c) (need_name space at n c)
  need_name_bounded at n c h =
      let rows = with_row (row_of n) (fresh n) c.names in
      then_bounded (need (row_of n) (fresh n) space.names names_full at c.names) _ (leb (length rows) space.names) rows (fits space (name_there n c)) (name_there n c)
      (need_bounded (row_of n) (fresh n) space.names names_full at c.names (grind arith)) (λ q. (grind arith, refl)) (λ q. grind arith)

  need_edge_bounded : (at : ℕ) (a b : Name) (c : Counts) → fits space c ≡ true → Bounded (fits space (edge_there a b c)) (edge_there a b c) (need_edge space at a b c)
  need_edge_bounded at a b c h =
      let rows = with_row (edge_of a b) (new_edge a b) c.edges in
      then_bounded (need (edge_of a b) (new_edge a b) space.edges edges_full at c.edges) _ (leb (length rows) space.edges) rows (fits space (edge_there a b c)) (edge_there a b c)
      (need_bounded (edge_of a b) (new_edge a b) space.edges edges_full at c.edges (grind arith)) (λ q. (grind arith, refl)) (λ q. grind arith)

  hold_bounded : (e : Event) (hs : List Name) (c : Counts) → fits space c ≡ true → Bounded (fits space (all_held e hs c)) (all_held e hs c) (hold space e hs c)
  hold_bounded e [] c h = (h, refl)
  hold_bounded e (h ∷ hs) c l =
      let n = e.name in
      let c1 = name_there h c in
      let c2 = name_there n c1 in
      let c3 = edge_there h n c2 in
      let next = held_by e h c in
      let last = all_held e hs next in
      let grown : grow_edge e h c3 ≡ next = λ i. record { names = c2.names; edges = change_with (edge_of h n) (new_edge h n) (adds_edge e) (edge_refl h n) c.edges i } in
      let as_large : fits space next ≡ fits space c3 = ap (λ (m : ℕ). leb (length c2.names) space.names && leb m space.edges) (length_with_change (edge_of h n) (new_edge h n) (adds_edge e) c.edges) in
      let after : Larger c3 last = larger_than (larger_held e h c) (larger_all e hs next) in
      then_bounded (need_name space e.at h c) _ (fits space c1) c1 (fits space last) last (need_name_bounded e.at h c l)
      (λ q. then_bounded (need_name space e.at n c1) _ (fits space c2) c2 (fits space last) last (need_name_bounded e.at n c1 q)
      (λ q. then_bounded (need_edge space e.at h n c2) _ (fits space c3) c3 (fits space last) last (need_edge_bounded e.at h n c2 q)
      (λ q. subst (λ (x : Counts). Bounded (fits space last) last (hold space e hs x)) (sym grown) (hold_bounded e hs next (as_large ∙ q)))
      (full_stays space after))
      (full_stays space (larger_than (larger_edge h n c2) after)))
      (full_stays space (larger_than (larger_name n c1) (larger_than (larger_edge h n c2) after)))

  enter_bounded : (e : Event) (c : Counts) → fits space c ≡ true → Bounded (fits space (entered e c)) (entered e c) (enter space e c)
  enter_bounded e c l =
      let n = e.name in
      let held = all_held e e.holders c in
      let ready = name_there n held in
      let grown : grow_name e ready ≡ entered e c = λ i. record { names = change_with (row_of n) (fresh n) (adds e) (same_refl n) held.names i; edges = held.edges } in
      let as_large : fits space (entered e c) ≡ fits space ready = ap (λ (m : ℕ). leb m space.names && leb (length held.edges) space.edges) (length_with_change (row_of n) (fresh n) (adds e) held.names) in
      then_bounded (hold space e e.holders c) _ (fits space held) held (fits space (entered e c)) (entered e c) (hold_bounded e e.holders c l)
      (λ q. then_bounded (need_name space e.at n held) _ (fits space ready) ready (fits space (entered e c)) (entered e c) (need_name_bounded e.at n held q)
      (λ q. (as_large ∙ q, grown))
      (full_stays space (larger_noted e c)))
      (full_stays space (larger_entered e c))

  fill_onward : (es : List Event) (c : Counts) → fits space c ≡ true → Bounded (fits space (filled es c)) (filled es c) (fill space es c)
  fill_onward [] c l = (l, refl)
  fill_onward (e ∷ es) c l =
      then_bounded (enter space e c) _ (fits space (entered e c)) (entered e c) (fits space (filled es (entered e c))) (filled es (entered e c)) (enter_bounded e c l)
      (λ q. fill_onward es (entered e c) q)
      (full_stays space (larger_filled es (entered e c)))

  pub fill_bounded : (es : List Event) → Bounded (fits space (filled es no_rows)) (filled es no_rows) (fill space es no_rows)
  fill_bounded es = fill_onward es no_rows (grind (arith, nat_tests))
