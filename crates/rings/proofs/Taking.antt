-- The weights of edges, taken from the rows one edge after another, are what the book's `discount` takes at once.
-- Subtractions that wrap add up; an edge changes the one row of the name that it leads to, as names have one row each.
use Rattle.std.specs.Prelude.{if◌then◌else◌}
use Rattle.std.proofs.Common.{◌≡◌, ℕ, ◌+◌, ◌^◌, ◌<◌, Bool, true, false, not, ◌&&◌, List, [], ◌∷◌, ◌++◌, map, sym, refl, ap, ◌∙◌, ⊎_elim, arith}
use Rattle.std.proofs.lemmas.Bool.{cond-true, cond-false, and_left, and_right, or_parts, cases_Bool}
use Rattle.rules.specs.Tree.{Name}
use Rattle.rules.specs.Names.{same, among}
use Rattle.rules.specs.Tables.{NameRow, EdgeRow, Counts, some_row, change, row_of}
use Rattle.rules.specs.Rings.{component, closed, minus, from_ring, total, less, discount_row, discount_rows}
use Rattle.rules.proofs.SameNames.{same_eq}
use Rattle.tables.specs.Matching.{shrunk}
use Rattle.rings.specs.Ringed.{Distinct, Small, passes, taken, lessened, DiscountedByEdges}

-- SUBTRACTION THAT WRAPS

pub minus_more : (a b c : ℕ) → minus (minus a b) c ≡ minus a (b + c)
minus_more a b c = omega arith

pub minus_none : (a : ℕ) → a < 2 ^ 32 → minus a 0 ≡ a
minus_none a h = omega arith

-- ONE MORE EDGE

total_push : (p : EdgeRow → Bool) (w : EdgeRow → ℕ) (xs : List EdgeRow) (e : EdgeRow) → total p w (xs ++ (e ∷ [])) ≡ total p w xs + (if p e then w e else 0)
total_push p w [] e = omega arith
total_push p w (x ∷ xs) e = let m = total_push p w xs e in omega arith

-- a row less two sums
abbrev row_less : NameRow → (usage assign : ℕ) → NameRow
row_less r t s = record { name = r.name; usage = minus r.usage t; assign = minus r.assign s; entry = r.entry; counted = r.counted }

-- the sums grow by the weights of an edge, if it counts for the row
less_push : (b : Bool) (r : NameRow) (t s u a t' s' : ℕ) → t' ≡ t + (if b then u else 0) → s' ≡ s + (if b then a else 0)
    → row_less r t' s' ≡ (if b then shrunk u a (row_less r t s) else row_less r t s)
less_push true r t s u a t' s' x y =
    let p = ap (minus r.usage) x ∙ sym (minus_more r.usage t u) in
    let q = ap (minus r.assign) y ∙ sym (minus_more r.assign s a) in
    λ i. record { name = r.name; usage = p i; assign = q i; entry = r.entry; counted = r.counted }
less_push false r t s u a t' s' x y =
    let p : minus r.usage t' ≡ minus r.usage t = ap (minus r.usage) (omega arith) in
    let q : minus r.assign s' ≡ minus r.assign s = ap (minus r.assign) (omega arith) in
    λ i. record { name = r.name; usage = p i; assign = q i; entry = r.entry; counted = r.counted }

taken_push : (p : EdgeRow → Bool) (xs : List EdgeRow) (e : EdgeRow) (r : NameRow)
    → taken p (xs ++ (e ∷ [])) r ≡ (if p e && same e.to r.name then shrunk e.usage e.assign (taken p xs r) else taken p xs r)
taken_push p xs e r =
    let q = λ (x : EdgeRow). p x && same x.to r.name in
    less_push (q e) r (total q (λ x. x.usage) xs) (total q (λ x. x.assign) xs) e.usage e.assign _ _
    (total_push q (λ x. x.usage) xs e) (total_push q (λ x. x.assign) xs e)

-- the row of a name among rows that are seen through f
abbrev there_or : Name → (f to : NameRow → NameRow) → NameRow → NameRow
there_or n f to r = if same n r.name then to (f r) else f r

-- rows of other names stay
others_stay : (n : Name) (f to : NameRow → NameRow) (rs : List NameRow) → some_row (row_of n) rs ≡ false → map f rs ≡ map (there_or n f to) rs
others_stay n f to [] h = refl
others_stay n f to (r ∷ rs) h =
    let q = or_parts (same n r.name) (some_row (row_of n) rs) h in
    ap (λ x. x ∷ map f rs) (sym (cond-false (same n r.name) (to (f r)) (f r) q.0))
    ∙ ap (λ x. there_or n f to r ∷ x) (others_stay n f to rs q.1)

-- the change of the row of a name is a change of every row, where names have one row each
change_map : (n : Name) (f to : NameRow → NameRow) (rs : List NameRow) → ((r : NameRow) → (f r).name ≡ r.name) → Distinct rs
    → change (row_of n) to (map f rs) ≡ map (there_or n f to) rs
change_map n f to [] k d = refl
change_map n f to (r ∷ rs) k d =
    ap (λ (m : Name). if same n m then to (f r) ∷ map f rs else f r ∷ change (row_of n) to (map f rs)) (k r)
    ∙ ⊎_elim
    (λ (b : same n r.name ≡ true).
    cond-true (same n r.name) (to (f r) ∷ map f rs) (f r ∷ change (row_of n) to (map f rs)) b
    ∙ ap (λ x. x ∷ map f rs) (sym (cond-true (same n r.name) (to (f r)) (f r) b))
    ∙ ap (λ x. there_or n f to r ∷ x) (others_stay n f to rs (ap (λ (m : Name). some_row (row_of m) rs) (same_eq n r.name b) ∙ d.0)))
    (λ (b : same n r.name ≡ false).
    cond-false (same n r.name) (to (f r) ∷ map f rs) (f r ∷ change (row_of n) to (map f rs)) b
    ∙ ap (λ x. x ∷ change (row_of n) to (map f rs)) (sym (cond-false (same n r.name) (to (f r)) (f r) b))
    ∙ ap (λ x. there_or n f to r ∷ x) (change_map n f to rs k d.1))
    (cases_Bool (same n r.name))

-- one more edge: the row of the name that it leads to changes, if it passes
pub lessened_more : (p : EdgeRow → Bool) (xs : List EdgeRow) (e : EdgeRow) (rs : List NameRow) → Distinct rs
    → lessened p (xs ++ (e ∷ [])) rs ≡ (if p e then change (row_of e.to) (shrunk e.usage e.assign) (lessened p xs rs) else lessened p xs rs)
lessened_more p xs e rs d =
    let to = shrunk e.usage e.assign in
    let known = λ (b : Bool) (h : p e ≡ b) (r : NameRow). taken_push p xs e r ∙ ap (λ (x : Bool). if x && same e.to r.name then to (taken p xs r) else taken p xs r) h in
    ⊎_elim
    (λ (h : p e ≡ true).
    (λ i. map (λ r. known true h r i) rs)
    ∙ sym (change_map e.to (taken p xs) to rs (λ r. refl) d)
    ∙ sym (cond-true (p e) (change (row_of e.to) to (lessened p xs rs)) (lessened p xs rs) h))
    (λ (h : p e ≡ false).
    (λ i. map (λ r. known false h r i) rs)
    ∙ sym (cond-false (p e) (change (row_of e.to) to (lessened p xs rs)) (lessened p xs rs) h))
    (cases_Bool (p e))

-- no edge yet
pub lessened_none : (p : EdgeRow → Bool) (rs : List NameRow) → Small rs → lessened p [] rs ≡ rs
lessened_none p [] s = refl
lessened_none p (r ∷ rs) s =
    let u = minus_none r.usage s.0 in
    let a = minus_none r.assign s.1 in
    let one : taken p [] r ≡ r = λ i. record { name = r.name; usage = u i; assign = a i; entry = r.entry; counted = r.counted } in
    ap (λ x. x ∷ map (taken p []) rs) one ∙ ap (λ x. r ∷ x) (lessened_none p rs s.2)

-- ALL EDGES

total_nothing : (w : EdgeRow → ℕ) (es : List EdgeRow) → total (λ e. false) w es ≡ 0
total_nothing w [] = refl
total_nothing w (e ∷ es) = let m = total_nothing w es in omega arith

shuffle : (x y : Bool) → ((x && (y && true)) && true) ≡ (true && (x && y))
shuffle true true = refl
shuffle true false = refl
shuffle false true = refl
shuffle false false = refl

module _ (c : Counts) (r : NameRow) where
  -- an edge to the row's name, as one to the name
  abbrev to_row : EdgeRow → Bool
  to_row e = passes c e && same e.to r.name

  abbrev at : Name → EdgeRow → Bool
  at m e = not (same e.from m) && (among e.from (component c.edges m) && closed c m)

  -- a row less the weights of some edges
  abbrev taken_by : (EdgeRow → Bool) → NameRow → NameRow
  taken_by q s = row_less s (total q (λ e. e.usage) c.edges) (total q (λ e. e.assign) c.edges)

  -- in a closed ring the edges that pass are those from the other names of the ring
  ring_edge : closed c r.name ≡ true → (e : EdgeRow) → to_row e ≡ from_ring (component c.edges r.name) r.name e
  ring_edge g e = ⊎_elim
      (λ (s : same e.to r.name ≡ true).
      let x = not (same e.from r.name) in
      let y = among e.from (component c.edges r.name) in
      ap (λ (m : Name). at m e && same e.to r.name) (same_eq e.to r.name s)
      ∙ ap (λ (b : Bool). (x && (y && b)) && same e.to r.name) g
      ∙ ap (λ (b : Bool). (x && (y && true)) && b) s
      ∙ shuffle x y
      ∙ ap (λ (b : Bool). b && (x && y)) (sym s))
      (λ (s : same e.to r.name ≡ false). and_right (passes c e) (same e.to r.name) s ∙ sym (and_left (same e.to r.name) _ s))
      (cases_Bool (same e.to r.name))

  -- elsewhere none passes
  no_edge : closed c r.name ≡ false → (e : EdgeRow) → to_row e ≡ false
  no_edge g e = ⊎_elim
      (λ (s : same e.to r.name ≡ true).
      let x = not (same e.from r.name) in
      let y = among e.from (component c.edges r.name) in
      ap (λ (m : Name). at m e && same e.to r.name) (same_eq e.to r.name s)
      ∙ and_left (x && (y && closed c r.name)) (same e.to r.name) (and_right x (y && closed c r.name) (and_right y (closed c r.name) g)))
      (λ (s : same e.to r.name ≡ false). and_right (passes c e) (same e.to r.name) s)
      (cases_Bool (same e.to r.name))

  taken_all : r.usage < 2 ^ 32 → r.assign < 2 ^ 32 → taken (passes c) c.edges r ≡ discount_row c r
  taken_all hu ha =
      let ring = component c.edges r.name in
      ⊎_elim
      (λ (g : closed c r.name ≡ true).
      let one : taken (passes c) c.edges r ≡ less ring c.edges r = ap (λ q. taken_by q r) (λ i e. ring_edge g e i) in
      one ∙ sym (cond-true (closed c r.name) (less ring c.edges r) r g))
      (λ (g : closed c r.name ≡ false).
      let u = ap (minus r.usage) (total_nothing (λ e. e.usage) c.edges) ∙ minus_none r.usage hu in
      let a = ap (minus r.assign) (total_nothing (λ e. e.assign) c.edges) ∙ minus_none r.assign ha in
      let one : taken (passes c) c.edges r ≡ r =
      ap (λ q. taken_by q r) (λ i e. no_edge g e i) ∙ (λ i. record { name = r.name; usage = u i; assign = a i; entry = r.entry; counted = r.counted }) in
      one ∙ sym (cond-false (closed c r.name) (less ring c.edges r) r g))
      (cases_Bool (closed c r.name))

-- after the last edge each row is the book's
pub lessened_all : (c : Counts) (rs : List NameRow) → Small rs → lessened (passes c) c.edges rs ≡ discount_rows c rs
lessened_all c [] s = refl
lessened_all c (r ∷ rs) s =
    ap (λ x. x ∷ map (taken (passes c) c.edges) rs) (taken_all c r s.0 s.1) ∙ ap (λ x. discount_row c r ∷ x) (lessened_all c rs s.2)

pub discounted_by_edges : DiscountedByEdges
discounted_by_edges c d s =
    (lessened_none (passes c) c.names s, (λ es e. lessened_more (passes c) es e c.names d), lessened_all c c.names s)
