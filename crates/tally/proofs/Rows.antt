-- Rows of names and edges as a count leaves them: each name has one row, edges join names that have rows, and counts stay so far below 2^32
-- that what is still to be added fits. A new row keeps all this, and so does one event more in a row, which the words then hold.
--
--   Light, LightEdges                        so much can still be added to each count
--   light_.., distinct_.., known_..          what a new row and a changed one keep
--   grows, grows_edge                        what an event makes of its name's row, and of its edges'
--   grown_is, heavier_is                     in words it is the same
use Rattle.std.specs.Prelude.{if◌then◌else◌}
use Rattle.std.proofs.Common.{◌≡◌, ℕ, zero, suc, ◌+◌, ◌^◌, ◌<◌, ◌≤◌, Bool, true, false, ◌||◌, List, [], ◌∷◌, ◌++◌, sym, refl, ap, ◌∙◌, subst, inl, inr, mod-eq_of_lt, arith}
use Rattle.std.proofs.lemmas.Bool.{cases_Bool, both_ways, or_parts, or_from, or_right}
use Rattle.rules.specs.Tree.{Name}
use Rattle.rules.specs.Names.{same}
use Rattle.rules.specs.Counting.{Event}
use Rattle.rules.specs.Tables.{NameRow, EdgeRow, some_row, fresh, row_of, reads, writes}
use Rattle.rules.proofs.SameNames.{same_eq, same_refl}
use Rattle.tables.specs.Counts.{plus}
use Rattle.tables.specs.Living.{change_nth}
use Rattle.tables.specs.Matching.{names_of, Present, Known, new_edge, grown, entered, marked, heavier}
use Rattle.tables.specs.Ready.{Distinct, Small}
use Rattle.tables.proofs.Numbering.{present_named}

-- k can still be added to each count
abbrev pub Light : ℕ → List NameRow → Type 0
Light k [] = Unit {0}
Light k (r ∷ rs) = (r.usage + k < 2 ^ 32) × (r.assign + k < 2 ^ 32) × Light k rs

abbrev pub LightEdges : ℕ → List EdgeRow → Type 0
LightEdges k [] = Unit {0}
LightEdges k (r ∷ rs) = (r.usage + k < 2 ^ 32) × (r.assign + k < 2 ^ 32) × LightEdges k rs

-- LESS TO COME

pub light_less : (j k : ℕ) (rs : List NameRow) → j ≤ k → Light k rs → Light j rs
light_less j k [] l s = tt
light_less j k (r ∷ rs) l s = (let q = s.0 in omega arith, let q = s.1 in omega arith, light_less j k rs l s.2)

pub light_edges_less : (j k : ℕ) (rs : List EdgeRow) → j ≤ k → LightEdges k rs → LightEdges j rs
light_edges_less j k [] l s = tt
light_edges_less j k (r ∷ rs) l s = (let q = s.0 in omega arith, let q = s.1 in omega arith, light_edges_less j k rs l s.2)

pub light_small : (k : ℕ) (rs : List NameRow) → Light k rs → Small rs
light_small k [] s = tt
light_small k (r ∷ rs) s = (let q = s.0 in omega arith, let q = s.1 in omega arith, light_small k rs s.2)

-- A NEW ROW

pub light_push : (k : ℕ) (rs : List NameRow) (n : Name) → k < 2 ^ 32 → Light k rs → Light k (rs ++ (fresh n ∷ []))
light_push k [] n l s = (omega arith, omega arith, tt)
light_push k (r ∷ rs) n l s = (s.0, s.1, light_push k rs n l s.2)

pub light_edges_push : (k : ℕ) (rs : List EdgeRow) (a b : Name) → k < 2 ^ 32 → LightEdges k rs → LightEdges k (rs ++ (new_edge a b ∷ []))
light_edges_push k [] a b l s = (omega arith, omega arith, tt)
light_edges_push k (r ∷ rs) a b l s = (s.0, s.1, light_edges_push k rs a b l s.2)

pub known_push : (names : List NameRow) (es : List EdgeRow) (a b : Name) → Present names a → Present names b → Known names es → Known names (es ++ (new_edge a b ∷ []))
known_push names [] a b pa pb k = (pa, pb, tt)
known_push names (e ∷ es) a b pa pb k = (k.0, k.1, known_push names es a b pa pb k.2)

turned : (a b : Name) → same a b ≡ false → same b a ≡ false
turned a b q =
    elim (cases_Bool (same b a)) [ inl t ↦ absurd (both_ways (same a b) q (ap (same a) (same_eq b a t) ∙ same_refl a)) | inr f ↦ f ]

-- no row had the name, and the new one has another than these rows
none_push : (m n : Name) (rs : List NameRow) → some_row (row_of m) rs ≡ false → same m n ≡ false → some_row (row_of m) (rs ++ (fresh n ∷ [])) ≡ false
none_push m n [] h d = or_from (same m n) false d refl
none_push m n (r ∷ rs) h d =
    let p = or_parts (same m r.name) (some_row (row_of m) rs) h in
    or_from (same m r.name) (some_row (row_of m) (rs ++ (fresh n ∷ []))) p.0 (none_push m n rs p.1 d)

pub distinct_push : (n : Name) (rs : List NameRow) → some_row (row_of n) rs ≡ false → Distinct rs → Distinct (rs ++ (fresh n ∷ []))
distinct_push n [] h d = (refl, tt)
distinct_push n (r ∷ rs) h d =
    let p = or_parts (same n r.name) (some_row (row_of n) rs) h in
    (none_push r.name n rs d.0 (turned n r.name p.0), distinct_push n rs p.1 d.1)

-- A ROW THAT CHANGES

pub change_twice : {Row : Type 0} (j : ℕ) (f g : Row → Row) (rs : List Row) → change_nth j f (change_nth j g rs) ≡ change_nth j (λ r. f (g r)) rs
change_twice j f g [] = refl
change_twice zero f g (r ∷ rs) = refl
change_twice (suc j) f g (r ∷ rs) = ap (λ x. r ∷ x) (change_twice j f g rs)

pub change_none : {Row : Type 0} (j : ℕ) (rs : List Row) → rs ≡ change_nth j (λ r. r) rs
change_none j [] = refl
change_none zero (r ∷ rs) = refl
change_none (suc j) (r ∷ rs) = ap (λ x. r ∷ x) (change_none j rs)

pub names_kept : (j : ℕ) (to : NameRow → NameRow) → ((r : NameRow) → (to r).name ≡ r.name) → (rs : List NameRow) → names_of (change_nth j to rs) ≡ names_of rs
names_kept j to keeps [] = refl
names_kept zero to keeps (r ∷ rs) = ap (λ x. x ∷ names_of rs) (keeps r)
names_kept (suc j) to keeps (r ∷ rs) = ap (λ x. r.name ∷ x) (names_kept j to keeps rs)

-- whether each name has one row goes by the names alone
pub distinct_named : (rs us : List NameRow) → names_of us ≡ names_of rs → Distinct rs → Distinct us
distinct_named [] [] e d = tt
distinct_named [] (u ∷ us) e d = cc
distinct_named (r ∷ rs) [] e d = tt
distinct_named (r ∷ rs) (u ∷ us) e d =
    let one : u.name ≡ r.name = cc in
    let rest : names_of us ≡ names_of rs = cc in
    (present_named u.name rs us rest ∙ ap (λ n. some_row (row_of n) rs) one ∙ d.0, distinct_named rs us rest d.1)

pub known_change : (names : List NameRow) (j : ℕ) (to : EdgeRow → EdgeRow) → ((r : EdgeRow) → (to r).from ≡ r.from) → ((r : EdgeRow) → (to r).to ≡ r.to)
    → (es : List EdgeRow) → Known names es → Known names (change_nth j to es)
known_change names j to f t [] k = tt
known_change names zero to f t (r ∷ es) k = (subst (Present names) (sym (f r)) k.0, subst (Present names) (sym (t r)) k.1, k.2)
known_change names (suc j) to f t (r ∷ es) k = (k.0, k.1, known_change names j to f t es k.2)

-- AN EVENT IN A ROW

-- an event's name's row with it
abbrev pub grows : Event → NameRow → NameRow
grows e r = record { name = r.name; usage = r.usage + reads e; assign = r.assign + writes e; entry = r.entry || e.entry; counted = true }

-- an edge to its name
abbrev pub grows_edge : Event → EdgeRow → EdgeRow
grows_edge e r = record { from = r.from; to = r.to; usage = r.usage + reads e; assign = r.assign + writes e }

reads_few : (e : Event) → reads e ≤ 1
reads_few e = few e.writes
  where
    few : (b : Bool) → (if b then 0 else 1) ≤ 1
    few true = omega arith
    few false = omega arith

writes_few : (e : Event) → writes e ≤ 1
writes_few e = few e.writes
  where
    few : (b : Bool) → (if b then 1 else 0) ≤ 1
    few true = omega arith
    few false = omega arith

pub light_grows : (k : ℕ) (e : Event) (j : ℕ) (rs : List NameRow) → Light (suc k) rs → Light k (change_nth j (grows e) rs)
light_grows k e j [] s = tt
light_grows k e zero (r ∷ rs) s =
    (let q = s.0 in let w = reads_few e in omega arith, let q = s.1 in let w = writes_few e in omega arith, light_less k (suc k) rs (omega arith) s.2)
light_grows k e (suc j) (r ∷ rs) s = (let q = s.0 in omega arith, let q = s.1 in omega arith, light_grows k e j rs s.2)

pub light_edges_grow : (k : ℕ) (e : Event) (j : ℕ) (rs : List EdgeRow) → LightEdges (suc k) rs → LightEdges k (change_nth j (grows_edge e) rs)
light_edges_grow k e j [] s = tt
light_edges_grow k e zero (r ∷ rs) s =
    (let q = s.0 in let w = reads_few e in omega arith, let q = s.1 in let w = writes_few e in omega arith, light_edges_less k (suc k) rs (omega arith) s.2)
light_edges_grow k e (suc j) (r ∷ rs) s = (let q = s.0 in omega arith, let q = s.1 in omega arith, light_edges_grow k e j rs s.2)

-- addition in words is addition, where the sum fits
plus_is : (a b : ℕ) → a + b < 2 ^ 32 → plus a b ≡ a + b
plus_is a b l = mod-eq_of_lt l

-- a row that becomes an entry, if it is to be one
abbrev pub made : Bool → NameRow → NameRow
made true r = entered r
made false r = r

made_is : (b : Bool) (r : NameRow) → made b r ≡ record { name = r.name; usage = r.usage; assign = r.assign; entry = r.entry || b; counted = r.counted }
made_is true r = λ i. record { name = r.name; usage = r.usage; assign = r.assign; entry = sym (or_right r.entry true refl) i; counted = r.counted }
made_is false r = λ i. record { name = r.name; usage = r.usage; assign = r.assign; entry = plain r.entry i; counted = r.counted }
  where
    plain : (b : Bool) → b ≡ (b || false)
    plain true = refl
    plain false = refl

-- a row's words that grow, may become an entry and are counted are those of the row with the event
grown_row : (e : Event) (r : NameRow) → r.usage + 1 < 2 ^ 32 → r.assign + 1 < 2 ^ 32 → marked (made e.entry (grown (reads e) (writes e) r)) ≡ grows e r
grown_row e r u a =
    let x = plus_is r.usage (reads e) (let w = reads_few e in omega arith) in
    let y = plus_is r.assign (writes e) (let w = writes_few e in omega arith) in
    ap marked (made_is e.entry (grown (reads e) (writes e) r))
    ∙ (λ i. record { name = r.name; usage = x i; assign = y i; entry = r.entry || e.entry; counted = true })

pub grown_is : (e : Event) (j : ℕ) (rs : List NameRow) → Light 1 rs
    → change_nth j (λ r. marked (made e.entry (grown (reads e) (writes e) r))) rs ≡ change_nth j (grows e) rs
grown_is e j [] s = refl
grown_is e zero (r ∷ rs) s = ap (λ x. x ∷ rs) (grown_row e r s.0 s.1)
grown_is e (suc j) (r ∷ rs) s = ap (λ x. r ∷ x) (grown_is e j rs s.2)

heavier_row : (e : Event) (r : EdgeRow) → r.usage + 1 < 2 ^ 32 → r.assign + 1 < 2 ^ 32 → heavier (reads e) (writes e) r ≡ grows_edge e r
heavier_row e r u a =
    let x = plus_is r.usage (reads e) (let w = reads_few e in omega arith) in
    let y = plus_is r.assign (writes e) (let w = writes_few e in omega arith) in
    λ i. record { from = r.from; to = r.to; usage = x i; assign = y i }

pub heavier_is : (e : Event) (j : ℕ) (rs : List EdgeRow) → LightEdges 1 rs → change_nth j (heavier (reads e) (writes e)) rs ≡ change_nth j (grows_edge e) rs
heavier_is e j [] s = refl
heavier_is e zero (r ∷ rs) s = ap (λ x. x ∷ rs) (heavier_row e r s.0 s.1)
heavier_is e (suc j) (r ∷ rs) s = ap (λ x. r ∷ x) (heavier_is e j rs s.2)
