-- The first row that passes: where it stands, how it changes, and that the book's numbers of names are such rows.
use Rattle.std.specs.Prelude.{if◌then◌else◌}
use Rattle.std.proofs.Common.{◌≡◌, ℕ, suc, ◌+◌, ◌-◌, ◌<◌, ◌≤◌, Bool, true, false, ◌||◌, eqb, List, [], ◌∷◌, ◌++◌, map, length, is_some, Some, None, sym, refl, ap, ◌∙◌, ⊎_elim, arith}
use Rattle.std.proofs.lemmas.Bool.{cond-true, cond-false, cases_Bool, both_ways, eq-eqb, ne_eqb, or_cases, or_left, or_right, cond_both}
use Rattle.rules.specs.Tree.{Name}
use Rattle.rules.specs.Names.{same}
use Rattle.rules.specs.Tables.{NameRow, some_row, change, look, row_of, row_number}
use Rattle.rules.proofs.SameNames.{same_eq, same_refl}
use Rattle.tables.specs.Living.{first_from, first_row, nth, change_nth}
use Rattle.tables.specs.Matching.{numbered, names_of, Present}

-- rows seen through another form
pub first_map : {Row Other : Type 0} (f : Row → Other) (passes : Other → Bool) (n : ℕ) (rs : List Row)
    → first_from passes n (map f rs) ≡ first_from (λ r. passes (f r)) n rs
first_map f passes n [] = refl
first_map f passes n (r ∷ rs) = ap (λ x. if passes (f r) then Some (n + 1) else x) (first_map f passes (n + 1) rs)

module _ {Row : Type 0} (passes : Row → Bool) where
  -- some row passes if there is a first
  pub first_some : (n : ℕ) (rs : List Row) → is_some (first_from passes n rs) ≡ some_row passes rs
  first_some n [] = refl
  first_some n (r ∷ rs) =
      let more = first_some (n + 1) rs in
      elim (passes r) as (λ (b : Bool). is_some (if b then Some (n + 1) else first_from passes (n + 1) rs) ≡ (b || some_row passes rs)) [ true ↦ refl | false ↦ more ]

  -- the first is one of the rows, it passes, and the book's change is the change of it
  pub record First (n k : ℕ) (rs : List Row) : Type 0 where
    pub above : n < k
    pub within : k ≤ n + length rs
    pub row : Row
    pub stands : nth (k - n - 1) rs ≡ Some row
    pub passing : passes row ≡ true
    pub changes : (to : Row → Row) → change passes to rs ≡ change_nth (k - n - 1) to rs

  pub first_at : (n k : ℕ) (rs : List Row) → first_from passes n rs ≡ Some k → First n k rs
  first_at n k [] e = cc
  first_at n k (r ∷ rs) e =
      ⊎_elim
      (λ (b : passes r ≡ true).
      let q : Some (n + 1) ≡ Some k = sym (cond-true (passes r) (Some (n + 1)) (first_from passes (n + 1) rs) b) ∙ e in
      let z : n + 1 ≡ k = cc in
      let here : k - n - 1 ≡ 0 = omega arith in
      record {
        above = omega arith;
        within = omega arith;
        row = r;
        stands = ap (λ j. nth j (r ∷ rs)) here;
        passing = b;
        changes = λ to. cond-true (passes r) (to r ∷ rs) (r ∷ change passes to rs) b ∙ sym (ap (λ j. change_nth j to (r ∷ rs)) here);
      })
      (λ (b : passes r ≡ false).
      let more = first_at (n + 1) k rs (sym (cond-false (passes r) (Some (n + 1)) (first_from passes (n + 1) rs) b) ∙ e) in
      let above = more.above in
      let within = more.within in
      let later : k - n - 1 ≡ suc (k - (n + 1) - 1) = omega arith in
      record {
        above = omega arith;
        within = omega arith;
        row = more.row;
        stands = ap (λ j. nth j (r ∷ rs)) later ∙ more.stands;
        passing = more.passing;
        changes = λ to. cond-false (passes r) (to r ∷ rs) (r ∷ change passes to rs) b ∙ ap (λ x. r ∷ x) (more.changes to) ∙ sym (ap (λ j. change_nth j to (r ∷ rs)) later);
      })
      (cases_Bool (passes r))

-- tests that agree on the rows find the same
abbrev pub Agree : {Row : Type 0} → (p q : Row → Bool) → List Row → Type 0
Agree p q [] = Unit {0}
Agree p q (r ∷ rs) = (p r ≡ q r) × Agree p q rs

pub first_alike : {Row : Type 0} (p q : Row → Bool) (n : ℕ) (rs : List Row) → Agree p q rs → first_from p n rs ≡ first_from q n rs
first_alike p q n [] h = refl
first_alike p q n (r ∷ rs) h =
    ap (λ b. if b then Some (n + 1) else first_from p (n + 1) rs) h.0
    ∙ ap (λ x. if q r then Some (n + 1) else x) (first_alike p q (n + 1) rs h.1)

-- the row of a name
numbered_from : (n : ℕ) (m : Name) (rs : List NameRow) → first_from (row_of m) n rs ≡ (if some_row (row_of m) rs then Some (n + row_number m rs) else None)
numbered_from n m [] = refl
numbered_from n m (r ∷ rs) =
    let more = numbered_from (n + 1) m rs ∙ ap (λ j. if some_row (row_of m) rs then Some j else None) (let q : n + 1 + row_number m rs ≡ n + suc (row_number m rs) = omega arith in q) in
    elim (same m r.name) as (λ (b : Bool).
    (if b then Some (n + 1) else first_from (row_of m) (n + 1) rs)
    ≡ (if b || some_row (row_of m) rs then Some (n + (if b then 1 else suc (row_number m rs))) else None)) [ true ↦ refl | false ↦ more ]

pub numbered_first : (m : Name) (rs : List NameRow) → first_row (row_of m) rs ≡ numbered m rs
numbered_first m rs =
    numbered_from 0 m rs ∙ ap (λ j. if some_row (row_of m) rs then Some j else None) (let q : 0 + row_number m rs ≡ row_number m rs = omega arith in q)

-- the row that is looked at
pub look_first : (n k : ℕ) (m : Name) (rs : List NameRow) → first_from (row_of m) n rs ≡ Some k → nth (k - n - 1) rs ≡ Some (look m rs)
look_first n k m [] e = cc
look_first n k m (r ∷ rs) e =
    ⊎_elim
    (λ (b : same m r.name ≡ true).
    let q : Some (n + 1) ≡ Some k = sym (cond-true (same m r.name) (Some (n + 1)) (first_from (row_of m) (n + 1) rs) b) ∙ e in
    let z : n + 1 ≡ k = cc in
    ap (λ j. nth j (r ∷ rs)) (let here : k - n - 1 ≡ 0 = omega arith in here)
    ∙ ap Some (sym (cond-true (same m r.name) r (look m rs) b)))
    (λ (b : same m r.name ≡ false).
    let f = sym (cond-false (same m r.name) (Some (n + 1)) (first_from (row_of m) (n + 1) rs) b) ∙ e in
    let above = (first_at (row_of m) (n + 1) k rs f).above in
    ap (λ j. nth j (r ∷ rs)) (let later : k - n - 1 ≡ suc (k - (n + 1) - 1) = omega arith in later)
    ∙ look_first (n + 1) k m rs f
    ∙ ap Some (sym (cond-false (same m r.name) r (look m rs) b)))
    (cases_Bool (same m r.name))

-- numbers of names count from 1
pub number_positive : (m : Name) (rs : List NameRow) → 0 < row_number m rs
number_positive m [] = omega arith
number_positive m (r ∷ rs) = cond_both (same m r.name) 1 (suc (row_number m rs)) (λ n. 0 < n) (λ e. omega arith) (λ e. omega arith)

-- a name that has a row and is not that of the first has one among the rest
present_rest : (m : Name) (r : NameRow) (rs : List NameRow) → same m r.name ≡ false → Present (r ∷ rs) m → Present rs m
present_rest m r rs b p =
    ⊎_elim (λ (t : same m r.name ≡ true). absurd (both_ways (same m r.name) b t)) (λ t. t) (or_cases (same m r.name) (some_row (row_of m) rs) p)

-- names that have rows have one number exactly if they are one
numbers_apart : (a b : Name) (rs : List NameRow) → Present rs a → Present rs b → same a b ≡ false → row_number a rs ≡ row_number b rs → ⊥
numbers_apart a b [] pa pb d e = let z : ◌≡◌ {A = Bool} false true = pa in both_ways false refl z
numbers_apart a b (r ∷ rs) pa pb d e =
    ⊎_elim
    (λ (x : same a r.name ≡ true). ⊎_elim
    (λ (y : same b r.name ≡ true).
    both_ways (same a b) d (ap (same a) (same_eq b r.name y ∙ sym (same_eq a r.name x)) ∙ same_refl a))
    (λ (y : same b r.name ≡ false).
    let p = number_positive b rs in
    let ea = cond-true (same a r.name) 1 (suc (row_number a rs)) x in
    let eb = cond-false (same b r.name) 1 (suc (row_number b rs)) y in omega arith)
    (cases_Bool (same b r.name)))
    (λ (x : same a r.name ≡ false). ⊎_elim
    (λ (y : same b r.name ≡ true).
    let p = number_positive a rs in
    let ea = cond-false (same a r.name) 1 (suc (row_number a rs)) x in
    let eb = cond-true (same b r.name) 1 (suc (row_number b rs)) y in omega arith)
    (λ (y : same b r.name ≡ false).
    let ea = cond-false (same a r.name) 1 (suc (row_number a rs)) x in
    let eb = cond-false (same b r.name) 1 (suc (row_number b rs)) y in
    numbers_apart a b rs (present_rest a r rs x pa) (present_rest b r rs y pb) d (omega arith))
    (cases_Bool (same b r.name)))
    (cases_Bool (same a r.name))

pub numbers_same : (a b : Name) (rs : List NameRow) → Present rs a → Present rs b → eqb (row_number a rs) (row_number b rs) ≡ same a b
numbers_same a b rs pa pb =
    ⊎_elim
    (λ (t : same a b ≡ true). eq-eqb _ _ (ap (λ n. row_number n rs) (same_eq a b t)) ∙ sym t)
    (λ (f : same a b ≡ false). ne_eqb _ _ (numbers_apart a b rs pa pb f) ∙ sym f)
    (cases_Bool (same a b))

-- a name keeps its row and number when rows come behind
pub present_more : (m : Name) (rs more : List NameRow) → Present rs m → Present (rs ++ more) m
present_more m [] more p = let z : ◌≡◌ {A = Bool} false true = p in absurd (both_ways false refl z)
present_more m (r ∷ rs) more p =
    ⊎_elim
    (λ (t : same m r.name ≡ true). or_left (same m r.name) (some_row (row_of m) (rs ++ more)) t)
    (λ (f : same m r.name ≡ false). or_right (same m r.name) (some_row (row_of m) (rs ++ more)) (present_more m rs more (present_rest m r rs f p)))
    (cases_Bool (same m r.name))

pub number_more : (m : Name) (rs more : List NameRow) → Present rs m → row_number m (rs ++ more) ≡ row_number m rs
number_more m [] more p = let z : ◌≡◌ {A = Bool} false true = p in absurd (both_ways false refl z)
number_more m (r ∷ rs) more p =
    ⊎_elim
    (λ (t : same m r.name ≡ true). cond-true (same m r.name) 1 (suc (row_number m (rs ++ more))) t ∙ sym (cond-true (same m r.name) 1 (suc (row_number m rs)) t))
    (λ (f : same m r.name ≡ false). ap (λ n. if same m r.name then 1 else suc n) (number_more m rs more (present_rest m r rs f p)))
    (cases_Bool (same m r.name))

-- both go by the names alone
pub number_named : (m : Name) (rs us : List NameRow) → names_of us ≡ names_of rs → row_number m us ≡ row_number m rs
number_named m [] [] e = refl
number_named m [] (u ∷ us) e = cc
number_named m (r ∷ rs) [] e = cc
number_named m (r ∷ rs) (u ∷ us) e =
    let one : u.name ≡ r.name = cc in
    let rest : names_of us ≡ names_of rs = cc in
    ap (λ n. if same m n then 1 else suc (row_number m us)) one ∙ ap (λ j. if same m r.name then 1 else suc j) (number_named m rs us rest)

pub present_named : (m : Name) (rs us : List NameRow) → names_of us ≡ names_of rs → some_row (row_of m) us ≡ some_row (row_of m) rs
present_named m [] [] e = refl
present_named m [] (u ∷ us) e = cc
present_named m (r ∷ rs) [] e = cc
present_named m (r ∷ rs) (u ∷ us) e =
    let one : u.name ≡ r.name = cc in
    let rest : names_of us ≡ names_of rs = cc in
    ap (λ n. same m n || some_row (row_of m) us) one ∙ ap (λ b. same m r.name || b) (present_named m rs us rest)
