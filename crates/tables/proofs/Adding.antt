-- What an insertion comes to, on any words. Words are their rows and what is left behind them, and a row that is put there
-- comes next; behind it stands whatever stood behind the first free row.
use Rattle.std.proofs.Common.{◌≡◌, ℕ, zero, suc, ◌+◌, ◌*◌, ◌/◌, ◌<◌, ◌≤◌, Bool, true, false, eqb, List, [], ◌∷◌, ◌++◌, length, get_or, take, drop, Some, None, sym, ap, ◌∙◌, subst, ⊎_elim, append_assoc, append-nil, suc-mul, zero-mul, div-mul-le_self, arith, length-drop}
use Rattle.std.specs.Cmp.{IsEquivalence}
use Rattle.std.specs.List.{flat_map}
use Rattle.std.proofs.lemmas.List.{take_at, drop-drop, take-append-drop, length-take-le, map-id}
use Rattle.std.proofs.lemmas.Bool.{cond-true, cond-false, cases_Bool, eqb-false, ltb-true, cases_eq}
use Rattle.tables.specs.Living.{cut, before_zero, rows, used, free, behind, keyed, first_from, first_row, put_row, added}
use Rattle.tables.specs.Held.{Proper, Holds}
use Rattle.tables.specs.Inserting.{ComesAlive, FoundThere, OthersStay, HoldsMore}
use Rattle.tables.proofs.Cutting.{rows_end, rows_cons}
use Rattle.tables.proofs.Holding.{joined_length, joined_rows, holds_used, holds_length, holds_more, holds_behind}

-- rows up to the first that begins with 0 are proper, and the words begin with them
record Fronted (w : ℕ) (t : List ℕ) (rs : List (List ℕ)) : Type 0 where
  proper : Proper w (λ r. r) rs
  front : t ≡ flat_map (λ r. r) rs ++ drop (length rs * w) t

fronted : (n w : ℕ) (t : List ℕ) → n * w ≤ length t → Fronted w t (before_zero (cut n w t))
unfolding cut before_zero
fronted zero w t h = record { proper = tt; front = ap (λ k. drop k t) (sym (zero-mul w)) }
fronted (suc n) w t h =
    let e = suc-mul n w in
    let l : w ≤ length t = omega arith in
    let ih = fronted n w (drop w t) (simp length-drop (omega arith)) in
    let rest = before_zero (cut n w (drop w t)) in
    ⊎_elim
    (λ (b : eqb (get_or (take w t) 0 0) 0 ≡ true).
    subst (Fronted w t) (sym (cond-true (eqb (get_or (take w t) 0 0) 0) [] (take w t ∷ rest) b))
    (record { proper = tt; front = ap (λ k. drop k t) (sym (zero-mul w)) }))
    (λ (b : eqb (get_or (take w t) 0 0) 0 ≡ false).
    let z = eqb-false (get_or (take w t) 0 0) 0 b in
    let m = suc-mul (length rest) w in
    subst (Fronted w t) (sym (cond-false (eqb (get_or (take w t) 0 0) 0) [] (take w t ∷ rest) b))
    (record {
      proper = (length-take-le w t l, omega arith, ih.proper);
      front =
          sym (take-append-drop w t)
          ∙ ap (λ x. take w t ++ x) ih.front
          ∙ sym (append_assoc (take w t) (flat_map (λ r. r) rest) (drop (length rest * w) (drop w t)))
          ∙ ap (λ x. (take w t ++ flat_map (λ r. r) rest) ++ x)
          (drop-drop (length rest * w) w t ∙ ap (λ k. drop k t) (let q : w + length rest * w ≡ suc (length rest) * w = omega arith in q));
    }))
    (cases_Bool (eqb (get_or (take w t) 0 0) 0))

rows_front : (w : ℕ) (t : List ℕ) → Fronted w t (rows w t)
unfolding rows
rows_front w t = fronted (length t / w) w t (div-mul-le_self (length t) w)

-- the rows of a table with a row put behind its last
put_rows : (w : ℕ) (row t : List ℕ) → 0 < w
    → rows w (put_row (used w t * w) row t) ≡ rows w t ++ rows w (row ++ drop (length row) (drop (used w t * w) t))
put_rows w row t z =
    let f = rows_front w t in
    let rest = row ++ drop (length row) (drop (used w t * w) t) in
    ap (λ x. rows w (x ++ rest)) (ap (take (used w t * w)) f.front ∙ take_at (flat_map (λ r. r) (rows w t)) _ (used w t * w) (joined_length w (λ r. r) z (rows w t) f.proper))
    ∙ joined_rows w (λ r. r) z (rows w t) rest f.proper
    ∙ ap (λ x. x ++ rows w rest) (map-id (rows w t))

module _ (w : ℕ) (row t : List ℕ) (some : 0 < w) (whole : length row ≡ w) where
  -- a row that does not begin with 0 comes next
  put_alive : 0 < get_or row 0 0 → rows w (put_row (used w t * w) row t) ≡ rows w t ++ (row ∷ rows w (behind w t))
  put_alive first =
      put_rows w row t some
      ∙ ap (λ x. rows w t ++ x) (rows_cons w row (drop (length row) (drop (used w t * w) t)) some whole first)
      ∙ ap (λ x. rows w t ++ (row ∷ rows w x)) (drop-drop (length row) (used w t * w) t ∙ ap (λ k. drop (used w t * w + k) t) whole)

  -- one that does ends the rows where they ended
  put_dead : get_or row 0 0 ≡ 0 → rows w (put_row (used w t * w) row t) ≡ rows w t
  put_dead first =
      put_rows w row t some
      ∙ ap (λ x. rows w t ++ x) (rows_end w row (drop (length row) (drop (used w t * w) t)) some whole first)
      ∙ append-nil (rows w t)

module _ {Row : Type 0} (passes : Row → Bool) where
  -- no row passes, and then one does
  pub first_next : (n : ℕ) (rs more : List Row) (r : Row) → first_from passes n rs ≡ None → passes r ≡ true
      → first_from passes n (rs ++ (r ∷ more)) ≡ Some (n + length rs + 1)
  first_next n [] more r e p = cond-true (passes r) (Some (n + 1)) (first_from passes (n + 1) more) p ∙ ap Some (let q : n + 1 ≡ n + 0 + 1 = omega arith in q)
  first_next n (x ∷ rs) more r e p =
      ⊎_elim
      (λ (b : passes x ≡ true).
      let q : Some (n + 1) ≡ None = sym (cond-true (passes x) (Some (n + 1)) (first_from passes (n + 1) rs) b) ∙ e in
      cc)
      (λ (b : passes x ≡ false).
      cond-false (passes x) (Some (n + 1)) (first_from passes (n + 1) (rs ++ (r ∷ more))) b
      ∙ first_next (n + 1) rs more r (sym (cond-false (passes x) (Some (n + 1)) (first_from passes (n + 1) rs) b) ∙ e) p
      ∙ ap Some (let q : n + 1 + length rs + 1 ≡ n + length (x ∷ rs) + 1 = omega arith in q))
      (cases_Bool (passes x))

  -- a last row that does not pass changes nothing
  first_same : (n : ℕ) (rs : List Row) (r : Row) → passes r ≡ false → first_from passes n (rs ++ (r ∷ [])) ≡ first_from passes n rs
  first_same n [] r p = cond-false (passes r) (Some (n + 1)) None p
  first_same n (x ∷ rs) r p =
      ⊎_elim
      (λ (b : passes x ≡ true).
      cond-true (passes x) (Some (n + 1)) (first_from passes (n + 1) (rs ++ (r ∷ []))) b
      ∙ sym (cond-true (passes x) (Some (n + 1)) (first_from passes (n + 1) rs) b))
      (λ (b : passes x ≡ false).
      cond-false (passes x) (Some (n + 1)) (first_from passes (n + 1) (rs ++ (r ∷ []))) b
      ∙ first_same (n + 1) rs r p
      ∙ sym (cond-false (passes x) (Some (n + 1)) (first_from passes (n + 1) rs) b))
      (cases_Bool (passes x))

-- a key that differs from another differs from a row with that key
other_row : {Key : Type 0} (same : Key → Key → Bool) → IsEquivalence same
    → (k other read : Key) → same k read ≡ true → same other k ≡ false → same other read ≡ false
other_row same laws k other read at apart = laws.symm other read ∙ sym (laws.congr k read other at) ∙ laws.symm k other ∙ apart

-- an insertion that finds a free row writes there, one that finds none leaves all
added_put : (w : ℕ) (row t u : List ℕ) → u ≡ added w row t → free w t ≡ true → u ≡ put_row (used w t * w) row t
added_put w row t u e f = e ∙ cond-true (free w t) (put_row (used w t * w) row t) t f

added_same : (w : ℕ) (row t u : List ℕ) → u ≡ added w row t → free w t ≡ false → u ≡ t
added_same w row t u e f = e ∙ cond-false (free w t) (put_row (used w t * w) row t) t f

module _ {Key : Type 0} (same : Key → Key → Bool) (key_of : List ℕ → Key) (k : Key) (w : ℕ) (row t u : List ℕ)
    (some : 0 < w) (whole : length row ≡ w) (reads : same k (key_of row) ≡ true) (words : u ≡ added w row t) where
  pub comes_alive : ComesAlive w row t u
  comes_alive f first = ap (rows w) (added_put w row t u words f) ∙ put_alive w row t some whole first

  pub found_there : FoundThere (keyed same key_of k) w row t u
  found_there f first none =
      ap (first_row (keyed same key_of k)) (comes_alive f first)
      ∙ first_next (keyed same key_of k) 0 (rows w t) (rows w (behind w t)) row none reads
      ∙ ap Some (let q : 0 + used w t + 1 ≡ used w t + 1 = omega arith in q)

  pub others_stay : IsEquivalence same → OthersStay same key_of k w t u
  others_stay laws nothing other apart =
      let passes = keyed same key_of other in
      ⊎_elim
      (λ (f : free w t ≡ true).
      ap (λ x. first_row passes (rows w x)) (added_put w row t u words f)
      ∙ ⊎_elim
      (λ (z : get_or row 0 0 ≡ 0). ap (first_row passes) (put_dead w row t some whole z))
      (λ (z : get_or row 0 0 ≡ 0 → ⊥).
      ap (first_row passes) (put_alive w row t some whole (omega arith) ∙ ap (λ x. rows w t ++ (row ∷ x)) nothing)
      ∙ first_same passes 0 (rows w t) row (other_row same laws k other (key_of row) reads apart))
      (cases_eq (get_or row 0 0) 0))
      (λ (f : free w t ≡ false). ap (λ x. first_row passes (rows w x)) (added_same w row t u words f))
      (cases_Bool (free w t))

  pub held_more : HoldsMore w row t u
  held_more found rs h f first =
      let below = ltb-true (used w t) (length t / w) f in
      let count = holds_used w (λ r. r) some found rs t h in
      let long = ap (λ n. n / w) (holds_length w (λ r. r) some found rs t h) in (
        holds_behind w (λ r. r) some found rs t h,
        subst (Holds w (λ r. r) found (rs ++ (row ∷ []))) (sym (added_put w row t u words f))
            (holds_more w (λ r. r) some found rs t h row (omega arith) whole first),
      )
