-- The rows of words that begin with a whole row, and of words too short for one.
-- Every other fact on rows follows from these three: a loop takes row after row off the front, and a table is built row by row.
use Rattle.std.proofs.Common.{◌≡◌, ℕ, zero, suc, ◌+◌, ◌/◌, ◌<◌, ◌≤◌, eqb, ◌⊎◌, List, [], ◌∷◌, ◌++◌, length, get_or, take, drop, sym, refl, ap, ap₂, ◌∙◌, inl, inr, ⊎_elim, div-le_self, add-one, arith}
use native.Mathlib.Nat.{add-div_left, div-eq_of_lt}
use Rattle.std.proofs.lemmas.List.{take_at, drop_at, length-append, take-append-drop, length-take-le, get_or-take}
use Rattle.std.proofs.lemmas.Bool.{eq-eqb, ne_eqb, cond_both, cases_lt}
use Rattle.tables.specs.Living.{cut, before_zero, rows}

-- words with a row before them have one whole row more
one_more : (w : ℕ) (r t : List ℕ) → 0 < w → length r ≡ w → length (r ++ t) / w ≡ suc (length t / w)
one_more w r t z l =
    ap (λ n. n / w) (length-append r t ∙ ap (λ n. n + length t) l) ∙ add-div_left (length t) z ∙ add-one (length t / w)

-- the whole rows of words with a row before them
cut_cons : (n w : ℕ) (r t : List ℕ) → length r ≡ w → cut (suc n) w (r ++ t) ≡ r ∷ cut n w t
unfolding cut
cut_cons n w r t l =
    ap (λ x. x ∷ cut n w (drop w (r ++ t))) (take_at r t w l) ∙ ap (λ x. r ∷ cut n w x) (drop_at r t w l)

-- the rows of words with a row before them, before they are looked at
rows_of : (w : ℕ) (r t : List ℕ) → 0 < w → length r ≡ w → rows w (r ++ t) ≡ before_zero (r ∷ cut (length t / w) w t)
unfolding rows
rows_of w r t z l =
    ap (λ n. before_zero (cut n w (r ++ t))) (one_more w r t z l) ∙ ap before_zero (cut_cons (length t / w) w r t l)

-- words too short for a row have none
pub rows_short : (w : ℕ) (t : List ℕ) → length t < w → rows w t ≡ []
unfolding rows cut before_zero
rows_short w t h = ap (λ n. before_zero (cut n w t)) (div-eq_of_lt h)

-- a row that begins with 0 ends the rows
pub rows_end : (w : ℕ) (r t : List ℕ) → 0 < w → length r ≡ w → get_or r 0 0 ≡ 0 → rows w (r ++ t) ≡ []
unfolding before_zero
rows_end w r t z l h = let e = eq-eqb (get_or r 0 0) 0 h in rows_of w r t z l ∙ rw e

-- a row that does not is the first, and the rest follow
pub rows_cons : (w : ℕ) (r t : List ℕ) → 0 < w → length r ≡ w → 0 < get_or r 0 0 → rows w (r ++ t) ≡ r ∷ rows w t
unfolding before_zero rows
rows_cons w r t z l h = let e = ne_eqb (get_or r 0 0) 0 (λ n. omega arith) in rows_of w r t z l ∙ rw e

cut_length : (n w : ℕ) (t : List ℕ) → length (cut n w t) ≡ n
unfolding cut
cut_length zero w t = refl
cut_length (suc n) w t = ap suc (cut_length n w (drop w t))

before_few : (rs : List (List ℕ)) → length (before_zero rs) ≤ length rs
unfolding before_zero
before_few [] = omega arith
before_few (r ∷ rs) =
    let ih = before_few rs in
    cond_both (eqb (get_or r 0 0) 0) [] (r ∷ before_zero rs) (λ x. length x ≤ length (r ∷ rs)) (λ e. omega arith) (λ e. omega arith)

-- no more rows than whole rows
pub rows_within : (w : ℕ) (t : List ℕ) → length (rows w t) ≤ length t / w
unfolding rows
rows_within w t = let a = before_few (cut (length t / w) w t) in let b = cut_length (length t / w) w t in omega arith

-- nor than words
pub rows_few : (w : ℕ) (t : List ℕ) → length (rows w t) ≤ length t
rows_few w t = omega (arith, rows_within w t, div-le_self (length t) w)

-- words that begin with 0, or are too short for a row, have no rows
pub rows_none : (w : ℕ) (t : List ℕ) → 0 < w → (length t < w) ⊎ (get_or t 0 0 ≡ 0) → rows w t ≡ []
rows_none w t z (inl h) = rows_short w t h
rows_none w t z (inr h) =
    ⊎_elim
    (λ (s : length t < w). rows_short w t s)
    (λ (s : w ≤ length t).
    ap (rows w) (sym (take-append-drop w t))
    ∙ rows_end w (take w t) (drop w t) z (length-take-le w t s) (get_or-take w t 0 0 z ∙ h))
    (cases_lt (length t) w)

-- words whose first w are r: they have no rows if it begins with 0, and else it is their first row; `s` is the width as the code has it
module _ (w s : ℕ) (t r : List ℕ) (some : 0 < w) (is : s ≡ w) (front : r ≡ take s t) where
  first_word : get_or t 0 0 ≡ get_or r 0 0
  first_word = sym (get_or-take s t 0 0 (omega arith)) ∙ ap (λ x. get_or x 0 0) (sym front)

  pub rows_ended : get_or r 0 0 ≡ 0 → rows w t ≡ []
  rows_ended none = rows_none w t some (inr (first_word ∙ none))

  pub rows_split : (u : List ℕ) → s ≤ length t → (get_or r 0 0 ≡ 0 → ⊥) → u ≡ drop s t → (rows w t ≡ r ∷ rows w u) × (length r ≡ w)
  rows_split u room begins back =
      let long : length r ≡ w = ap length front ∙ length-take-le s t room ∙ is in (
        ap (rows w) (sym (take-append-drop s t) ∙ ap₂ ◌++◌ (sym front) (sym back)) ∙ rows_cons w r u some long (omega arith),
        long,
      )
