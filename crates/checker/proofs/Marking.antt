-- Marks and the records reached: setting a record's mark adds it to those reached, and one mark fewer is not set.
--
--   mark_of               the mark of a record says whether it was reached
--   marks_none, marks_set, unmarked_none, unmarked_set      no mark set; one more
use Rattle.std.specs.Prelude.{if◌then◌else◌}
use Rattle.std.proofs.Common.{◌≡◌, ℕ, zero, suc, ◌-◌, ◌<◌, ◌≤◌, Bool, true, false, ◌||◌, eqb, List, [], ◌∷◌, length, get_or, set, replicate, sym, refl, ap, ◌∙◌, subst, ⊎_elim, arith, get_or-set_other, get_or-set_same}
use Rattle.std.proofs.lemmas.Bool.{cases_eq, eq-eqb, ne_eqb, or_left}
use Rattle.rules.specs.Kinds.{member}
use Rattle.checker.specs.Walking.{Marks, unmarked}

pub mark_of : (seen : List Bool) (before : List ℕ) (n : ℕ) → 1 ≤ n → Marks seen before → member n before ≡ get_or seen (n - 1) false
unfolding Marks
mark_of seen before n l marks = ap (λ (k : ℕ). member k before) (omega arith) ∙ sym (marks (n - 1))

pub marks_set : (seen : List Bool) (before : List ℕ) (n : ℕ) → 1 ≤ n → n ≤ length seen → Marks seen before → Marks (set seen (n - 1) true) (n ∷ before)
unfolding Marks
marks_set seen before n l h marks k =
    ⊎_elim
    (λ (e : k ≡ n - 1).
    subst (λ (j : ℕ). get_or (set seen (n - 1) true) j false ≡ true) (sym e) (get_or-set_same seen (n - 1) true false (omega arith))
    ∙ sym (or_left (eqb (suc k) n) (member (suc k) before) (eq-eqb (suc k) n (omega arith))))
    (λ (e : k ≡ n - 1 → ⊥).
    get_or-set_other seen (n - 1) k true false e ∙ marks k
    ∙ sym (ap (λ (b : Bool). b || member (suc k) before) (ne_eqb (suc k) n (λ q. e (omega arith)))))
    (cases_eq k (n - 1))

pub unmarked_set : (seen : List Bool) (i : ℕ) → i < length seen → get_or seen i false ≡ false → suc (unmarked (set seen i true)) ≡ unmarked seen
unfolding unmarked
unmarked_set [] i h e = absurd (omega arith)
unmarked_set (b ∷ bs) zero h e = let q : ◌≡◌ {A = ℕ} (if b then 0 else 1) 1 = ap (λ (t : Bool). if◌then◌else◌ {A = ℕ} t 0 1) e in omega arith
unmarked_set (b ∷ bs) (suc i) h e = omega (arith, unmarked_set bs i (omega arith) e)

pub unmarked_most : (seen : List Bool) → unmarked seen ≤ length seen
unfolding unmarked
unmarked_most [] = omega arith
unmarked_most (true ∷ bs) = omega (arith, unmarked_most bs)
unmarked_most (false ∷ bs) = omega (arith, unmarked_most bs)

pub marks_none : (n : ℕ) → Marks (replicate n false) []
unfolding Marks
marks_none zero k = refl
marks_none (suc n) zero = refl
marks_none (suc n) (suc k) = marks_none n k

pub unmarked_none : (n : ℕ) → unmarked (replicate n false) ≡ n
unfolding unmarked
unmarked_none zero = refl
unmarked_none (suc n) = omega (arith, unmarked_none n)
