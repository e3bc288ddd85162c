-- Rows with a key each, no key twice: tables with the same keys have equally many rows.
--
--   Single, single_none                  no two rows have one key
--   single_with_row, single_with_change  the filling without bound keeps it so
--   equal_sizes                          the same keys, equally many rows
use Rattle.std.specs.Cmp.{IsEquivalence}
use Rattle.std.specs.List.{IsDistinct, list_any}
use Rattle.std.proofs.Common.{◌≡◌, Bool, ◌||◌, List, [], map, length, sym, refl, ◌∙◌, inl, inr}
use Rattle.std.proofs.lemmas.Bool.{cases_Bool}
use Rattle.std.proofs.lemmas.List.{length-map, map_push}
use Rattle.std.proofs.lemmas.List.Recursion.{same_from_clauses}
use Rattle.std.proofs.lemmas.Map.Keys.{IsDistinct-push}
use Rattle.std.proofs.lemmas.Map.Made.{length-from_same_keys}
use Rattle.rules.specs.Tables.{some_row}
use Rattle.laws.proofs.TablesRows.{with_row, with_change, keys_with_change, with_row_there, with_row_new}

-- no two rows have one key
abbrev pub Single : {Row K : Type 0} → (Row → K) → (K → K → Bool) → List Row → Type 0
Single key eq rs = IsDistinct eq (map key rs)

pub single_none : {Row K : Type 0} (key : Row → K) (eq : K → K → Bool) → Single key eq []
unfolding IsDistinct
single_none key eq = tt

module _ {Row K : Type 0} (key : Row → K) {eq : K → K → Bool} (laws : IsEquivalence eq) where
  -- a key among the rows' keys
  has_key : (k : K) (rs : List Row) → list_any (eq k) (map key rs) ≡ some_row (λ r. eq k (key r)) rs
  has_key k =
      same_from_clauses (λ (rs : List Row). list_any (eq k) (map key rs)) (some_row (λ r. eq k (key r))) (λ (r : Row) (b : Bool). eq k (key r) || b)
      refl (λ _ _. refl) (λ _ _. refl)

  pub single_with_row : (new : Row) (rs : List Row) → Single key eq rs → Single key eq (with_row (λ r. eq (key new) (key r)) new rs)
  single_with_row new rs d = elim (cases_Bool (some_row (λ r. eq (key new) (key r)) rs)) [
    | inl e ↦ rw (with_row_there (λ r. eq (key new) (key r)) new rs e) d
    | inr e ↦ rw (with_row_new (λ r. eq (key new) (key r)) new rs e, map_push key rs new) (IsDistinct-push laws (map key rs) (key new) d (has_key (key new) rs ∙ e))
  ]

  pub single_with_change : (new : Row) (to : Row → Row) → ((r : Row) → key (to r) ≡ key r) → (rs : List Row) → Single key eq rs → Single key eq (with_change (λ r. eq (key new) (key r)) new to rs)
  single_with_change new to keeps rs d = rw (keys_with_change key (λ r. eq (key new) (key r)) new to keeps rs) (single_with_row new rs d)

  pub equal_sizes : (xs ys : List Row) → Single key eq xs → Single key eq ys → ((k : K) → some_row (λ r. eq k (key r)) xs ≡ some_row (λ r. eq k (key r)) ys) → length xs ≡ length ys
  equal_sizes xs ys p q h =
      sym (length-map xs key) ∙ (length-from_same_keys laws (map key xs) (map key ys) p q (λ k. has_key k xs ∙ (h k ∙ sym (has_key k ys))) ∙ length-map ys key)
