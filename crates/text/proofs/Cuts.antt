-- Cutting at a separator: where the first one is found, what stands before and behind it, and how the whole splits there.
use Rattle.std.proofs.Common.{◌≡◌, ℕ, ◌+◌, ◌-◌, ◌<◌, ◌≤◌, Bool, List, [], ◌∷◌, length, take, drop, Some, None, sym, ap, ◌∙◌, arith}
use Rattle.std.specs.List.{position, position_or_len, before_first, after_first}
use Rattle.std.proofs.lemmas.List.{take_rest, take_all, drop_all}
use Rattle.text.specs.Split.{before, behind, split}

module _ (p : ℕ → Bool) (xs : List ℕ) where
  found_at : (i : ℕ) → Some i ≡ position p xs → i ≡ position_or_len p xs
  found_at i is = grind arith

  found_nowhere : None ≡ position p xs → length xs ≤ position_or_len p xs
  found_nowhere is = grind arith

  -- one is found
  pub before_found : (i : ℕ) → Some i ≡ position p xs → take i xs ≡ before_first p xs
  before_found i is = ap (λ n. take n xs) (found_at i is)

  pub after_found : (i : ℕ) → Some i ≡ position p xs → take (length xs - (i + 1)) (drop (i + 1) xs) ≡ after_first p xs
  after_found i is = take_rest xs (i + 1) ∙ ap (λ n. drop (n + 1) xs) (found_at i is)

  -- none is
  pub before_none : None ≡ position p xs → xs ≡ before_first p xs
  before_none is = sym (take_all (position_or_len p xs) xs (found_nowhere is))

  pub after_none : None ≡ position p xs → [] ≡ after_first p xs
  after_none is = let whole = found_nowhere is in sym (drop_all (position_or_len p xs + 1) xs (omega arith))

-- bytes that are not empty split at the first separator
pub split_at_first : (separator : ℕ) (bytes : List ℕ) → 0 < length bytes
    → split separator bytes ≡ before separator bytes ∷ split separator (behind separator bytes)
split_at_first separator [] some = absurd (omega arith)
split_at_first separator (b ∷ []) some = grind arith
split_at_first separator (b ∷ c ∷ bs) some =
    let rest = split_at_first separator (c ∷ bs) (omega arith) in
    grind (arith, rest)

pub splits_so : (separator : ℕ) (bytes front back : List ℕ) → front ≡ before separator bytes → back ≡ behind separator bytes
    → 0 < length bytes → split separator bytes ≡ front ∷ split separator back
splits_so separator bytes front back is_front is_back some = rw (is_front, is_back) (split_at_first separator bytes some)
