-- The rows of six words that a slice of words is cut into: row n - 1 has the words of the record n.
use Rattle.std.proofs.Common.{◌≡◌, ℕ, zero, suc, ◌+◌, ◌-◌, ◌*◌, ◌/◌, ◌<◌, ◌≤◌, Bor, false, List, length, take, drop, get_or, Some, None, Option, MatchOption, refl, ap, sym, subst, ◌∙◌, arith, rules, length-drop, length-take}
use Rattle.std.proofs.lemmas.List.{get_or-take, get_or-drop, drop-drop}
use Rattle.std.specs.Simd.{first_chunks}
use Rattle.std.specs.Slice.{IsItemAt}
use Rattle.rules.specs.Kinds.{within}
use Rattle.rules.specs.Words.{word, records}
use Rattle.records.specs.Reads.{Part}

-- row k of those that are cut off in front
row : (size count k : ℕ) (words d : List ℕ) → k < count → get_or (first_chunks size count words) k d ≡ take size (drop (size * k) words)
row size zero k words d h = absurd (omega (arith, h))
row size (suc count) zero words d h = ap (λ (j : ℕ). take size (drop j words)) {x = 0} {y = size * 0} (omega arith)
row size (suc count) (suc k) words d h =
    let next : size + size * k ≡ size * suc k = omega arith in
    row size count k (drop size words) d (omega (arith, h))
    ∙ ap (λ rest. take size rest) (drop-drop (size * k) size words)
    ∙ ap (λ (j : ℕ). take size (drop j words)) next

-- how many there are
rows_count : (size count : ℕ) (words : List ℕ) → length (first_chunks size count words) ≡ count
rows_count size zero words = refl
rows_count size (suc count) words = ap suc (rows_count size count (drop size words))

-- word i of the six words of the record n
part_word : (words : List ℕ) (n i : ℕ) → i < 6 → get_or (take 6 (drop (6 * (n - 1)) words)) i 0 ≡ word words n i
part_word words n i h = get_or-take 6 (drop (6 * (n - 1)) words) i 0 h ∙ get_or-drop (6 * (n - 1)) words i 0

part_words : (words : List ℕ) (n : ℕ) → 1 ≤ n → n ≤ length words / 6 → Part words n (take 6 (drop (6 * (n - 1)) words))
part_words words n low high = record {
  there = search (rules, low, high);
  long = simp (length-take, length-drop) (omega (arith, low, high));
  kind = part_word words n 0 (omega arith);
  flags = part_word words n 1 (omega arith);
  symbol = part_word words n 2 (omega arith);
  mark = part_word words n 3 (omega arith);
  first = part_word words n 4 (omega arith);
  next = part_word words n 5 (omega arith);
}

-- what is found at row n - 1
pub part_found : (words : List ℕ) (n : ℕ) (rows : List (List ℕ)) (r : Option (Bor (List ℕ))) → rows ≡ first_chunks 6 (length words / 6) words
    → 1 ≤ n → IsItemAt rows (n - 1) r → MatchOption r (within 1 (records words) n ≡ false) (λ p. Part words n p.now)
part_found words n rows None is low found =
    let many : length rows ≡ length words / 6 = ap length is ∙ rows_count 6 (length words / 6) words in
    search (rules, many, low, found)
part_found words n rows (Some p) is low found =
    let many : length rows ≡ length words / 6 = ap length is ∙ rows_count 6 (length words / 6) words in
    let high : n ≤ length words / 6 = omega (arith, many, low, found.3.0) in
    let h : p.now ≡ take 6 (drop (6 * (n - 1)) words) = found.1 ∙ ap (λ rs. get_or rs (n - 1) p.now) is ∙ row 6 (length words / 6) (n - 1) words p.now (omega (arith, low, high)) in
    subst (λ q. Part words n q) (sym h) (part_words words n low high)
