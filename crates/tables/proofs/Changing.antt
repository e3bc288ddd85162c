-- A row of a table that holds rows, read and changed where its number says: one induction along the words of the rows each.
use Rattle.std.proofs.Common.{◌≡◌, ℕ, zero, suc, ◌+◌, ◌-◌, ◌*◌, ◌/◌, ◌<◌, ◌≤◌, true, ltb, leb, List, [], ◌∷◌, ◌++◌, length, get_or, take, drop, Some, sym, refl, ap, ◌∙◌, append_assoc, suc-mul, zero-mul, arith, take-add}
use Rattle.std.specs.List.{flat_map}
use Rattle.std.proofs.lemmas.List.{take_at, drop_at, drop-drop, get_or_append_left, get_or-append-add}
use Rattle.std.proofs.lemmas.Bool.{cond-true, and_from, lt-ltb, le-leb}
use Rattle.tables.specs.Living.{there, start_of, nth, change_nth}
use Rattle.tables.specs.Held.{Proper, Holds, changed}
use Rattle.tables.specs.Counts.{row_word}
use Rattle.tables.proofs.Holding.{zeros, table_form, holds_form, holds_length}

-- a change keeps the number of rows
pub length_change : {Row : Type 0} (rs : List Row) (k : ℕ) (to : Row → Row) → length (change_nth k to rs) ≡ length rs
length_change [] k to = refl
length_change (x ∷ rs) zero to = refl
length_change (x ∷ rs) (suc k) to = ap suc (length_change rs k to)

module _ {Row : Type 0} (w : ℕ) (in_words : Row → List ℕ) where
  -- a word of a row
  word_joined : (rs : List Row) (k i : ℕ) (t : List ℕ) (r : Row) → Proper w in_words rs → nth k rs ≡ Some r → i < w
      → get_or (flat_map in_words rs ++ t) (k * w + i) 0 ≡ get_or (in_words r) i 0
  word_joined [] k i t r p e h = cc
  word_joined (x ∷ rs) zero i t r p e h =
      let l = p.0 in
      let same : x ≡ r = cc in
      ap (λ v. get_or v (0 * w + i) 0) (append_assoc (in_words x) (flat_map in_words rs) t)
      ∙ ap (λ n. get_or (in_words x ++ (flat_map in_words rs ++ t)) n 0) (let z = zero-mul w in let q : 0 * w + i ≡ i = omega arith in q)
      ∙ get_or_append_left (in_words x) (flat_map in_words rs ++ t) 0 i (omega arith)
      ∙ ap (λ y. get_or (in_words y) i 0) same
  word_joined (x ∷ rs) (suc k) i t r p e h =
      let l = p.0 in
      ap (λ v. get_or v (suc k * w + i) 0) (append_assoc (in_words x) (flat_map in_words rs) t)
      ∙ ap (λ n. get_or (in_words x ++ (flat_map in_words rs ++ t)) n 0) (let z = suc-mul k w in let q : suc k * w + i ≡ length (in_words x) + (k * w + i) = omega arith in q)
      ∙ get_or-append-add (in_words x) (flat_map in_words rs ++ t) (k * w + i) 0
      ∙ word_joined rs k i t r p.2 e h

  -- an nth row is one of the rows
  pub nth_below : (rs : List Row) (k : ℕ) (r : Row) → nth k rs ≡ Some r → k < length rs
  nth_below [] k r e = cc
  nth_below (x ∷ rs) zero r e = omega arith
  nth_below (x ∷ rs) (suc k) r e = let h = nth_below rs k r e in omega arith

  -- a change of rows and the same change of their words, which keeps their number and the first
  module _ (change : List ℕ → List ℕ) (to : Row → Row)
      (keeps : (r : Row) → (change (in_words r) ≡ in_words (to r)) × (length (in_words (to r)) ≡ length (in_words r)) × (get_or (in_words (to r)) 0 0 ≡ get_or (in_words r) 0 0)) where
    proper_change : (rs : List Row) (k : ℕ) → Proper w in_words rs → Proper w in_words (change_nth k to rs)
    proper_change [] k p = tt
    proper_change (x ∷ rs) zero p =
        let first = (keeps x).2 in let was = p.1 in
        ((keeps x).1 ∙ p.0, omega arith, p.2)
    proper_change (x ∷ rs) (suc k) p = (p.0, p.1, proper_change rs k p.2)

    -- the words with those of row k changed
    abbrev turned : (k : ℕ) → List ℕ → List ℕ
    turned k t = take (k * w) t ++ (change (take w (drop (k * w) t)) ++ drop w (drop (k * w) t))

    -- the first row
    turned_first : (r t : List ℕ) → length r ≡ w → turned zero (r ++ t) ≡ change r ++ t
    turned_first r t l =
        ap (λ n. take n (r ++ t) ++ (change (take w (drop n (r ++ t))) ++ drop w (drop n (r ++ t)))) (zero-mul w)
        ∙ ap (λ x. change x ++ drop w (r ++ t)) (take_at r t w l)
        ∙ ap (λ x. change r ++ x) (drop_at r t w l)

    -- a later row
    turned_later : (k : ℕ) (r t : List ℕ) → length r ≡ w → turned (suc k) (r ++ t) ≡ r ++ turned k t
    turned_later k r t l =
        let n = suc-mul k w in
        let past : drop (suc k * w) (r ++ t) ≡ drop (k * w) t =
        ap (λ j. drop j (r ++ t)) (let q : suc k * w ≡ length r + k * w = omega arith in q)
        ∙ sym (drop-drop (k * w) (length r) (r ++ t)) ∙ ap (drop (k * w)) (drop_at r t (length r) refl) in
        let front : take (suc k * w) (r ++ t) ≡ r ++ take (k * w) t =
        ap (λ j. take j (r ++ t)) (let q : suc k * w ≡ length r + k * w = omega arith in q)
        ∙ take-add (length r) (k * w) (r ++ t)
        ∙ ap (λ x. x ++ take (k * w) (drop (length r) (r ++ t))) (take_at r t (length r) refl)
        ∙ ap (λ x. r ++ take (k * w) x) (drop_at r t (length r) refl) in
        ap (λ x. x ++ (change (take w (drop (suc k * w) (r ++ t))) ++ drop w (drop (suc k * w) (r ++ t)))) front
        ∙ ap (λ x. (r ++ take (k * w) t) ++ (change (take w x) ++ drop w x)) past
        ∙ append_assoc r (take (k * w) t) (change (take w (drop (k * w) t)) ++ drop w (drop (k * w) t))

    turned_joined : (rs : List Row) (k : ℕ) (t : List ℕ) → Proper w in_words rs → k < length rs
        → turned k (flat_map in_words rs ++ t) ≡ flat_map in_words (change_nth k to rs) ++ t
    turned_joined [] k t p h = absurd (omega arith)
    turned_joined (x ∷ rs) zero t p h =
        ap (turned zero) (append_assoc (in_words x) (flat_map in_words rs) t)
        ∙ turned_first (in_words x) (flat_map in_words rs ++ t) p.0
        ∙ ap (λ y. y ++ (flat_map in_words rs ++ t)) (keeps x).0
        ∙ sym (append_assoc (in_words (to x)) (flat_map in_words rs) t)
    turned_joined (x ∷ rs) (suc k) t p h =
        ap (turned (suc k)) (append_assoc (in_words x) (flat_map in_words rs) t)
        ∙ turned_later k (in_words x) (flat_map in_words rs ++ t) p.0
        ∙ ap (λ y. in_words x ++ y) (turned_joined rs k t p.2 (omega arith))
        ∙ sym (append_assoc (in_words x) (flat_map in_words (change_nth k to rs)) t)

  module _ (some : 0 < w) (found : List ℕ) (rs : List Row) (words : List ℕ) (h : Holds w in_words found rs words) where
    -- a row that the table holds is there
    pub holds_there : (n : ℕ) → 0 < n → n ≤ length rs → there w words n ≡ true
    holds_there n p l =
        let room = h.room in
        let long = ap (λ k. k / w) (holds_length w in_words some found rs words h) in
        and_from (ltb 0 n) (leb n (length words / w)) (lt-ltb 0 n p) (le-leb n (length words / w) (omega arith))

    -- its words are read where it begins
    pub holds_word : (n i : ℕ) (r : Row) → nth (n - 1) rs ≡ Some r → i < w → row_word w n i words ≡ get_or (in_words r) i 0
    holds_word n i r e l =
        ap (λ t. get_or t (start_of w n + i) 0) (holds_form w in_words some found rs words h)
        ∙ word_joined rs (n - 1) i (zeros w (length found / w - length rs) (drop (length found / w * w) found)) r h.proper e l

    -- they change there
    pub holds_changed : (n : ℕ) (change : List ℕ → List ℕ) (to : Row → Row)
        → ((r : Row) → (change (in_words r) ≡ in_words (to r)) × (length (in_words (to r)) ≡ length (in_words r)) × (get_or (in_words (to r)) 0 0 ≡ get_or (in_words r) 0 0))
        → 0 < n → n ≤ length rs → Holds w in_words found (change_nth (n - 1) to rs) (changed w n change words)
    holds_changed n change to keeps p l =
        let k = n - 1 in
        let count = length_change rs (n - 1) to in
        let room = h.room in
        let proper = proper_change change to keeps rs (n - 1) h.proper in
        let tail = drop (length found / w * w) found in
        let rest = zeros w (length found / w - length rs) tail in
        record {
          proper = proper;
          room = omega arith;
          is =
              cond-true (there w words n) (turned change to keeps (n - 1) words) words (holds_there n p l)
              ∙ ap (turned change to keeps (n - 1)) (holds_form w in_words some found rs words h)
              ∙ turned_joined change to keeps rs (n - 1) rest h.proper (omega arith)
              ∙ ap (λ j. flat_map in_words (change_nth (n - 1) to rs) ++ zeros w (length found / w - j) tail) (sym count)
              ∙ sym (table_form w in_words some found (change_nth (n - 1) to rs) proper);
        }
