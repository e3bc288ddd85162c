-- A table that holds rows: what its rows are, and that it holds one more after an insertion and none after zeroing.
-- All follow from one form of its words: the rows, then whole rows of zeros, then less than a row.
use Rattle.std.proofs.Common.{◌≡◌, ℕ, zero, suc, ◌-◌, ◌*◌, ◌/◌, ◌<◌, List, [], ◌∷◌, ◌++◌, map, length, get_or, take, drop, replicate, sym, refl, ap, ◌∙◌, inl, inr, append_assoc, append-nil, suc-mul, zero-mul, div-mul-le_self, arith, length-drop}
use native.Mathlib.Nat.{mul-sub, lt-div-mul-add}
use Rattle.std.specs.List.{flat_map}
use Rattle.std.proofs.lemmas.Nat.{mul-le}
use Rattle.std.proofs.lemmas.Grind.{flat_map-append}
use Rattle.std.proofs.lemmas.List.{length-append, length-replicate, length-map, take_at, drop_at, drop-drop, drop-replicate, drop-append-le}
use Rattle.rules.specs.Tables.{table}
use Rattle.rules.specs.Calls.{zeroed}
use Rattle.tables.specs.Living.{rows, used, behind, put_row}
use Rattle.tables.specs.Held.{Proper, Holds}
use Rattle.tables.proofs.Cutting.{rows_none, rows_cons}

-- so many whole rows of zeros, then a tail
abbrev pub zeros : (w n : ℕ) → List ℕ → List ℕ
zeros w n tail = replicate (n * w) 0 ++ tail

-- they have no rows
zeros_none : (w n : ℕ) (tail : List ℕ) → 0 < w → length tail < w → rows w (zeros w n tail) ≡ []
zeros_none w zero tail z h = rows_none w (zeros w zero tail) z (inl (let e = ap (λ k. length (replicate k 0 ++ tail)) (zero-mul w) in omega arith))
zeros_none w (suc n) tail z h = rows_none w (zeros w (suc n) tail) z (inr (begins (suc n * w) (let e = suc-mul n w in omega arith)))
  where
    begins : (k : ℕ) → 0 < k → get_or (replicate k 0 ++ tail) 0 0 ≡ 0
    begins zero p = absurd (omega arith)
    begins (suc k) p = refl

-- the tail is less than a row
tail_short : (w : ℕ) (found : List ℕ) → 0 < w → length (drop (length found / w * w) found) < w
tail_short w found z = let a = lt-div-mul-add {a = length found} z in simp length-drop (omega arith)

-- a row less of zeros
zeros_less : (w n : ℕ) (tail : List ℕ) → drop w (zeros w (suc n) tail) ≡ zeros w n tail
zeros_less w n tail =
    let e = suc-mul n w in
    drop-append-le w (replicate (suc n * w) 0) tail (simp length-replicate (omega arith))
    ∙ ap (λ x. x ++ tail) (drop-replicate w (suc n * w) 0)
    ∙ ap (λ k. replicate k 0 ++ tail) (let q : suc n * w - w ≡ n * w = omega arith in q)

module _ {Row : Type 0} (w : ℕ) (in_words : Row → List ℕ) (some : 0 < w) where
  -- the words of the rows
  pub joined_length : (rs : List Row) → Proper w in_words rs → length (flat_map in_words rs) ≡ length rs * w
  joined_length [] p = sym (zero-mul w)
  joined_length (r ∷ rs) p =
      let a = length-append (in_words r) (flat_map in_words rs) in
      let b = joined_length rs p.2 in
      let c = suc-mul (length rs) w in
      let d = p.0 in omega arith

  -- words that begin with rows
  pub joined_rows : (rs : List Row) (t : List ℕ) → Proper w in_words rs → rows w (flat_map in_words rs ++ t) ≡ map in_words rs ++ rows w t
  joined_rows [] t p = refl
  joined_rows (r ∷ rs) t p =
      ap (rows w) (append_assoc (in_words r) (flat_map in_words rs) t)
      ∙ rows_cons w (in_words r) (flat_map in_words rs ++ t) some p.0 p.1
      ∙ ap (λ x. in_words r ∷ x) (joined_rows rs t p.2)

  joined_push : (rs : List Row) (r : Row) → flat_map in_words (rs ++ (r ∷ [])) ≡ flat_map in_words rs ++ in_words r
  joined_push rs r = flat_map-append in_words rs (r ∷ []) ∙ ap (λ x. flat_map in_words rs ++ x) (append-nil (in_words r))

  proper_push : (rs : List Row) (r : Row) → Proper w in_words rs → length (in_words r) ≡ w → 0 < get_or (in_words r) 0 0 → Proper w in_words (rs ++ (r ∷ []))
  proper_push [] r p l f = (l, f, tt)
  proper_push (x ∷ rs) r p l f = (p.0, p.1, proper_push rs r p.2 l f)

  -- the form of a table's words
  pub table_form : (found : List ℕ) (rs : List Row) → Proper w in_words rs
      → table w (flat_map in_words rs) found ≡ flat_map in_words rs ++ zeros w (length found / w - length rs) (drop (length found / w * w) found)
  table_form found rs p =
      let whole = length found / w in
      let a = joined_length rs p in
      let b = mul-sub w whole (length rs) in
      let e : whole * w - length (flat_map in_words rs) ≡ (whole - length rs) * w = omega arith in
      ap (λ k. flat_map in_words rs ++ replicate k 0 ++ drop (whole * w) found) e
      ∙ append_assoc (flat_map in_words rs) (replicate ((whole - length rs) * w) 0) (drop (whole * w) found)

  module _ (found : List ℕ) (rs : List Row) (words : List ℕ) (h : Holds w in_words found rs words) where
    -- the words of a table that holds rows
    pub holds_form : words ≡ flat_map in_words rs ++ zeros w (length found / w - length rs) (drop (length found / w * w) found)
    holds_form = h.is ∙ table_form found rs h.proper

    -- its rows are these
    pub holds_rows : rows w words ≡ map in_words rs
    holds_rows =
        ap (rows w) holds_form
        ∙ joined_rows rs (zeros w (length found / w - length rs) (drop (length found / w * w) found)) h.proper
        ∙ ap (λ x. map in_words rs ++ x) (zeros_none w (length found / w - length rs) (drop (length found / w * w) found) some (tail_short w found some))
        ∙ append-nil (map in_words rs)

    -- as many as these
    pub holds_used : used w words ≡ length rs
    holds_used = ap length holds_rows ∙ length-map rs in_words

    -- it is as long as it was found
    pub holds_length : length words ≡ length found
    holds_length =
        let whole = length found / w in
        let a = ap length holds_form in
        let b = length-append (flat_map in_words rs) (zeros w (whole - length rs) (drop (whole * w) found)) in
        let c = length-append (replicate ((whole - length rs) * w) 0) (drop (whole * w) found) in
        let d = length-replicate {A = ℕ} ((whole - length rs) * w) 0 in
        let e = joined_length rs h.proper in
        let f = length-drop (whole * w) found in
        let g = div-mul-le_self (length found) w in
        let m = mul-sub w whole (length rs) in
        let n = mul-le (length rs) w whole w h.room (omega arith) in
        omega arith

    -- the words of its rows, and those behind them
    holds_front : take (used w words * w) words ≡ flat_map in_words rs
    holds_front =
        let e = ap (λ k. k * w) holds_used in
        let l = joined_length rs h.proper in
        ap (take (used w words * w)) holds_form ∙ take_at (flat_map in_words rs) _ (used w words * w) (omega arith)

    holds_back : drop (used w words * w) words ≡ zeros w (length found / w - length rs) (drop (length found / w * w) found)
    holds_back =
        let e = ap (λ k. k * w) holds_used in
        let l = joined_length rs h.proper in
        ap (drop (used w words * w)) holds_form ∙ drop_at (flat_map in_words rs) _ (used w words * w) (omega arith)

    -- a row put behind the last takes the place of the first row of zeros
    pub holds_more : (r : Row) → length rs < length found / w → length (in_words r) ≡ w → 0 < get_or (in_words r) 0 0
        → Holds w in_words found (rs ++ (r ∷ [])) (put_row (used w words * w) (in_words r) words)
    holds_more r fits l f =
        let whole = length found / w in
        let tail = drop (whole * w) found in
        let n = length-append rs (r ∷ []) in
        let k : whole - length rs ≡ suc (whole - length (rs ++ (r ∷ []))) = omega arith in
        let p = proper_push rs r h.proper l f in
        record {
          proper = p;
          room = omega arith;
          is =
              ap (λ x. x ++ (in_words r ++ drop (length (in_words r)) (drop (used w words * w) words))) holds_front
              ∙ ap (λ x. flat_map in_words rs ++ (in_words r ++ x))
              (ap (drop (length (in_words r))) holds_back
              ∙ ap (λ j. drop j (zeros w (whole - length rs) tail)) l
              ∙ ap (λ j. drop w (zeros w j tail)) k
              ∙ zeros_less w (whole - length (rs ++ (r ∷ []))) tail)
              ∙ sym (append_assoc (flat_map in_words rs) (in_words r) (zeros w (whole - length (rs ++ (r ∷ []))) tail))
              ∙ ap (λ x. x ++ zeros w (whole - length (rs ++ (r ∷ []))) tail) (sym (joined_push rs r))
              ∙ sym (table_form found (rs ++ (r ∷ [])) p);
        }

    -- nothing is left behind the first free row that could come alive
    pub holds_behind : rows w (behind w words) ≡ []
    holds_behind =
        let tail = drop (length found / w * w) found in
        let short = tail_short w found some in
        ap (rows w) (sym (drop-drop w (used w words * w) words) ∙ ap (drop w) holds_back) ∙ nothing (length found / w - length rs) tail short
      where
        nothing : (n : ℕ) (tail : List ℕ) → length tail < w → rows w (drop w (zeros w n tail)) ≡ []
        nothing zero tail short =
            rows_none w (drop w (zeros w zero tail)) some (inl (let e = ap (λ k. length (replicate k 0 ++ tail)) (zero-mul w) in simp length-drop (omega arith)))
        nothing (suc n) tail short = ap (rows w) (zeros_less w n tail) ∙ zeros_none w n tail some short

    -- zeroed, it is what the words found would be
    pub holds_zeroed : zeroed w words ≡ zeroed w found
    holds_zeroed =
        let whole = length found / w in
        let tail = drop (whole * w) found in
        let e = joined_length rs h.proper in
        let m = mul-sub w whole (length rs) in
        let n = mul-le (length rs) w whole w h.room (omega arith) in
        let d = length-replicate {A = ℕ} ((whole - length rs) * w) 0 in
        let c = length-append (flat_map in_words rs) (replicate ((whole - length rs) * w) 0) in
        let q : length words / w * w ≡ whole * w = ap (λ k. k / w * w) holds_length in
        let past : drop (whole * w) words ≡ tail =
        ap (drop (whole * w)) (holds_form ∙ sym (append_assoc (flat_map in_words rs) (replicate ((whole - length rs) * w) 0) tail))
        ∙ drop_at (flat_map in_words rs ++ replicate ((whole - length rs) * w) 0) tail (whole * w) (omega arith) in
        ap (λ k. [] ++ replicate (k - 0) 0 ++ drop k words) q ∙ ap (λ x. [] ++ replicate (whole * w - 0) 0 ++ x) past

  -- zeroed words hold no rows
  pub zeroed_holds : (found : List ℕ) → Holds w in_words found [] (zeroed w found)
  zeroed_holds found = record { proper = tt; room = omega arith; is = refl }
