-- A row that comes into a table or changes there leaves its length and the words past its last whole row, so zeroing leaves the same as before.
use Rattle.std.proofs.Common.{◌≡◌, ℕ, suc, ◌+◌, ◌-◌, ◌*◌, ◌/◌, ◌≤◌, true, false, ltb, leb, List, [], ◌++◌, length, take, drop, replicate, sym, ap, ◌∙◌, ⊎_elim, mul-le-mul_right, suc-mul, div-mul-le_self, arith, length-append, length-drop, length-set, length-take-le, drop-drop}
use lib.ListN.{length-replicate}
use lib.Seq.{drop-append-add, drop-append_seam}
use Rattle.std.proofs.lemmas.Bool.{cond-true, cond-false, cases_Bool, ltb-true, leb-true, and_parts}
use Rattle.rules.specs.Calls.{zeroed}
use Rattle.tables.specs.declared.name_row.Flag.{Flag}
use Rattle.tables.specs.Living.{used, free, there, start_of, put_row, added}
use Rattle.tables.specs.Held.{changed}
use Rattle.tables.specs.Counts.{more_counts, less_counts, with_flag}

-- words of one length that are alike past the last whole row are zeroed alike
zeroed_alike : (w : ℕ) (t u : List ℕ) → length u ≡ length t → drop (length t / w * w) u ≡ drop (length t / w * w) t → zeroed w u ≡ zeroed w t
zeroed_alike w t u long past =
    ap (λ n. [] ++ (replicate (n / w * w - 0) 0 ++ drop (n / w * w) u)) long
    ∙ ap (λ x. replicate (length t / w * w - 0) 0 ++ x) past

put_length : (at : ℕ) (row t : List ℕ) → at + length row ≤ length t → length (put_row at row t) ≡ length t
put_length at row t fits =
    length-append (take at t) (row ++ drop (length row) (drop at t))
    ∙ ap (λ n. n + length (row ++ drop (length row) (drop at t))) (length-take-le at t (omega arith))
    ∙ ap (λ n. at + n) (length-append row (drop (length row) (drop at t)) ∙ ap (λ n. length row + n) (length-drop (length row) (drop at t) ∙ ap (λ n. n - length row) (length-drop at t)))
    ∙ omega arith

put_behind : (at past : ℕ) (row t : List ℕ) → at + length row ≤ past → past ≤ length t → drop past (put_row at row t) ≡ drop past t
put_behind at past row t fits within =
    let a : length (take at t) ≡ at = length-take-le at t (omega arith) in
    let k = past - at - length row in
    let e : past ≡ length (take at t) + (length row + k) = omega arith in
    ap (λ n. drop n (put_row at row t)) e
    ∙ drop-append-add (take at t) (row ++ drop (length row) (drop at t)) (length row + k)
    ∙ drop-append-add row (drop (length row) (drop at t)) k
    ∙ drop-drop k (length row) (drop at t)
    ∙ drop-drop (length row + k) at t
    ∙ ap (λ n. drop n t) (let q : at + (length row + k) ≡ past = omega arith in q)

pub added_zeroed : (w : ℕ) (row t : List ℕ) → length row ≡ w → zeroed w (added w row t) ≡ zeroed w t
added_zeroed w row t whole =
    ⊎_elim
    (λ (f : free w t ≡ true).
    let less = ltb-true (used w t) (length t / w) f in
    let m = suc-mul (used w t) w in
    let rows = mul-le-mul_right w less in
    let all = div-mul-le_self (length t) w in
    ap (zeroed w) (cond-true (free w t) (put_row (used w t * w) row t) t f)
    ∙ zeroed_alike w t (put_row (used w t * w) row t)
    (put_length (used w t * w) row t (omega arith))
    (put_behind (used w t * w) (length t / w * w) row t (omega arith) all))
    (λ (f : free w t ≡ false). ap (zeroed w) (cond-false (free w t) (put_row (used w t * w) row t) t f))
    (cases_Bool (free w t))

-- a row that changes and stays as long
changed_puts : (w n : ℕ) (to : List ℕ → List ℕ) (t : List ℕ) → ((row : List ℕ) → length (to row) ≡ length row) → there w t n ≡ true
    → (changed w n to t ≡ put_row (start_of w n) (to (take w (drop (start_of w n) t))) t)
    × (length (to (take w (drop (start_of w n) t))) ≡ w) × (start_of w n + w ≤ length t / w * w)
changed_puts w n to t long is =
    let at = start_of w n in
    let row = take w (drop at t) in
    let parts = and_parts (ltb 0 n) (leb n (length t / w)) is in
    let low = ltb-true 0 n parts.0 in
    let high = leb-true n (length t / w) parts.1 in
    let m = suc-mul (n - 1) w in
    let e : suc (n - 1) ≡ n = omega arith in
    let product : suc (n - 1) * w ≡ n * w = ap (λ k. k * w) e in
    let fits : n * w ≤ length t / w * w = mul-le-mul_right w high in
    let all = div-mul-le_self (length t) w in
    let d = length-drop at t in
    let whole : length (to row) ≡ w = long row ∙ length-take-le w (drop at t) (omega arith) in (
      cond-true (there w t n) (take at t ++ (to row ++ drop w (drop at t))) t is
          ∙ ap (λ k. take at t ++ (to row ++ drop k (drop at t))) (sym whole),
      whole,
      omega arith,
    )

pub changed_zeroed : (w n : ℕ) (to : List ℕ → List ℕ) (t u : List ℕ) → ((row : List ℕ) → length (to row) ≡ length row)
    → u ≡ changed w n to t → zeroed w u ≡ zeroed w t
changed_zeroed w n to t u long e =
    ⊎_elim
    (λ (is : there w t n ≡ true).
    let puts = changed_puts w n to t long is in
    let row = to (take w (drop (start_of w n) t)) in
    let whole : length row ≡ w = puts.1 in
    let fits : start_of w n + w ≤ length t / w * w = puts.2 in
    let all = div-mul-le_self (length t) w in
    ap (zeroed w) (e ∙ puts.0)
    ∙ zeroed_alike w t (put_row (start_of w n) row t)
    (put_length (start_of w n) row t (omega arith))
    (put_behind (start_of w n) (length t / w * w) row t (omega arith) all))
    (λ (is : there w t n ≡ false).
    ap (zeroed w) (e ∙ cond-false (there w t n) (take (start_of w n) t ++ (to (take w (drop (start_of w n) t)) ++ drop w (drop (start_of w n) t))) t is))
    (cases_Bool (there w t n))

-- counts and flags are words of a row
pub more_counts_long : (usage assign : ℕ) (row : List ℕ) → length (more_counts usage assign row) ≡ length row
more_counts_long usage assign row = simp length-set

pub less_counts_long : (usage assign : ℕ) (row : List ℕ) → length (less_counts usage assign row) ≡ length row
less_counts_long usage assign row = simp length-set

pub with_flag_long : (flag : Flag) (row : List ℕ) → length (with_flag flag row) ≡ length row
with_flag_long flag row = simp length-set

-- zeroing what is zeroed leaves it
pub zeroed_twice : (w : ℕ) (t : List ℕ) → zeroed w (zeroed w t) ≡ zeroed w t
zeroed_twice w t =
    let whole = length t / w * w in
    let zeros = replicate (whole - 0) 0 in
    let all = div-mul-le_self (length t) w in
    let count : length zeros ≡ whole - 0 = length-replicate (whole - 0) 0 in
    let e : whole ≡ length zeros = omega arith in
    zeroed_alike w t (zeroed w t)
    (length-append zeros (drop whole t) ∙ ap (λ n. length zeros + n) (length-drop whole t) ∙ omega arith)
    (ap (λ n. drop n (zeros ++ drop whole t)) e ∙ drop-append_seam zeros (drop whole t))

-- a table zeroed, filled and zeroed again is as zeroed at first
pub zeroed_again : (w : ℕ) (t u v x : List ℕ) → u ≡ zeroed w t → zeroed w v ≡ zeroed w u → x ≡ zeroed w v → x ≡ zeroed w t
zeroed_again w t u v x first filled last = last ∙ filled ∙ ap (zeroed w) first ∙ zeroed_twice w t
