-- Rows of a table without bound: a row that is needed is there or comes last, and one that changes is made before.
-- What a table tells of its rows, as a test that some row passes or as a sum of weights, changes by what the one row brings.
--
--   with_row, with_change             a row is there; it changes
--   change_with, keys_with_change     needed, then changed; the keys
--   with_row_there, with_row_new      what comes last
--   some_with_row, some_with_change, total_with_change      what tests and sums tell afterwards
use Rattle.std.specs.Prelude.{if◌then◌else◌}
use Rattle.std.proofs.Common.{◌≡◌, ℕ, ◌+◌, Bool, true, false, ◌||◌, List, [], ◌∷◌, ◌++◌, map, refl, ap, arith}
use Rattle.std.proofs.lemmas.Bool.{false≢true, cond-true}
use Rattle.rules.specs.Tables.{EdgeRow, some_row, change}
use Rattle.rules.specs.Rings.{total}

-- a row is there: it is, or it comes last
abbrev pub with_row : {Row : Type 0} → (Row → Bool) → Row → List Row → List Row
with_row is_it new [] = new ∷ []
with_row is_it new (r ∷ rs) = if is_it r then r ∷ rs else r ∷ with_row is_it new rs

-- it changes
abbrev pub with_change : {Row : Type 0} → (Row → Bool) → Row → (Row → Row) → List Row → List Row
with_change is_it new to [] = to new ∷ []
with_change is_it new to (r ∷ rs) = if is_it r then to r ∷ rs else r ∷ with_change is_it new to rs

pub change_with : {Row : Type 0} (is_it : Row → Bool) (new : Row) (to : Row → Row) → is_it new ≡ true → (rs : List Row) → change is_it to (with_row is_it new rs) ≡ with_change is_it new to rs
change_with is_it new to q [] = cond-true (is_it new) _ _ q
change_with is_it new to q (r ∷ rs) = grind (arith, change_with is_it new to q rs)

-- the same keys, where a change keeps a row's key
pub keys_with_change : {Row K : Type 0} (key : Row → K) (is_it : Row → Bool) (new : Row) (to : Row → Row) → ((r : Row) → key (to r) ≡ key r)
    → (rs : List Row) → map key (with_change is_it new to rs) ≡ map key (with_row is_it new rs)
keys_with_change {Row} {K} key is_it new to keeps [] = ap (λ (k : K). k ∷ []) (keeps new)
keys_with_change key is_it new to keeps (r ∷ rs) = grind (arith, keys_with_change key is_it new to keeps rs, keeps r)

pub with_row_there : {Row : Type 0} (is_it : Row → Bool) (new : Row) (rs : List Row) → some_row is_it rs ≡ true → with_row is_it new rs ≡ rs
with_row_there is_it new [] h = absurd (false≢true h)
with_row_there is_it new (r ∷ rs) h = grind (arith, with_row_there is_it new rs)

pub with_row_new : {Row : Type 0} (is_it : Row → Bool) (new : Row) (rs : List Row) → some_row is_it rs ≡ false → with_row is_it new rs ≡ rs ++ (new ∷ [])
with_row_new is_it new [] h = refl
with_row_new is_it new (r ∷ rs) h = grind (arith, with_row_new is_it new rs)

-- some row passes: the one that is there, or another
pub some_with_row : {Row : Type 0} (passes is_it : Row → Bool) (new : Row) → ((r : Row) → is_it r ≡ true → passes new ≡ true → passes r ≡ true)
    → (rs : List Row) → some_row passes (with_row is_it new rs) ≡ (passes new || some_row passes rs)
some_with_row passes is_it new f [] = refl
some_with_row passes is_it new f (r ∷ rs) = grind (arith, some_with_row passes is_it new f rs, f r)

-- some row passes after one has changed, which brings b
pub some_with_change : {Row : Type 0} (passes is_it : Row → Bool) (new : Row) (to : Row → Row) (b : Bool) → passes (to new) ≡ b → ((r : Row) → is_it r ≡ true → passes (to r) ≡ (b || passes r))
    → (rs : List Row) → some_row passes (with_change is_it new to rs) ≡ (b || some_row passes rs)
some_with_change passes is_it new to b n f [] = ap (λ (x : Bool). x || false) n
some_with_change passes is_it new to b n f (r ∷ rs) = grind (arith, some_with_change passes is_it new to b n f rs, f r)

-- a row's part of a sum
abbrev pub share : (EdgeRow → Bool) → (EdgeRow → ℕ) → EdgeRow → ℕ
share passes weight r = if passes r then weight r else 0

-- a sum after one row has changed, which adds k
pub total_with_change : (passes : EdgeRow → Bool) (weight : EdgeRow → ℕ) (is_it : EdgeRow → Bool) (new : EdgeRow) (to : EdgeRow → EdgeRow) (k : ℕ) → share passes weight (to new) ≡ k
    → ((r : EdgeRow) → is_it r ≡ true → share passes weight (to r) ≡ share passes weight r + k)
    → (rs : List EdgeRow) → total passes weight (with_change is_it new to rs) ≡ total passes weight rs + k
total_with_change passes weight is_it new to k n f [] = omega arith
total_with_change passes weight is_it new to k n f (r ∷ rs) = grind (arith, total_with_change passes weight is_it new to k n f rs, f r)
