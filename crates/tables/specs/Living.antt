-- A table as rows: what words hold, for rows of any width. The contracts of the tables cite it; it assumes nothing.
--
--   cut, before_zero, rows      the whole rows of words; rows up to the first that begins with 0; the rows of a table
--   used, free, behind          how many rows there are; a whole row is free behind them; the words behind that one
--   there, IsThere, start_of    a row is among the whole rows; where it begins
--   keyed, first_row            a row has a key; the number of the first row that passes, from 1
--   nth, change_nth             a row by its place, from 0; that row changed
--   put_row, added              words with a row in the place of others; a table with a row after its last
use Rattle.std.specs.Prelude.{◌≡◌, ℕ, zero, suc, ◌+◌, ◌-◌, ◌*◌, ◌/◌, ◌≤◌, Bool, true, ◌&&◌, List, [], ◌∷◌, ◌++◌, length, take, drop, Some, None, Option, ◌==◌, nat_le, nat_lt, slice_index, if◌then◌else◌}

-- so many rows, one after another
unfoldable pub cut : (count width : ℕ) → List ℕ → List (List ℕ)
cut zero width words = []
cut (suc count) width words = take width words ∷ cut count width (drop width words)

-- rows up to the first that begins with 0
unfoldable pub before_zero : List (List ℕ) → List (List ℕ)
before_zero [] = []
before_zero (r ∷ rs) = if slice_index r 0 == 0 then [] else r ∷ before_zero rs

-- the rows of a table
unfoldable pub rows : (width : ℕ) → List ℕ → List (List ℕ)
rows width words = before_zero (cut (length words / width) width words)

-- how many rows it has
abbrev pub used : (width : ℕ) → List ℕ → ℕ
used width words = length (rows width words)

-- a whole row is free behind them
abbrev pub free : (width : ℕ) → List ℕ → Bool
free width words = nat_lt (used width words) (length words / width)

-- the words behind the first free row
abbrev pub behind : (width : ℕ) → List ℕ → List ℕ
behind width words = drop (used width words * width + width) words

-- a row of this number is among the whole rows, counted from 1
abbrev pub there : (width : ℕ) → List ℕ → (number : ℕ) → Bool
there width words number = nat_lt 0 number && nat_le number (length words / width)

-- so it is, and there are no more rows than words
abbrev pub IsThere : (width : ℕ) → List ℕ → (number : ℕ) → Type 0
IsThere width words number = (there width words number ≡ true) × (number ≤ length words)

-- where it begins
abbrev pub start_of : (width number : ℕ) → ℕ
start_of width number = (number - 1) * width

-- a row has the key k
abbrev pub keyed : {Key : Type 0} → (Key → Key → Bool) → (List ℕ → Key) → Key → List ℕ → Bool
keyed same key_of k row = same k (key_of row)

-- the number of the first row that passes, the first being n + 1
abbrev pub first_from : {Row : Type 0} → (Row → Bool) → ℕ → List Row → Option ℕ
first_from passes n [] = None
first_from passes n (r ∷ rs) = if passes r then Some (n + 1) else first_from passes (n + 1) rs

-- the same from 1
abbrev pub first_row : {Row : Type 0} → (Row → Bool) → List Row → Option ℕ
first_row passes rows = first_from passes 0 rows

-- the row of this place, from 0
abbrev pub nth : {Row : Type 0} → (place : ℕ) → List Row → Option Row
nth place [] = None
nth zero (r ∷ rs) = Some r
nth (suc place) (r ∷ rs) = nth place rs

-- that row changed
abbrev pub change_nth : {Row : Type 0} → (place : ℕ) → (Row → Row) → List Row → List Row
change_nth place to [] = []
change_nth zero to (r ∷ rs) = to r ∷ rs
change_nth (suc place) to (r ∷ rs) = r ∷ change_nth place to rs

-- words with a row put in the place of those from `at` on
abbrev pub put_row : (at : ℕ) → (row words : List ℕ) → List ℕ
put_row at row words = take at words ++ (row ++ drop (length row) (drop at words))

-- a table with a row after its last, if a row is free
abbrev pub added : (width : ℕ) → (row words : List ℕ) → List ℕ
added width row words = if free width words then put_row (used width words * width) row words else words

-- a row is free: its number, and where it begins
pub record Free (width : ℕ) (words : List ℕ) (number begins : ℕ) : Type 0 where
  pub some : free width words ≡ true
  pub next : number ≡ used width words + 1
  pub is_there : there width words number ≡ true
  pub few : number ≤ length words
  pub place : begins ≡ used width words * width
  pub within : begins + width ≤ length words
