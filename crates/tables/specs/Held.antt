-- A table without traces of older rows: its rows, then zeros to the last whole row, then the words past it.
-- An insertion into such a table adds its row and no other. Whoever fills a zeroed table knows it to be one.
--
--   Proper           rows that a table can hold
--   Holds            a table's words are those of some rows
--   changed          a table, the words of one row changed
use Rattle.std.specs.Prelude.{◌≡◌, ℕ, ◌/◌, ◌<◌, ◌≤◌, List, [], ◌∷◌, ◌++◌, length, take, drop, slice_index, if◌then◌else◌}
use Rattle.std.specs.List.{flat_map}
use Rattle.rules.specs.Tables.{table}
use Rattle.tables.specs.Living.{there, start_of}

-- each row has as many words as the width says, and does not begin with 0
abbrev pub Proper : {Row : Type 0} → (width : ℕ) → (Row → List ℕ) → List Row → Type 0
Proper width in_words [] = Unit {0}
Proper width in_words (r ∷ rs) = (length (in_words r) ≡ width) × (0 < slice_index (in_words r) 0) × Proper width in_words rs

-- these words, of a table found with others, are those of the rows
pub record Holds {Row : Type 0} (width : ℕ) (in_words : Row → List ℕ) (found : List ℕ) (rs : List Row) (words : List ℕ) : Type 0 where
  pub proper : Proper width in_words rs
  pub room : length rs ≤ length found / width
  pub is : words ≡ table width (flat_map in_words rs) found

-- the words with those of one row changed, if it is there
abbrev pub changed : (width number : ℕ) → (List ℕ → List ℕ) → List ℕ → List ℕ
changed width number to words =
    let at = start_of width number in
    if there width words number then take at words ++ (to (take width (drop at words)) ++ drop width (drop at words)) else words
