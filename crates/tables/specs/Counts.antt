-- The counts and flags of a row, and how they change. The contracts of names and edges cite it.
--
--   usage_word .. counted_word      where they stand in a row, from 0
--   row_word                        a word of a row of a table
--   plus                            addition that wraps at 2^32; subtraction is the book's `minus`
--   with_counts                     a row with these counts
--   more_counts, less_counts        a row's counts, added to and subtracted from
--   flag_word, with_flag            where a flag stands; a row's flag set
--   with_entry, with_counted        for each flag
--   row_info, info_of               what was counted of a row; of a row that may not be there
use Rattle.std.specs.Prelude.{ℕ, ◌+◌, ◌%◌, ◌^◌, not, List, Some, None, Option, ◌==◌, slice_index, slice_set, if◌then◌else◌}
use Rattle.rules.specs.Rings.{minus}
use Rattle.rules.specs.Tables.{names_width}
use Rattle.tables.specs.Living.{start_of}
use Rattle.tables.specs.declared.name_row.Flag.{Flag}
use Rattle.tables.specs.declared.name_row.NameInfo.{NameInfo}
use Rattle.tables.specs.declared.name_row.Flag.TheVariants.{Entry, Counted}

-- the counts stand in names and edges alike
abbrev pub usage_word : ℕ
usage_word = 2

abbrev pub assign_word : ℕ
assign_word = 3

-- the flags stand in names
abbrev pub entry_word : ℕ
entry_word = 4

abbrev pub counted_word : ℕ
counted_word = 5

-- word i of a row
abbrev pub row_word : (width number i : ℕ) → List ℕ → ℕ
row_word width number i words = slice_index words (start_of width number + i)

-- addition that wraps at 2^32
abbrev pub plus : ℕ → ℕ → ℕ
plus a b = (a + b) % 2 ^ 32

-- a row with these counts
abbrev pub with_counts : (usage assign : ℕ) → List ℕ → List ℕ
with_counts usage assign row = slice_set (slice_set row usage_word usage) assign_word assign

-- a row with more in word i
abbrev pub more_in : (i by : ℕ) → List ℕ → List ℕ
more_in i by row = slice_set row i (plus (slice_index row i) by)

-- a row with less in word i
abbrev pub less_in : (i by : ℕ) → List ℕ → List ℕ
less_in i by row = slice_set row i (minus (slice_index row i) by)

-- a row with more in its counts
abbrev pub more_counts : (usage assign : ℕ) → List ℕ → List ℕ
more_counts usage assign row = more_in assign_word assign (more_in usage_word usage row)

-- a row with less in its counts
abbrev pub less_counts : (usage assign : ℕ) → List ℕ → List ℕ
less_counts usage assign row = less_in assign_word assign (less_in usage_word usage row)

-- the word of a flag
abbrev pub flag_word : Flag → ℕ
flag_word Entry = entry_word
flag_word Counted = counted_word

-- a row with a flag
abbrev pub with_flag : Flag → List ℕ → List ℕ
with_flag flag row = slice_set row (flag_word flag) 1

-- a row that is an entry
abbrev pub with_entry : List ℕ → List ℕ
with_entry row = with_flag Entry row

-- a row that was counted
abbrev pub with_counted : List ℕ → List ℕ
with_counted row = with_flag Counted row

-- what was counted of a row of names
abbrev pub row_info : List ℕ → (row : ℕ) → Option NameInfo
row_info names row =
    if row_word names_width row counted_word names == 0 then None
    else Some (record {
      counts = record { usage = row_word names_width row usage_word names; assign = row_word names_width row assign_word names };
      entry = not (row_word names_width row entry_word names == 0);
    })

-- of the row of a name, if it has one
abbrev pub info_of : List ℕ → (row : Option ℕ) → Option NameInfo
info_of names None = None
info_of names (Some row) = row_info names row
