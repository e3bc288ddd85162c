-- What it is to have read a record. The contracts of records and of the cursor cite it.
--
--   Starts, Part      where a record begins; its six words
--   head_of           a record of the code, without its links, as the book has it
--   Reads             a record of the code is what the words have at a number
use Rattle.std.specs.Prelude.{◌≡◌, ℕ, ◌+◌, ◌-◌, ◌*◌, ◌≤◌, true, List, length, slice_index_or}
use Rattle.rules.specs.Tree.{Head}
use Rattle.rules.specs.Kinds.{within}
use Rattle.rules.specs.Words.{word, records, stands, head_at, first_child}
use Rattle.rules.specs.Words as book
use Rattle.records.specs.KindWords.{kind_word}
use Rattle.records.specs.declared.record.Record.{Record}

-- a record of the code, read as the record n, without its links
abbrev pub head_of : ℕ → Record → Head
head_of n r = record {
  number = n;
  kind = kind_word r.kind;
  flags = r.flags;
  symbol = r.symbol;
  mark = r.mark;
}

-- record n begins at this word
pub record Starts (words : List ℕ) (n start : ℕ) : Type 0 where
  pub there : within 1 (records words) n ≡ true
  pub is : start ≡ 6 * (n - 1)
  pub room : start + 6 ≤ length words

-- these are the six words of the record n
pub record Part (words : List ℕ) (n : ℕ) (part : List ℕ) : Type 0 where
  pub there : within 1 (records words) n ≡ true
  pub long : length part ≡ 6
  pub kind : slice_index_or part 0 0 ≡ word words n 0
  pub flags : slice_index_or part 1 0 ≡ word words n 1
  pub symbol : slice_index_or part 2 0 ≡ word words n 2
  pub mark : slice_index_or part 3 0 ≡ word words n 3
  pub first : slice_index_or part 4 0 ≡ word words n 4
  pub next : slice_index_or part 5 0 ≡ word words n 5

-- the words have this record at n
pub record Reads (words : List ℕ) (n : ℕ) (r : Record) : Type 0 where
  pub there : stands words n ≡ true
  pub head : head_of n r ≡ head_at words n
  pub first : r.first ≡ first_child words n
  pub next : r.next ≡ book.next words n
