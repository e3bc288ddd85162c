-- What a write to a record leaves. The contracts of the writers cite it.
--
--   with_word      the words, one word of a record changed
--   turned         the words, a record made one of another kind
use Rattle.std.specs.Prelude.{ℕ, ◌+◌, ◌-◌, ◌*◌, List, slice_set, if◌then◌else◌}
use Rattle.rules.specs.Kinds.{within}
use Rattle.rules.specs.Words.{records}

-- the words with v as word i of record n, if the record is there
abbrev pub with_word : List ℕ → (n i v : ℕ) → List ℕ
with_word words n i v = if within 1 (records words) n then slice_set words (6 * (n - 1) + i) v else words

-- the words with record n of kind k, without flags, symbol and mark, its links as they were
abbrev pub turned : List ℕ → (n k : ℕ) → List ℕ
turned words n k = with_word (with_word (with_word (with_word words n 0 k) n 1 0) n 2 0) n 3 0
