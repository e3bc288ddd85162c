-- What a removal goes by, out of the caller's words. The contracts of the tests cite it.
--
--   row_at, row_in_words      a name's row in the words of names
--   by_words                  settings, judge and retain list, with the words of declared and names
--   config_of, by_of          the code's settings, and all that its tests go by, beside what the judge means
--   silent                    the judge of the tests that ask none
use Rattle.std.specs.Prelude.{ℕ, Bool, false, not, List, Some, None, Option, ◌==◌}
use Rattle.rules.specs.Tree.{Chain, Name}
use Rattle.rules.specs.Names.{among}
use Rattle.rules.specs.Tables.{NameRow, fresh, names_width, read_declared}
use Rattle.rules.specs.Removal.{By}
use Rattle.rules.specs.Removal as book
use Rattle.tables.specs.Living.{rows, first_row}
use Rattle.tables.specs.Counts.{usage_word, assign_word, entry_word, counted_word, row_word}
use Rattle.tables.specs.Matching.{id_keyed}
use Rattle.verdicts.specs.declared.basis.Config.{Config}
use Rattle.verdicts.specs.declared.basis.Basis.{Basis}

-- a name's row by its number in the words of names; a missing one reads as a fresh one
abbrev pub row_at : List ℕ → Name → Option ℕ → NameRow
row_at names n None = fresh n
row_at names n (Some r) = record {
  name = n;
  usage = row_word names_width r usage_word names;
  assign = row_word names_width r assign_word names;
  entry = not (row_word names_width r entry_word names == 0);
  counted = not (row_word names_width r counted_word names == 0);
}

-- a name's row in the words of names; a missing one reads as a fresh one
abbrev pub row_in_words : List ℕ → Name → NameRow
row_in_words names n = row_at names n (first_row (id_keyed (record { symbol = n.symbol; mark = n.mark })) (rows names_width names))

-- what a removal goes by: settings, judge and retain list, and the words of declared and names
abbrev pub by_words : book.Config → (declared names : List ℕ) → By
by_words k declared names = record { config = k; row = λ n. row_in_words names n; declares = λ n. among n (read_declared declared) }

-- the code's settings, with what the judge means and the retain list
abbrev pub config_of : Config → (acts : Chain → Bool) → (retain : List ℕ) → book.Config
config_of k acts retain = record {
  top_level = k.top_level;
  preserve_imports = k.preserve_imports_with_side_effects;
  acts = acts;
  retain = retain;
}

-- what the code's tests go by, with what the judge means
abbrev pub by_of : (acts : Chain → Bool) → Basis → By
by_of acts b = by_words (config_of b.config acts b.retain.now) b.declared.now b.names.now

-- the judge to whom nothing acts: what a test goes by that asks no judge
abbrev pub silent : Chain → Bool
silent c = false
