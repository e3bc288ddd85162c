-- The words of a count are the book's rows. The contracts of what counts cite it.
--
--   weight               how much events can add to a count
--   Told                 the words of names and edges beside the book's rows, or the same refusal
--   CountsFit            the events of a tree never bring a count to 2^32
--   FilledTold           the events of a tree, entered into words, give the book's rows
use Rattle.std.specs.Prelude.{◌≡◌, ℕ, ◌+◌, ◌/◌, ◌^◌, ◌<◌, List, [], ◌∷◌, length}
use Rattle.rules.specs.Tree.{Chain}
use Rattle.rules.specs.Refusals.{Outcome}
use Rattle.rules.specs.Refusals.Outcome.{fine, refused}
use Rattle.rules.specs.Counting.{Event, events_of}
use Rattle.rules.specs.Tables.{Counts, Room, no_rows, fill, names_width, edges_width}
use Rattle.rules.specs.Calls.{zeroed}
use Rattle.rules.specs.Held.{Tree}
use Rattle.tables.specs.Ready.{Ready}
use Rattle.data.specs.Events.{Tables, tables}
use Rattle.data.specs.Filling.{fill_words}

-- how much events can add to any count: one for each event, and one for each of its holders
abbrev pub weight : List Event → ℕ
weight [] = 0
weight (e ∷ es) = 1 + length e.holders + weight es

-- what filling the words comes to, beside filling rows; the tables were found with these words
abbrev pub Told : (found found' : List ℕ) → Outcome Tables → Outcome Counts → Type 0
Told found found' (fine t) (fine c) = Ready c found found' t.names t.edges
Told found found' (refused n a) (refused m b) = (n ≡ m) × (a ≡ b)
Told found found' (fine t) (refused m b) = ⊥
Told found found' (refused n a) (fine c) = ⊥

-- the events of a checked tree, entered into zeroed tables, give the book's rows, or its refusal
abbrev pub FilledTold : Type 0
FilledTold = (words : List ℕ) (tree : Chain) → Tree words tree → (names edges : List ℕ) (space : Room)
    → space.names ≡ length names / names_width → space.edges ≡ length edges / edges_width
    → Told names edges (fill_words (events_of tree) (tables (zeroed names_width names) (zeroed edges_width edges))) (fill space (events_of tree) no_rows)

-- the events of a checked tree never bring a count to 2^32
abbrev pub CountsFit : Type 0
CountsFit = (words : List ℕ) (tree : Chain) → Tree words tree → weight (events_of tree) < 2 ^ 32
