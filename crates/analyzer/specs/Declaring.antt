-- The declared table as names come to it, and once it is filled. The contracts of what fills it cite it.
--
--   told                              an answer of a table as the book's outcome
--   declare_key, declare_words        the words of declared once they have a name
--   FilledDeclared, FullDeclared      what filling leaves, and what a full table leaves, as the book says
use Rattle.std.specs.Prelude.{◌≡◌, ℕ, ◌/◌, List, [], length, Ok, Err, Option, Result}
use Rattle.rules.specs.Tree.{Head, Chain}
use Rattle.rules.specs.Refusals.{Outcome}
use Rattle.rules.specs.Refusals.Outcome.{fine, refused}
use Rattle.rules.specs.Tables.{Room, declared_width, read_declared}
use Rattle.rules.specs.Calls.{fill_declared, declared_after}
use Rattle.records.specs.declared.id.Id.{Id}
use Rattle.records.specs.Ids.{name_of_id}
use Rattle.tables.specs.declared.fault.TableFault.{TableFault}
use Rattle.tables.specs.declared.fault.TableFault.TheVariants.{Declared}
use Rattle.tables.specs.Faults.{number, place}
use Rattle.tables.specs.Living.{rows, first_row}
use Rattle.tables.specs.Inserting.{answered, placed}
use Rattle.tables.specs.Matching.{id_keyed, id_words}

-- what a table answers and leaves, as the book's outcome
abbrev pub told : Result ℕ TableFault → List ℕ → Outcome (List ℕ)
told (Ok row) words = fine words
told (Err fault) words = refused (number fault) (place fault)

-- the words of declared once they have the name k, given its row; the record `at` bears the name
abbrev pub declare_row : Option ℕ → Id → (at : ℕ) → List ℕ → Outcome (List ℕ)
declare_row row k at words =
    told (answered declared_width (Declared at) words row) (placed declared_width (id_words (name_of_id k)) words row)

-- the words of declared once they have the name k
abbrev pub declare_key : Id → (at : ℕ) → List ℕ → Outcome (List ℕ)
declare_key k at words = declare_row (first_row (id_keyed k) (rows declared_width words)) k at words

-- the words of declared once they have the name that h bears
abbrev pub declare_words : Head → List ℕ → Outcome (List ℕ)
declare_words h words = declare_key (record { symbol = h.symbol; mark = h.mark }) h.number words

-- declared, found with the first words and left with the second, has the rows that the book fills it with
abbrev pub FilledDeclared : Chain → (before after : List ℕ) → Type 0
FilledDeclared tree before after =
    ((space : Room) → space.declared ≡ length before / declared_width
    → fill_declared space tree (read_declared before) ≡ fine (read_declared after))
    × (after ≡ declared_after (read_declared before) (read_declared after) before)

-- the book refuses to fill it, and it is left without rows
abbrev pub FullDeclared : Chain → (number at : ℕ) → (before after : List ℕ) → Type 0
FullDeclared tree number at before after =
    ((space : Room) → space.declared ≡ length before / declared_width
    → fill_declared space tree (read_declared before) ≡ refused number at)
    × (after ≡ declared_after (read_declared before) [] before)
