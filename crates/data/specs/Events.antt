-- One reference or mark, counted in the words of names and edges, step by step as the book's `enter` goes. Counts are modulo 2^32.
-- The contracts of what counts it cite it.
--
--   Placed, placed_at, told           a row and the words of its table; an answer of a table as the book's outcome
--   row_placed                        the row with a key
--   name_placed, edge_placed          the row of a name, of an edge
--   Tables, tables                    the words of names and edges
--   joined, joined_all                the edge from a holder to a name; those from all holders
--   counted, entered                  the name's own counts; the whole reference
use Rattle.std.specs.Prelude.{ℕ, Bool, List, [], ◌∷◌, Ok, Err, Result, if◌then◌else◌}
use Rattle.rules.specs.Refusals.{Outcome, and_then}
use Rattle.rules.specs.Refusals.Outcome.{fine, refused}
use Rattle.rules.specs.Tables.{names_width, edges_width, fresh}
use Rattle.records.specs.declared.id.Id.{Id}
use Rattle.records.specs.Ids.{name_of_id}
use Rattle.tables.specs.declared.edge_row.Edge.{Edge}
use Rattle.tables.specs.declared.fault.TableFault.{TableFault}
use Rattle.tables.specs.declared.fault.TableFault.TheVariants.{Names, Edges}
use Rattle.tables.specs.Counts.{more_counts, with_entry, with_counted}
use Rattle.tables.specs.Faults.{number, place}
use Rattle.tables.specs.Held.{changed}
use Rattle.tables.specs.Inserting.{answered, placed}
use Rattle.tables.specs.Living.{rows, first_row}
use Rattle.tables.specs.Matching.{id_keyed, ends_keyed, name_words, ends_words}

-- a row and the words of its table
pub record Placed : Type 0 where
  pub row : ℕ
  pub words : List ℕ

abbrev pub placed_at : (row : ℕ) → (words : List ℕ) → Placed
placed_at row words = record { row = row; words = words }

-- what a table answers and leaves, as the book's outcome
abbrev pub told : Result ℕ TableFault → List ℕ → Outcome Placed
told (Ok row) words = fine (placed_at row words)
told (Err fault) words = refused (number fault) (place fault)

-- the row with a key, which gets these words if it is not there
abbrev pub row_placed : (List ℕ → Bool) → (width : ℕ) → TableFault → (new : List ℕ) → List ℕ → Outcome Placed
row_placed has_key width full new words =
    let row = first_row has_key (rows width words) in
    told (answered width full words row) (placed width new words row)

-- the row of a name, which the record `at` needs
unfoldable pub name_placed : Id → (at : ℕ) → List ℕ → Outcome Placed
name_placed id at words = row_placed (id_keyed id) names_width (Names at) (name_words (fresh (name_of_id id))) words

-- the row of an edge
unfoldable pub edge_placed : Edge → (at : ℕ) → List ℕ → Outcome Placed
edge_placed edge at words = row_placed (ends_keyed edge) edges_width (Edges at) (ends_words edge) words

-- the words of names and edges
pub record Tables : Type 0 where
  pub names : List ℕ
  pub edges : List ℕ

abbrev pub tables : (names edges : List ℕ) → Tables
tables names edges = record { names = names; edges = edges }

-- the edge from a holder to a name has more weight
unfoldable pub joined : Id → (usage assign at : ℕ) → (holder : Id) → Tables → Outcome Tables
joined id usage assign at holder t =
    and_then (name_placed holder at t.names) (λ from.
    and_then (name_placed id at from.words) (λ to.
    and_then (edge_placed (record { from = from.row; to = to.row }) at t.edges) (λ edge.
    fine (tables to.words (changed edges_width edge.row (more_counts usage assign) edge.words)))))

-- so have those from all holders
abbrev pub joined_all : Id → (usage assign at : ℕ) → (holders : List Id) → Tables → Outcome Tables
joined_all id usage assign at [] t = fine t
joined_all id usage assign at (holder ∷ holders) t =
    and_then (joined id usage assign at holder t) (λ more. joined_all id usage assign at holders more)

-- a row becomes an entry, if it is to be one
abbrev pub made_entry : (entry : Bool) → (row : ℕ) → List ℕ → List ℕ
made_entry entry row words = if entry then changed names_width row with_entry words else words

-- the name has more in its counts, and is counted
unfoldable pub counted : Id → (usage assign : ℕ) → (entry : Bool) → (at : ℕ) → List ℕ → Outcome (List ℕ)
counted id usage assign entry at words =
    and_then (name_placed id at words) (λ p.
    fine (changed names_width p.row with_counted
    (made_entry entry p.row (changed names_width p.row (more_counts usage assign) p.words))))

-- the name's own counts, beside edges
abbrev pub owned : Id → (usage assign : ℕ) → (entry : Bool) → (at : ℕ) → Tables → Outcome Tables
owned id usage assign entry at t =
    and_then (counted id usage assign entry at t.names) (λ names. fine (tables names t.edges))

-- one reference or mark
unfoldable pub entered : Id → (usage assign : ℕ) → (entry : Bool) → (at : ℕ) → (holders : List Id) → Tables → Outcome Tables
entered id usage assign entry at holders t =
    and_then (joined_all id usage assign at holders t) (λ u. owned id usage assign entry at u)
