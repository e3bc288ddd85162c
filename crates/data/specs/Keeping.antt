-- What a count into names and edges leaves as it was. The contracts of `Data` cite it.
--
--   words_of      the words of both tables
--   Kept          the tables are the same ones, and the words behind their rows stay
use Rattle.std.specs.Prelude.{◌≡◌}
use Rattle.rules.specs.Calls.{zeroed}
use Rattle.rules.specs.Tables.{names_width, edges_width}
use Rattle.data.specs.Events.{Tables, tables}
use Rattle.data.specs.declared.data.Data.{Data}

-- the words of both tables
abbrev pub words_of : Data → Tables
words_of d = tables d.names.now d.edges.now

-- the tables are the same ones, and the words behind their rows stay
pub record Kept (d e : Data) : Type 0 where
  pub names : e.names.ghost_name ≡ d.names.ghost_name
  pub edges : e.edges.ghost_name ≡ d.edges.ghost_name
  pub names_behind : zeroed names_width e.names.now ≡ zeroed names_width d.names.now
  pub edges_behind : zeroed edges_width e.edges.now ≡ zeroed edges_width d.edges.now
