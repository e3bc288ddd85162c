-- Names of the code as the book has them.
--
--   name_of_id      the name that a symbol and a mark are
--   id_text         its text
use Rattle.std.specs.Prelude.{ℕ, List, ◌++◌, codes, decimal}
use Rattle.rules.specs.Tree.{Name}
use Rattle.records.specs.declared.id.Id.{Id}

-- the name
abbrev pub name_of_id : Id → Name
name_of_id id = record { symbol = id.symbol; mark = id.mark }

-- the symbol, a colon and the mark
abbrev pub id_text : Id → List ℕ
id_text id = decimal id.symbol ++ (codes ":" ++ decimal id.mark)
