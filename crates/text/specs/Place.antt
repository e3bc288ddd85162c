-- A case in the words of the text.
--
--   said_of      what a case says
use Rattle.std.specs.Prelude.{vec_items, string_bytes}
use Rattle.text.specs.declared.case.Case.{Case}
use Rattle.text.specs.Reader.{Said}

-- what a case says
abbrev pub said_of : Case → Said
said_of c = record {
  name = string_bytes c.name;
  settings = c.settings;
  retain = vec_items c.retain;
  tables = c.tables;
  tree = vec_items c.tree;
  calls = vec_items c.calls;
}
