-- Faults of the tables as the book's refusals. The contracts of what fills tables cite it.
--
--   number, place      the refusal's number and its record
use Rattle.std.specs.Prelude.{ℕ}
use Rattle.rules.specs.Refusals.{declared_full, names_full, edges_full}
use Rattle.tables.specs.declared.fault.TableFault.{TableFault}
use Rattle.tables.specs.declared.fault.TableFault.TheVariants.{Declared, Names, Edges}

-- a fault's number
abbrev pub number : TableFault → ℕ
number (Declared at) = declared_full
number (Names at) = names_full
number (Edges at) = edges_full

-- the record that needs the row
abbrev pub place : TableFault → ℕ
place (Declared at) = at
place (Names at) = at
place (Edges at) = at
