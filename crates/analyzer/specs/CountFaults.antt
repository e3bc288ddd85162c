-- Faults of a count as the book's refusals. The contracts of what counts cite it.
--
--   number, place      the refusal's number and its record
use Rattle.std.specs.Prelude.{ℕ}
use Rattle.tables.specs.Faults as tables
use Rattle.analyzer.specs.declared.fault.CountFault.{CountFault}
use Rattle.analyzer.specs.declared.fault.CountFault.TheVariants.{Table}

-- a fault's number
abbrev pub number : CountFault → ℕ
number (Table fault) = tables.number fault

-- the record that needs the row
abbrev pub place : CountFault → ℕ
place (Table fault) = tables.place fault
