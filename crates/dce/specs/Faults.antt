-- Faults of the calls as the book's refusals. The contracts of the calls cite it.
--
--   number, place      the refusal's number and its record, of a pass
--   no_memory, begin_number      that of begin, whose record is 0
--   NotBegun           the lengths do not fit, or there is no memory
use Rattle.std.specs.Prelude.{◌≡◌, ℕ, Bool, true, false}
use Rattle.rules.specs.Refusals.{bad_lengths}
use Rattle.checker.specs.Faults as checks
use Rattle.analyzer.specs.CountFaults as counts
use Rattle.dce.specs.declared.fault.BeginFault.{BeginFault}
use Rattle.dce.specs.declared.fault.BeginFault.TheVariants.{Lengths as begin_lengths, Memory}
use Rattle.dce.specs.declared.fault.PassFault.{PassFault}
use Rattle.dce.specs.declared.fault.PassFault.TheVariants.{Lengths, Check, Count}

-- a fault's number
abbrev pub number : PassFault → ℕ
number (Lengths fault) = bad_lengths
number (Check fault) = checks.number fault
number (Count fault) = counts.number fault

-- the record that it names
abbrev pub place : PassFault → ℕ
place (Lengths fault) = 0
place (Check fault) = checks.place fault
place (Count fault) = counts.place fault

-- the refusal of a begin that finds no memory
abbrev pub no_memory : ℕ
no_memory = 13

-- the number of a begin's fault
abbrev pub begin_number : BeginFault → ℕ
begin_number (begin_lengths fault) = bad_lengths
begin_number Memory = no_memory

-- why a shaker is not begun, given whether the lengths fit
abbrev pub NotBegun : (fit : Bool) → BeginFault → Type 0
NotBegun fit (begin_lengths fault) = fit ≡ false
NotBegun fit Memory = fit ≡ true
