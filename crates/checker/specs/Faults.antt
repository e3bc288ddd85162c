-- Faults of the check as the book's refusals. The contracts of the check and of its walk cite it.
--
--   number, place      the refusal's number and its record
use Rattle.std.specs.Prelude.{ℕ}
use Rattle.rules.specs.Refusals.{bad_lengths, bad_link, too_deep, bad_record}
use Rattle.checker.specs.declared.fault.CheckFault.{CheckFault}
use Rattle.checker.specs.declared.fault.CheckFault.TheVariants.{Lengths, Link, Deep, Misfit}

-- a fault's number
abbrev pub number : CheckFault → ℕ
number Lengths = bad_lengths
number (Link n) = bad_link
number (Deep n) = too_deep
number (Misfit n) = bad_record

-- the record at which it shows
abbrev pub place : CheckFault → ℕ
place Lengths = 0
place (Link n) = n
place (Deep n) = n
place (Misfit n) = n
