-- The walk of the check by its marks, in the book's terms. The contracts of the walk cite it.
--
--   Marks, unmarked      marks that say which records were reached; how many are not set
--   Taken, Untaken       a record is taken, or refused
--   Walked               a chain was walked to its end
use Rattle.std.specs.Prelude.{◌≡◌, ℕ, suc, ◌+◌, ◌-◌, ◌≤◌, Bool, false, List, [], ◌∷◌, get_or, slice_index_or, if◌then◌else◌}
use Rattle.rules.specs.Tree.{reached}
use Rattle.rules.specs.Kinds.{member}
use Rattle.rules.specs.Grammar.{Way}
use Rattle.rules.specs.Refusals.Outcome.{fine, refused}
use Rattle.rules.specs.Words.{records}
use Rattle.rules.specs.Check.{most_nesting, Read, take}
use Rattle.rules.specs.Walks.{full}
use Rattle.records.specs.Reads.{Reads}
use Rattle.records.specs.declared.record.Record.{Record}
use Rattle.checker.specs.Faults.{number, place}
use Rattle.checker.specs.declared.fault.CheckFault.{CheckFault}

-- the records marked are those reached: mark k is that of record k + 1
unfoldable pub Marks : List Bool → List ℕ → Type 0
Marks seen before = (k : ℕ) → slice_index_or seen k false ≡ member (suc k) before

-- how many marks are not set
unfoldable pub unmarked : List Bool → ℕ
unmarked [] = 0
unmarked (b ∷ bs) = (if b then 0 else 1) + unmarked bs

-- record n is taken, whatever was reached before, if the marks say so of n
pub record Taken (words : List ℕ) (n nesting : ℕ) (ways : List Way) (seen : List Bool) (r : Record) (onward : List Way) : Type 0 where
  pub within : n ≤ records words
  pub level : nesting ≤ most_nesting
  pub free : get_or seen (n - 1) false ≡ false
  pub reads : Reads words n r
  pub is : (before : List ℕ) → member n before ≡ false → take words n nesting ways before ≡ fine onward

-- record n is refused, whatever was reached before, if the marks say so of n
abbrev pub Untaken : List ℕ → (n nesting : ℕ) → List Way → List Bool → CheckFault → Type 0
Untaken words n nesting ways seen e =
    (before : List ℕ) → member n before ≡ slice_index_or seen (n - 1) false → take words n nesting ways before ≡ refused (number e) (place e)

-- a chain was walked to its end: what was read, the marks left and the number of its records
pub record Walked (words : List ℕ) (n nesting : ℕ) (ways : List Way) (parent : ℕ) (before : List ℕ) (seen : List Bool) (count : ℕ) : Type 0 where
  pub read : Read
  pub is : full words n nesting ways parent before ≡ fine read
  pub marks : Marks seen read.reached
  pub counts : count ≡ reached read.chain
