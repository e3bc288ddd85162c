-- What a removal leaves of a tree that the check took: the check takes it again, and it has fewer records.
--
--   KeepsFormed, KeepsApart, KeepsLevel      the table of kinds, each record once, the nesting
--   KeepsNumbers, RootKept, KeepsRoot        record numbers; the root
--   CheckedAgain                             words that hold what is left are taken by the check
--   FewerReached, LostReached                how many records are left
use Rattle.std.specs.Prelude.{◌≡◌, ℕ, ◌<◌, ◌≤◌, true, List, length}
use Rattle.rules.specs.Tree.{Head, Chain, reached}
use Rattle.rules.specs.Tree.Chain.{end, link}
use Rattle.rules.specs.Grammar.{Way, root}
use Rattle.rules.specs.Refusals.Outcome.{fine}
use Rattle.rules.specs.Words.{Holds}
use Rattle.rules.specs.Check.{check}
use Rattle.rules.specs.Held.{Numbers, Apart, Level, Formed}
use Rattle.rules.specs.Removal.{By, Place, at_root, treat}

-- what is left of a tree formed by the table of kinds is so formed
abbrev pub KeepsFormed : Type 0
KeepsFormed = (by : By) (c : Chain) → Formed root c → Formed root (treat by at_root c).chain

-- no record is left twice
abbrev pub KeepsApart : Type 0
KeepsApart = (by : By) (p : Place) (c : Chain) → Apart c → Apart (treat by p c).chain

-- nothing is left nested deeper
abbrev pub KeepsLevel : Type 0
KeepsLevel = (by : By) (p : Place) (nesting : ℕ) (c : Chain) → Level nesting c → Level nesting (treat by p c).chain

-- a record left is a record found
abbrev pub KeepsNumbers : Type 0
KeepsNumbers = (by : By) (p : Place) (c : Chain) (x : ℕ) → Numbers x (treat by p c).chain → Numbers x c

-- both trees are one record, the same but for its children
pub record RootKept (found left : Chain) : Type 0 where
  pub head : Head
  pub children : Chain
  pub remaining : Chain
  pub found_is : found ≡ link head children end
  pub left_is : left ≡ link head remaining end

-- the root stays: its number, its words, and that nothing follows it
abbrev pub KeepsRoot : Type 0
KeepsRoot = (by : By) (c : Chain) → Formed root c → RootKept c (treat by at_root c).chain

-- as many words that hold what is left of a checked tree are checked, and the check gives just that
abbrev pub CheckedAgain : Type 0
CheckedAgain =
    (by : By) (words after : List ℕ) (c : Chain) → check words ≡ fine c
    → length after ≡ length words → Holds after 1 (treat by at_root c).chain
    → check after ≡ fine (treat by at_root c).chain

-- no more records are left than were found, in any chain
abbrev pub FewerReached : Type 0
FewerReached = (by : By) (p : Place) (c : Chain) → reached (treat by p c).chain ≤ reached c

-- where something was removed, fewer are left, in every chain formed by the table of kinds: there each Fn, Class and Var has a child
abbrev pub LostReached : Type 0
LostReached =
    (by : By) (p : Place) (ways : List Way) (c : Chain) → Formed ways c
    → (treat by p c).changed ≡ true → reached (treat by p c).chain < reached c
