-- Nothing is nested deeper: what is moved goes up, a value out of its Assignment, an Object out of its Call, and values out of their
-- Declarators, to where these stood. That no record is nested too deep is so a fact on every record that removal keeps.
--
--   level_up           a chain may stand higher
--   keeps_level        the theorem
use Rattle.std.proofs.Common.{ℕ, suc, ◌≤◌, arith}
use Rattle.rules.specs.Tree.{Head, Chain}
use Rattle.rules.specs.Tree.Chain.{end, link}
use Rattle.rules.specs.Check.{most_nesting}
use Rattle.rules.specs.Held.{Level}
use Rattle.laws.specs.KeepsTree.{KeepsLevel}
use Rattle.laws.proofs.KeepsEverywhere.{Everywhere, treat_all}

level_up : (n : ℕ) (c : Chain) → Level (suc n) c → Level n c
level_up n end l = tt
level_up n (link h children rest) l = (omega (arith, l.0), level_up (suc n) children l.1, level_up n rest l.2)

-- a record at this depth is not too deep
abbrev shallow : ℕ → Head → Type 0
shallow n h = n ≤ most_nesting

level_everywhere : Everywhere shallow Level
level_everywhere = record {
  none = λ n. tt;
  more = λ n h children rest a b c. (a, b, c);
  first = λ n h children rest l. l.0;
  inner = λ n h children rest l. l.1;
  others = λ n h children rest l. l.2;
  up = level_up;
  empty = λ n h a. a;
  statement = λ n h a. a;
  plain = λ n h a. a;
}

pub keeps_level : KeepsLevel
keeps_level by p n c l = treat_all shallow Level level_everywhere by p n c l
