-- What the check promises of words that it takes. Its contract cites it.
--
--   Accepted      the words are a tree, which `tree_of` reads
use Rattle.std.specs.Prelude.{◌≡◌, ℕ, ◌≤◌, List}
use Rattle.rules.specs.Tree.{reached}
use Rattle.rules.specs.Refusals.Outcome.{fine}
use Rattle.rules.specs.Words.{tree_of, Whole}
use Rattle.rules.specs.Check.{check, most_nesting}
use Rattle.rules.specs.Held.{Tree}
use Rattle.rules.specs.Opening.{depth}

-- the words are a tree, whose root reaches so many records
pub record Accepted (words : List ℕ) (count : ℕ) : Type 0 where
  pub is : check words ≡ fine (tree_of words 1)
  pub tree : Tree words (tree_of words 1)
  pub whole : Whole words 1
  pub counts : count ≡ reached (tree_of words 1)
  pub deep : depth (tree_of words 1) ≤ most_nesting
