-- How the chain that a link leads to opens: into its first record and the chains of that record's two links.
--
--   depth, siblings      how deep a chain nests; how many records stand in the chain itself
--   Opens                the chain at a record, and what falls from it to its links
use Rattle.std.specs.Prelude.{◌≡◌, ℕ, ◌+◌, ◌<◌, ◌≤◌, max, true, List}
use Rattle.rules.specs.Tree.{Chain}
use Rattle.rules.specs.Tree.Chain.{end, link}
use Rattle.rules.specs.Words.{stands, head_at, first_child, next, tree_of, Whole}

-- the most records on a way down
abbrev pub depth : Chain → ℕ
depth end = 0
depth (link h children rest) = max (1 + depth children) (depth rest)

-- the records of the chain itself
abbrev pub siblings : Chain → ℕ
siblings end = 0
siblings (link h children rest) = 1 + siblings rest

-- record n stands and its two links lead to chains that end: a way down and along that ends too
pub record Opens (words : List ℕ) (n : ℕ) : Type 0 where
  pub standing : stands words n ≡ true
  pub is : tree_of words n ≡ link (head_at words n) (tree_of words (first_child words n)) (tree_of words (next words n))
  pub children : Whole words (first_child words n)
  pub rest : Whole words (next words n)
  pub deeper : depth (tree_of words (first_child words n)) < depth (tree_of words n)
  pub level : depth (tree_of words (next words n)) ≤ depth (tree_of words n)
  pub shorter : siblings (tree_of words (next words n)) < siblings (tree_of words n)
