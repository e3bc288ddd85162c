-- How a chain opens at a record that was read. The contract of reading a record cites it.
--
--   Opened      the chain at a record, by the record that was read there
use Rattle.std.specs.Prelude.{◌≡◌, ℕ, ◌<◌, ◌≤◌, List}
use Rattle.rules.specs.Tree.Chain.{link}
use Rattle.rules.specs.Words.{tree_of, Whole}
use Rattle.rules.specs.Opening.{depth, siblings}
use Rattle.records.specs.Reads.{head_of, Reads}
use Rattle.records.specs.declared.record.Record.{Record}

-- the link n leads to this record, whose own links lead to chains that end: to its children, nested less, and to what follows
pub record Opened (words : List ℕ) (n : ℕ) (r : Record) : Type 0 where
  pub positive : 1 ≤ n
  pub reads : Reads words n r
  pub is : tree_of words n ≡ link (head_of n r) (tree_of words r.first) (tree_of words r.next)
  pub children : Whole words r.first
  pub rest : Whole words r.next
  pub deeper : depth (tree_of words r.first) < depth (tree_of words n)
  pub level : depth (tree_of words r.next) ≤ depth (tree_of words n)
  pub shorter : siblings (tree_of words r.next) < siblings (tree_of words n)
