-- A chain of the code as the book has it, and what a step of a walk through it gives.
--
--   as_chain        the chain that children are
--   head_of_node    a node without its links
--   Steps           a node is the first of a chain, and what is left behind it
use Rattle.std.specs.Prelude.{◌≡◌, ◌+◌, ◌<◌, ◌≤◌, Option, MatchOption}
use Rattle.rules.specs.Tree.{Head, Chain}
use Rattle.rules.specs.Tree.Chain.{end, link}
use Rattle.rules.specs.Words.{tree_of}
use Rattle.rules.specs.Opening.{siblings}
use Rattle.records.specs.Reads.{head_of, Reads}
use Rattle.records.specs.declared.children.Children.{Children}
use Rattle.records.specs.declared.children.Node.{Node}

-- the chain that the children are
abbrev pub as_chain : Children → Chain
as_chain s = tree_of s.words.now s.at

-- a node without its links, as the book has it
abbrev pub head_of_node : Node → Head
head_of_node n = head_of n.number n.record

-- the node is the first of the chain s, and t is what follows it; its children nest less
pub record Steps (s : Children) (n : Node) (t : Children) : Type 0 where
  pub is : as_chain s ≡ link (head_of_node n) (as_chain n.below) (as_chain t)
  pub reads : Reads s.words.now n.number n.record
  pub here : n.chain ≡ s
  pub number : (n.number ≡ s.at) × (1 ≤ n.number)
  pub words : (t.words.now ≡ s.words.now) × (n.below.words.now ≡ s.words.now)
  pub links : (n.below.at ≡ n.record.first) × (t.at ≡ n.record.next)
  pub deeper : n.below.left + 1 ≡ s.left
  pub level : t.left ≡ s.left
  pub shorter : siblings (as_chain t) < siblings (as_chain s)

-- the next node of s, if it has one, and what is left
abbrev pub GivesNode : Children → Option Node → Children → Type 0
GivesNode s r t = MatchOption r ((as_chain s ≡ end) × (t ≡ s)) (λ n. Steps s n t)
