-- The check: from the tree's words to its chain, or the first refusal of the walk.
--
--   tree_fits        how many words a tree may have
--   take             one record: is the link good, is it not too deep, does it fit its place
--   walk, stop       a chain from a link on: a record, its children, the rest; where it ends
--   check            the whole tree
use Rattle.std.specs.Prelude.{ℕ, zero, suc, ◌%◌, Bool, true, false, not, ◌&&◌, ◌||◌, List, [], ◌∷◌, length, ◌==◌, nat_lt, if◌then◌else◌}
use Rattle.rules.specs.Tree.{Chain}
use Rattle.rules.specs.Tree.Chain.{end, link}
use Rattle.rules.specs.Kinds.{member, within}
use Rattle.rules.specs.Grammar.{Way, words_fit, children_of, step, misplaced, may_end, root}
use Rattle.rules.specs.Refusals.{Outcome, and_then, bad_lengths, bad_link, too_deep, bad_record}
use Rattle.rules.specs.Refusals.Outcome.{fine, refused}
use Rattle.rules.specs.Words.{first_child, next, head_at, records}

-- the most words of a tree: 16,384 records
abbrev pub most_tree_words : ℕ
most_tree_words = 98304

-- the most records on a way down, the root's included
abbrev pub most_nesting : ℕ
most_nesting = 128

-- a tree may have so many words
abbrev pub tree_fits : ℕ → Bool
tree_fits n = within 1 most_tree_words n && n % 6 == 0

-- record n is taken: the ways in which its chain goes on, or a refusal, links before nesting before kinds
abbrev pub take : List ℕ → (n nesting : ℕ) → List Way → (reached : List ℕ) → Outcome (List Way)
take words n nesting ways reached =
    let h = head_at words n in
    let onward = step h.kind ways in
    if nat_lt (records words) n || member n reached then refused bad_link n
    else if nat_lt most_nesting nesting then refused too_deep n
    else if misplaced onward || not (words_fit h) then refused bad_record n
    else fine onward

-- a chain that was read, and the records reached so far
pub record Read : Type 0 where
  pub chain : Chain
  pub reached : List ℕ

-- the chain of children ends: too early, which names their parent, or not
abbrev pub stop : List Way → (parent : ℕ) → (reached : List ℕ) → Outcome Read
stop ways parent reached =
    if may_end ways then fine (record { chain = end; reached = reached }) else refused bad_record parent

-- the walk from the link n: a record, its children, the rest of its chain
-- `left` is never less than the records not yet reached: where it is 0, a link leads past the tree or to a record reached before
abbrev pub walk : List ℕ → (left n nesting : ℕ) → List Way → (parent : ℕ) → (reached : List ℕ) → Outcome Read
walk words zero n nesting ways parent reached =
    if n == 0 then stop ways parent reached else refused bad_link n
walk words (suc left) n nesting ways parent reached = elim (n == 0) [
  | true ↦ stop ways parent reached
  | false ↦
      and_then (take words n nesting ways reached) (λ onward.
      and_then (walk words left (first_child words n) (suc nesting) (children_of (head_at words n)) n (n ∷ reached)) (λ below.
      and_then (walk words left (next words n) nesting onward parent below.reached) (λ rest.
      fine (record { chain = link (head_at words n) below.chain rest.chain; reached = rest.reached }))))
]

-- the walk from the root: record 1, which has no next, at nesting 1
abbrev pub check_root : List ℕ → Outcome Chain
check_root words =
    if next words 1 == 0
    then and_then (walk words (records words) 1 1 root 0 []) (λ tree. fine tree.chain)
    else refused bad_record 1

-- the check of a tree's words
abbrev pub check : List ℕ → Outcome Chain
check words = if tree_fits (length words) then check_root words else refused bad_lengths 0
