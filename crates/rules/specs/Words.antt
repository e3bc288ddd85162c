-- The caller's words as records: six words a record, records counted from 1.
--
--   word, first_child, next, head_at, records      reading a record
--   stands                                         a record is there, and of some kind
--   Holds, tree_of, Whole                          the chain that a link leads to
use Rattle.std.specs.Prelude.{◌≡◌, ℕ, zero, suc, ◌+◌, ◌-◌, ◌*◌, ◌/◌, Bool, true, ◌&&◌, List, length, ◌==◌, slice_index, if◌then◌else◌}
use Rattle.rules.specs.Tree.{Head, Chain}
use Rattle.rules.specs.Tree.Chain.{end, link}
use Rattle.rules.specs.Kinds.{within, known}

-- word i of record n
abbrev pub word : List ℕ → ℕ → ℕ → ℕ
word words n i = slice_index words (6 * (n - 1) + i)

-- the link to its first child
abbrev pub first_child : List ℕ → ℕ → ℕ
first_child words n = word words n 4

-- the link to the next record of its chain
abbrev pub next : List ℕ → ℕ → ℕ
next words n = word words n 5

-- record n without its links
abbrev pub head_at : List ℕ → ℕ → Head
head_at words n = record {
  number = n;
  kind = word words n 0;
  flags = word words n 1;
  symbol = word words n 2;
  mark = word words n 3;
}

-- how many records the words have room for
abbrev pub records : List ℕ → ℕ
records words = length words / 6

-- record n is there, and of some kind
abbrev pub stands : List ℕ → ℕ → Bool
stands words n = within 1 (records words) n && known (word words n 0)

-- the link n leads to the chain; the link 0 to none
abbrev pub Holds : List ℕ → ℕ → Chain → Type 0
Holds words n end = n ≡ 0
Holds words n (link h children rest) =
    (stands words n ≡ true) × (h ≡ head_at words n)
    × Holds words (first_child words n) children × Holds words (next words n) rest

-- the chain that the link n leads to, as far as `left` links one after another
unfoldable pub chain_of : List ℕ → (left n : ℕ) → Chain
chain_of words zero n = end
chain_of words (suc left) n =
    if n == 0 then end
    else link (head_at words n) (chain_of words left (first_child words n)) (chain_of words left (next words n))

-- the chain that the link n leads to: no way through different records is longer than their number
unfoldable pub tree_of : List ℕ → ℕ → Chain
tree_of words n = chain_of words (records words) n

-- the link n leads to a chain that ends
unfoldable pub Whole : List ℕ → ℕ → Type 0
Whole words n = Holds words n (tree_of words n)
