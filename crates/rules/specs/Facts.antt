-- What the check's definition comes to: the check takes exactly what the words hold, and `tree_of` reads it.
--
--   CheckSound, CheckComplete      the check gives a chain exactly where that is the tree of the words
--   CheckMost                      no more records are reached than there are
--   ReadBack, TreeIsRead           the chain that the words hold is the one that `tree_of` reads
use Rattle.std.specs.Prelude.{◌≡◌, ℕ, ◌≤◌, List}
use Rattle.rules.specs.Tree.{Chain, reached}
use Rattle.rules.specs.Refusals.Outcome.{fine}
use Rattle.rules.specs.Words.{records, Holds, tree_of, Whole}
use Rattle.rules.specs.Check.{check}
use Rattle.rules.specs.Held.{Apart, Tree}

-- what the check gives is the tree of the words
abbrev pub CheckSound : Type 0
CheckSound = (words : List ℕ) (c : Chain) → check words ≡ fine c → Tree words c

-- the check gives the tree of the words
abbrev pub CheckComplete : Type 0
CheckComplete = (words : List ℕ) (c : Chain) → Tree words c → check words ≡ fine c

-- a checked tree has no more records than the words have room for
abbrev pub CheckMost : Type 0
CheckMost = (words : List ℕ) (c : Chain) → check words ≡ fine c → reached c ≤ records words

-- a chain that the words hold, each record once, is read back
abbrev pub ReadBack : Type 0
ReadBack = (words : List ℕ) (n : ℕ) (c : Chain) → Holds words n c → Apart c → (tree_of words n ≡ c) × Whole words n

-- a checked tree is read from its root
abbrev pub TreeIsRead : Type 0
TreeIsRead = (words : List ℕ) (c : Chain) → check words ≡ fine c → (tree_of words 1 ≡ c) × Whole words 1
