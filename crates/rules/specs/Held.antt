-- What a checked tree is: the words hold it, each record once, not too deep, formed by the table of kinds.
--
--   Numbers, Apart      the record numbers of a chain; no record stands in it twice
--   Level, Formed       nesting; the table of kinds
--   Tree                all of these
use Rattle.std.specs.Prelude.{◌≡◌, ℕ, suc, ◌≤◌, true, false, ◌⊎◌, List, length}
use Rattle.rules.specs.Tree.{Chain}
use Rattle.rules.specs.Tree.Chain.{end, link}
use Rattle.rules.specs.Grammar.{Way, words_fit, children_of, step, misplaced, may_end, root}
use Rattle.rules.specs.Words.{next, Holds}
use Rattle.rules.specs.Check.{most_nesting, tree_fits}

-- x is the number of a record of the chain
abbrev pub Numbers : ℕ → Chain → Type 0
Numbers x end = ⊥
Numbers x (link h children rest) = (x ≡ h.number) ⊎ (Numbers x children ⊎ Numbers x rest)

-- each record once
abbrev pub Apart : Chain → Type 0
Apart end = Unit {0}
Apart (link h children rest) =
    (Numbers h.number children → ⊥) × (Numbers h.number rest → ⊥)
    × ((x : ℕ) → Numbers x children → Numbers x rest → ⊥) × Apart children × Apart rest

-- nested no deeper than is allowed, the chain itself at `nesting`
abbrev pub Level : ℕ → Chain → Type 0
Level nesting end = Unit {0}
Level nesting (link h children rest) = (nesting ≤ most_nesting) × Level (suc nesting) children × Level nesting rest

-- each record has its kind's words and stands where its kind may, and each chain of children is long enough
abbrev pub Formed : List Way → Chain → Type 0
Formed ways end = may_end ways ≡ true
Formed ways (link h children rest) =
    (words_fit h ≡ true) × (misplaced (step h.kind ways) ≡ false)
    × Formed (children_of h) children × Formed (step h.kind ways) rest

-- the words hold this tree
pub record Tree (words : List ℕ) (c : Chain) : Type 0 where
  pub fits : tree_fits (length words) ≡ true
  pub holds : Holds words 1 c
  pub alone : next words 1 ≡ 0
  pub apart : Apart c
  pub level : Level 1 c
  pub formed : Formed root c
