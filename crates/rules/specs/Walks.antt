-- The walk of the check without its fuel: what code that walks is compared with.
--
--   full        the walk from a link, with fuel for every record
--   Turned      one turn of it: a record, its children, the rest of its chain
use Rattle.std.specs.Prelude.{ℕ, suc, List, ◌∷◌}
use Rattle.rules.specs.Tree.Chain.{link}
use Rattle.rules.specs.Grammar.{Way, children_of}
use Rattle.rules.specs.Refusals.{Outcome, and_then}
use Rattle.rules.specs.Refusals.Outcome.{fine}
use Rattle.rules.specs.Words.{first_child, next, head_at, records}
use Rattle.rules.specs.Check.{Read, take, walk}

-- the walk from the link n; its fuel suffices, since no record is reached twice
unfoldable pub full : List ℕ → (n nesting : ℕ) → List Way → (parent : ℕ) → (reached : List ℕ) → Outcome Read
full words n nesting ways parent reached = walk words (records words) n nesting ways parent reached

-- the walk at record n, by the walks from its two links
abbrev pub Turned : List ℕ → (n nesting : ℕ) → List Way → (parent : ℕ) → (reached : List ℕ) → Outcome Read
Turned words n nesting ways parent reached =
    and_then (take words n nesting ways reached) (λ onward.
    and_then (full words (first_child words n) (suc nesting) (children_of (head_at words n)) n (n ∷ reached)) (λ below.
    and_then (full words (next words n) nesting onward parent below.reached) (λ rest.
    fine (record { chain = link (head_at words n) below.chain rest.chain; reached = rest.reached }))))
