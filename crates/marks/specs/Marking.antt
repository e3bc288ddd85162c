-- Names marked one after another in the words of names, as they come. The contracts of what marks cite it.
--
--   Marking, marking, mark_each     the words of names and the scope that marks; each name as it comes
--   Once, once, mark_once           the same beside the names noted so far; each name that is not among them
use Rattle.std.specs.Prelude.{ℕ, false, List, if◌then◌else◌}
use Rattle.rules.specs.Tree.{Head, Name, name_of}
use Rattle.rules.specs.Refusals.{Outcome, and_then}
use Rattle.rules.specs.Refusals.Outcome.{fine}
use Rattle.data.specs.Events.{counted}
use Rattle.data.specs.Filling.{id_of}
use Rattle.marks.specs.Noting.{Noting, is_new, note}

-- one name, marked by the scope `at`: one usage, without holder or entry
abbrev pub mark_name : Name → (at : ℕ) → List ℕ → Outcome (List ℕ)
mark_name n at names = counted (id_of n) 1 0 false at names

-- the words of names, and the scope that marks
pub record Marking : Type 0 where
  pub names : List ℕ
  pub at : ℕ

abbrev pub marking : (names : List ℕ) → (at : ℕ) → Marking
marking names at = record { names = names; at = at }

-- each name as it comes
abbrev pub mark_each : Head → Marking → Outcome Marking
mark_each h s = and_then (mark_name (name_of h) s.at s.names) (λ names. fine (marking names s.at))

-- the same beside the names noted so far
pub record Once : Type 0 where
  pub names : List ℕ
  pub seen : Noting
  pub at : ℕ

abbrev pub once : (names : List ℕ) → Noting → (at : ℕ) → Once
once names seen at = record { names = names; seen = seen; at = at }

-- each name that was not noted
abbrev pub mark_once : Head → Once → Outcome Once
mark_once h s =
    if is_new (name_of h) s.seen
    then and_then (mark_name (name_of h) s.at s.names) (λ names. fine (once names (note (name_of h) s.seen) s.at))
    else fine s
