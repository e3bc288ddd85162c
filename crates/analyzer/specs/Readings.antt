-- A walk that reads names as they are handed to it. The contracts of what reads them cite it.
--
--   Place, place_of      what surrounds the readings, and what they have come to
--   read_next            one more reading
--   Fixed, fixed_of      what no reading changes
use Rattle.std.specs.Prelude.{ℕ, false, List}
use Rattle.rules.specs.Calls.{zeroed}
use Rattle.rules.specs.Refusals.{Outcome, and_then}
use Rattle.rules.specs.Refusals.Outcome.{fine}
use Rattle.rules.specs.Tables.{names_width, edges_width}
use Rattle.rules.specs.Tree.{Head}
use Rattle.records.specs.declared.id.Id.{Id}
use Rattle.analyzer.specs.declared.analyzer.Analyzer.{Analyzer}
use Rattle.analyzer.specs.declared.scope.Scope.{Scope}
use Rattle.analyzer.specs.Scopes.{Here}
use Rattle.analyzer.specs.Visits.{here_of, state_of}
use Rattle.analyzer.specs.Walk.{State, referred}

-- what surrounds the readings, and what they have come to
pub record Place : Type 0 where
  pub here : Here
  pub state : State

abbrev pub place_at : Here → State → Place
place_at a s = record { here = a; state = s }

abbrev pub place_of : Analyzer → Place
place_of s = place_at (here_of s) (state_of s)

-- one more reading
abbrev pub read_next : Head → Place → Outcome Place
read_next h p = and_then (referred p.here false h p.state) (λ s. fine (place_at p.here s))

-- what no reading changes: the path and what surrounds the place, the memory, and what is behind the rows
pub record Fixed : Type 0 where
  pub scope : Scope
  pub path : List Id
  pub names : ℕ
  pub edges : ℕ
  pub names_behind : List ℕ
  pub edges_behind : List ℕ
  pub seen : ℕ
  pub seen_words : List ℕ

abbrev pub fixed_of : Analyzer → Fixed
fixed_of s = record {
  scope = s.scope;
  path = s.path;
  names = s.names.ghost_name;
  edges = s.edges.ghost_name;
  names_behind = zeroed names_width s.names.now;
  edges_behind = zeroed edges_width s.edges.now;
  seen = s.seen.ghost_name;
  seen_words = s.seen.now;
}
