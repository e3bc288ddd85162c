-- What a visit of the counting walk starts from and leaves as it was. The contracts of the walk cite it.
--
--   here_of, state_of      what surrounds the place that the walk has come to; the tables' words and the notes
--   Ready                  there is room for what is left of the walk: on the path, and in the work memory
--   Kept                   what a visit leaves as it was
--   Restores               what surrounded a record, in the place of what surrounds its children
--   Enters                 what surrounds the children of a record, in the place of what surrounds the record
use Rattle.std.specs.Prelude.{◌≡◌, ℕ, ◌+◌, ◌*◌, ◌≤◌, List, length, take}
use Rattle.rules.specs.Calls.{zeroed}
use Rattle.rules.specs.Tables.{names_width, edges_width}
use Rattle.rules.specs.Tree.{Chain, reached}
use Rattle.analyzer.specs.declared.analyzer.Analyzer.{Analyzer}
use Rattle.records.specs.declared.id.Id.{Id}
use Rattle.records.specs.declared.record.Record.{Record}
use Rattle.records.specs.Reads.{head_of}
use Rattle.analyzer.specs.declared.scope.Scope.{Scope}
use Rattle.analyzer.specs.Scopes.{Here, here, here_inside}
use Rattle.analyzer.specs.Walk.{State, state}

-- what surrounds the place that the walk has come to
abbrev pub here_of : Analyzer → Here
here_of s = here s.scope s.path

-- the words of the tables, and what the innermost scope has noted
abbrev pub state_of : Analyzer → State
state_of s = state s.names.now s.edges.now s.notes

-- the path has room for the nesting that is left, and the work memory for the names of the chain
pub record Ready (s : Analyzer) (c : Chain) (left : ℕ) : Type 0 where
  pub room : s.scope.len + left ≤ length s.path
  pub seen : 2 * reached c ≤ length s.seen.now

-- what surrounds the place, the path as far as it goes, the work memory, and of the tables what counting leaves
pub record Kept (before after : Analyzer) : Type 0 where
  pub scope : after.scope ≡ before.scope
  pub path : take before.scope.len after.path ≡ take before.scope.len before.path
  pub long : length after.path ≡ length before.path
  pub names : (after.names.ghost_name ≡ before.names.ghost_name) × (zeroed names_width after.names.now ≡ zeroed names_width before.names.now)
  pub edges : (after.edges.ghost_name ≡ before.edges.ghost_name) × (zeroed edges_width after.edges.now ≡ zeroed edges_width before.edges.now)
  pub seen : (after.seen.ghost_name ≡ before.seen.ghost_name) × (length after.seen.now ≡ length before.seen.now)

-- what surrounds the children of the record, with at most one name more on the path; the rest is as it was
pub record Enters (before : Analyzer) (r : Record) (after : Analyzer) : Type 0 where
  pub here : here_of after ≡ here_inside (here_of before) (head_of 0 r)
  pub len : after.scope.len ≤ before.scope.len + 1
  pub kept : (q : List Id) → take after.scope.len q ≡ take after.scope.len after.path → take before.scope.len q ≡ take before.scope.len before.path
  pub long : length after.path ≡ length before.path
  pub names : after.names ≡ before.names
  pub edges : after.edges ≡ before.edges
  pub seen : after.seen ≡ before.seen
  pub notes : after.notes ≡ before.notes

-- what surrounded a record comes back, and the rest stays
pub record Restores (before : Analyzer) (saved : Scope) (after : Analyzer) : Type 0 where
  pub scope : after.scope ≡ saved
  pub path : after.path ≡ before.path
  pub names : after.names ≡ before.names
  pub edges : after.edges ≡ before.edges
  pub seen : after.seen ≡ before.seen
  pub notes : after.notes ≡ before.notes
