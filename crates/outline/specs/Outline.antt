-- The outline of a tree and its declared names, as the code has them. The contracts of `lines` and `declared` cite it.
--
--   Outlined, outlined         a record with its nesting; the records of a chain and below in walk order
--   line_of, lines_of          what a line of the code says; the same of several
--   named_of, names_of         the name that a record bears, with the record; the same of several
--   Held, taken                names found so far; one more
--   Counting, counted          how many names came, and how many may; one more
use Rattle.std.specs.Prelude.{ℕ, ◌+◌, List, [], ◌∷◌, ◌++◌, length, map, nat_lt, if◌then◌else◌}
use Rattle.rules.specs.Refusals.{Outcome}
use Rattle.rules.specs.Refusals.Outcome.{fine, refused}
use Rattle.rules.specs.Tree.{Head, Chain}
use Rattle.rules.specs.Tree.Chain.{end, link}
use Rattle.records.specs.Reads.{head_of}
use Rattle.outline.specs.declared.lines.OutlineLine.{OutlineLine}
use Rattle.outline.specs.declared.declared.Named.{Named}

-- a record with its nesting
pub record Outlined : Type 0 where
  pub nesting : ℕ
  pub head : Head

-- the records of a chain and below in walk order: a record, then those under it, then those that follow it
abbrev pub outlined : (nesting : ℕ) → Chain → List Outlined
outlined nesting end = []
outlined nesting (link h children rest) =
    record { nesting = nesting; head = h } ∷ (outlined (nesting + 1) children ++ outlined nesting rest)

-- what a line of the code says
abbrev pub line_of : OutlineLine → Outlined
line_of l = record { nesting = l.nesting; head = head_of l.number l.«record» }

-- the same of several
abbrev pub lines_of : List OutlineLine → List Outlined
lines_of = map line_of

-- the name that a record bears, with the record
abbrev pub named_of : Head → Named
named_of h = record { id = record { symbol = h.symbol; mark = h.mark }; «record» = h.number }

-- the same of several
abbrev pub names_of : List Head → List Named
names_of = map named_of

-- the names found so far, and how many there is room for
pub record Held : Type 0 where
  pub room : ℕ
  pub names : List Named

abbrev pub holds : (room : ℕ) → List Named → Held
holds room names = record { room = room; names = names }

-- one more name, if there is room
abbrev pub taken : Head → Held → Outcome Held
taken h s =
    if nat_lt (length s.names) s.room then fine (holds s.room (s.names ++ named_of h ∷ [])) else refused 0 0

-- how many names came, and how many may come
pub record Counting : Type 0 where
  pub most : ℕ
  pub count : ℕ

abbrev pub counts : (most count : ℕ) → Counting
counts most count = record { most = most; count = count }

-- one more name, if one more may come
abbrev pub counted : Head → Counting → Outcome Counting
counted h s = if nat_lt s.count s.most then fine (counts s.most (s.count + 1)) else refused 0 0
