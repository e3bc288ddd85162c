-- The tree: records in chains. Every other page cites it; it assumes nothing.
--
--   Head, Chain, Name          a record without its links; records in their chains; what a record is called by
--   ◌is◌, flagged, name_of     a record's kind, flag and name
--   is_end, below, after       a chain that has ended; the first record's children; what follows the first record
--   first_is, first_flagged, first_symbol, first_name      the first record of a chain, where there is one
--   alone, append              the first record without what follows; one chain after another
--   reached, unnumbered        how many records; the same with record numbers apart
use Rattle.std.specs.Prelude.{ℕ, ◌+◌, Bool, true, false, ◌==◌}

infix 40 ◌is◌
-- a record without its links: its number and its first four words
pub record Head : Type 0 where
  pub number : ℕ
  pub kind : ℕ
  pub flags : ℕ
  pub symbol : ℕ
  pub mark : ℕ

-- `link h children rest`: the record h, the chain of its children, and what follows h in its own chain
pub data Chain : Type 0 where
  end : Chain
  link : Head → Chain → Chain → Chain

-- a name is a symbol and a mark
pub record Name : Type 0 where
  pub symbol : ℕ
  pub mark : ℕ

-- a record is of a kind
abbrev pub ◌is◌ : Head → ℕ → Bool
h is k = h.kind == k

-- a record has flag 1
abbrev pub flagged : Head → Bool
flagged h = h.flags == 1

-- the name that a record bears
abbrev pub name_of : Head → Name
name_of h = record { symbol = h.symbol; mark = h.mark }

-- a chain has no record
abbrev pub is_end : Chain → Bool
is_end end = true
is_end (link h children rest) = false

-- the first record's children
abbrev pub below : Chain → Chain
below end = end
below (link h children rest) = children

-- what follows the first record
abbrev pub after : Chain → Chain
after end = end
after (link h children rest) = rest

-- a record of this kind stands first
abbrev pub first_is : ℕ → Chain → Bool
first_is k end = false
first_is k (link h children rest) = h is k

-- the first record has flag 1
abbrev pub first_flagged : Chain → Bool
first_flagged end = false
first_flagged (link h children rest) = flagged h

-- the first record's symbol
abbrev pub first_symbol : Chain → ℕ
first_symbol end = 0
first_symbol (link h children rest) = h.symbol

-- the first record's name
abbrev pub first_name : Chain → Name
first_name end = record { symbol = 0; mark = 0 }
first_name (link h children rest) = name_of h

-- the first record with what is under it, and without what follows
abbrev pub alone : Chain → Chain
alone end = end
alone (link h children rest) = link h children end

-- one chain after another
abbrev pub append : Chain → Chain → Chain
append end d = d
append (link h children rest) d = link h children (append rest d)

-- how many records a chain reaches
abbrev pub reached : Chain → ℕ
reached end = 0
reached (link h children rest) = 1 + reached children + reached rest

-- a record, its number apart
abbrev pub unnumbered_head : Head → Head
unnumbered_head h = record { number = 0; kind = h.kind; flags = h.flags; symbol = h.symbol; mark = h.mark }

-- a chain, record numbers apart
abbrev pub unnumbered : Chain → Chain
unnumbered end = end
unnumbered (link h children rest) = link (unnumbered_head h) (unnumbered children) (unnumbered rest)
