-- Tables of names and edges, and what is taken from their rows. The contract of `subtract_cycles` cites it.
--
--   Distinct, Small, Ready      words that hold the rows of a count
--   passes                 an edge between two names of one closed ring
--   taken, lessened        a row, and all rows, less the weights of some edges that pass
--   DiscountedByEdges      one pass over the edges comes to the book's `discount`
use Rattle.std.specs.Prelude.{◌≡◌, Bool, not, ◌&&◌, List, [], ◌∷◌, ◌++◌, map, if◌then◌else◌}
use Rattle.rules.specs.Names.{same, among}
use Rattle.rules.specs.Tables.{NameRow, EdgeRow, Counts, change, row_of}
use Rattle.rules.specs.Rings.{component, closed, minus, total, discount}
use Rattle.tables.specs.Matching.{shrunk}
-- they stand with the tables, since what counts cites them too
pub use Rattle.tables.specs.Ready.{Distinct, Small, Ready}

-- an edge from one name of a closed ring to another
abbrev pub passes : Counts → EdgeRow → Bool
passes c e = not (same e.from e.to) && (among e.from (component c.edges e.to) && closed c e.to)

-- a row less the weights of those edges to it that pass
abbrev pub taken : (EdgeRow → Bool) → List EdgeRow → NameRow → NameRow
taken passing edges r = record {
  name = r.name;
  usage = minus r.usage (total (λ e. passing e && same e.to r.name) (λ e. e.usage) edges);
  assign = minus r.assign (total (λ e. passing e && same e.to r.name) (λ e. e.assign) edges);
  entry = r.entry;
  counted = r.counted;
}

-- each row
abbrev pub lessened : (EdgeRow → Bool) → List EdgeRow → List NameRow → List NameRow
lessened passing edges rows = map (taken passing edges) rows

-- the rows less the weights of no edge are the rows, one more edge that passes takes its weights from the row of the name that it leads to,
-- and less the weights of all edges that pass they are the book's
abbrev pub DiscountedByEdges : Type 0
DiscountedByEdges = (c : Counts) → Distinct c.names → Small c.names →
    (lessened (passes c) [] c.names ≡ c.names)
    × ((es : List EdgeRow) (e : EdgeRow) → lessened (passes c) (es ++ (e ∷ [])) c.names
    ≡ (if passes c e then change (row_of e.to) (shrunk e.usage e.assign) (lessened (passes c) es c.names) else lessened (passes c) es c.names))
    × (lessened (passes c) c.edges c.names ≡ discount c)
