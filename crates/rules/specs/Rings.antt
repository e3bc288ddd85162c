-- Rings: names that only refer to each other are discounted.
--
--   Edge, Leads              edges lead from one name to another, one after another
--   reach, leads, component  the same, computed; the names that share a component (Tarjan 1972)
--   has_other, has_entry, led_into, closed      a closed ring
--   minus, less, discount    what a closed ring's names lose
use Rattle.std.specs.Prelude.{◌≡◌, ℕ, ◌+◌, ◌-◌, ◌%◌, ◌^◌, Bool, false, not, ◌&&◌, ◌||◌, ◌⊎◌, List, [], ◌∷◌, if◌then◌else◌}
use Rattle.rules.specs.Tree.{Name}
use Rattle.rules.specs.Names.{same, among}
use Rattle.rules.specs.Tables.{NameRow, EdgeRow, Counts, some_row}

-- one edge leads from a to b
abbrev pub Edge : List EdgeRow → (a b : Name) → Type 0
Edge [] a b = ⊥
Edge (e ∷ es) a b = ((a ≡ e.from) × (b ≡ e.to)) ⊎ Edge es a b

-- edges lead from a to b, one after another; no edge leads from each name to itself
pub data Leads (edges : List EdgeRow) (a : Name) : Name → Type 0 where
  here : Leads edges a a
  onward : {b c : Name} → Leads edges a b → Edge edges b c → Leads edges a c

-- some names, with those that one look along the edges adds
abbrev pub along : List EdgeRow → List Name → List Name
along [] names = names
along (e ∷ es) names =
    if among e.from names && not (among e.to names) then along es (e.to ∷ names) else along es names

-- as many looks as there are edges
abbrev pub looks : (times edges : List EdgeRow) → List Name → List Name
looks [] edges names = names
looks (t ∷ ts) edges names = looks ts edges (along edges names)

-- the names to which edges lead from a
abbrev pub reach : List EdgeRow → Name → List Name
reach edges a = looks edges edges (a ∷ [])

-- edges lead from a to b, computed
abbrev pub leads : List EdgeRow → (a b : Name) → Bool
leads edges a b = among b (reach edges a)

-- those of some names from which edges lead to n
abbrev pub leading_to : List EdgeRow → Name → List Name → List Name
leading_to edges n [] = []
leading_to edges n (m ∷ ms) = if leads edges m n then m ∷ leading_to edges n ms else leading_to edges n ms

-- the component of n: the names to which edges lead from n, and from which edges lead to n
abbrev pub component : List EdgeRow → Name → List Name
component edges n = leading_to edges n (reach edges n)

-- another name than n stands in a component
abbrev pub has_other : Name → (ring : List Name) → Bool
has_other n [] = false
has_other n (m ∷ ms) = not (same n m) || has_other n ms

-- one of its names is an entry
abbrev pub has_entry : Counts → (ring : List Name) → Bool
has_entry c ring = some_row (λ r. r.entry && among r.name ring) c.names

-- an edge leads into it from outside
abbrev pub led_into : Counts → (ring : List Name) → Bool
led_into c ring = some_row (λ e. among e.to ring && not (among e.from ring)) c.edges

-- n stands in a closed ring: a component of two names or more that neither an entry nor an edge from outside passes over
abbrev pub closed : Counts → Name → Bool
closed c n =
    let ring = component c.edges n in
    has_other n ring && (not (has_entry c ring) && not (led_into c ring))

-- subtraction that wraps at 2^32
abbrev pub minus : ℕ → ℕ → ℕ
minus a b = (a + (2 ^ 32 - b % 2 ^ 32)) % 2 ^ 32

-- an edge to n from another name of its ring
abbrev pub from_ring : (ring : List Name) → Name → EdgeRow → Bool
from_ring ring n e = same e.to n && (not (same e.from n) && among e.from ring)

-- the weights of the edges that pass, added up
abbrev pub total : (EdgeRow → Bool) → (EdgeRow → ℕ) → List EdgeRow → ℕ
total passes weight [] = 0
total passes weight (e ∷ es) = (if passes e then weight e else 0) + total passes weight es

-- a row less the weights of the edges from the other names of its ring
abbrev pub less : (ring : List Name) → List EdgeRow → NameRow → NameRow
less ring edges r = record {
  name = r.name;
  usage = minus r.usage (total (from_ring ring r.name) (λ e. e.usage) edges);
  assign = minus r.assign (total (from_ring ring r.name) (λ e. e.assign) edges);
  entry = r.entry;
  counted = r.counted;
}

-- a row, discounted if its name stands in a closed ring
abbrev pub discount_row : Counts → NameRow → NameRow
discount_row c r = if closed c r.name then less (component c.edges r.name) c.edges r else r

-- each row
abbrev pub discount_rows : Counts → List NameRow → List NameRow
discount_rows c [] = []
discount_rows c (r ∷ rs) = discount_row c r ∷ discount_rows c rs

-- the names, discounted
abbrev pub discount : Counts → List NameRow
discount c = discount_rows c c.names
