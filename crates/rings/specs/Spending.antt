-- What the edges within closed rings take from the words of names. The contract of the subtraction cites it.
--
--   in_one_ring        two nodes stand in one closed ring
--   less_edge, spent   the words of names after an edge, and after some
--   Discounted         words of names that held rows hold the book's discounted rows, where labels tell the components
--   Subtracted         the same whatever the labels are
--   Unfit              each fault, and what it says of the words
--   NotEnough          no count that fits the work memory is held
--   PassedOver         the names that keep their counts
use Rattle.std.specs.Prelude.{◌≡◌, ℕ, ◌+◌, ◌*◌, ◌^◌, ◌<◌, ◌≤◌, ◌⊎◌, Bool, true, false, not, ◌&&◌, List, [], ◌∷◌, length, ◌==◌, slice_index, if◌then◌else◌}
use Rattle.rules.specs.Tables.{NameRow, Counts, names_width, names_in_words, table}
use Rattle.rules.specs.Rings.{component, has_other, has_entry, led_into, discount_row, discount}
use Rattle.tables.specs.Held.{changed}
use Rattle.tables.specs.Counts.{less_counts}
use Rattle.tables.specs.Living.{used}
use Rattle.graph.specs.Graphs.{Components}
use Rattle.graph.specs.Refusals.{Stray}
use Rattle.graph.specs.declared.fault.GraphFault.{GraphFault}
use Rattle.graph.specs.declared.fault.GraphFault.TheVariants.{TooLarge, NoRoom, NoSuchNode}
use Rattle.rings.specs.Ringed.{Ready}
use Rattle.rings.specs.Joining.{joins}
use Rattle.rings.specs.declared.edge_rows.NodeEdge.{NodeEdge}

-- two nodes are not one, have one label, and its mark is 1
abbrev pub in_one_ring : (labels closed : List ℕ) → (from to : ℕ) → Bool
in_one_ring labels closed from to = not (from == to) && (slice_index labels from == slice_index labels to && slice_index closed (slice_index labels to) == 1)

-- the words of names less the weights of an edge, if it joins such nodes
abbrev pub less_edge : (labels closed : List ℕ) → NodeEdge → (names : List ℕ) → List ℕ
less_edge labels closed e names =
    if in_one_ring labels closed e.source e.target then changed names_width (e.target + 1) (less_counts e.weight.usage e.weight.assign) names else names

-- less the weights of those among some edges that do
abbrev pub spent : (labels closed : List ℕ) → List NodeEdge → (names : List ℕ) → List ℕ
spent labels closed [] names = names
spent labels closed (e ∷ es) names = spent labels closed es (less_edge labels closed e names)

-- words of names that held the rows of a count hold the discounted rows, where the labels of the nodes tell the components
abbrev pub Discounted : (names edges labels : List ℕ) → (count : ℕ) → (after : List ℕ) → Type 0
Discounted names edges labels count after = (c : Counts) (found found' : List ℕ) → Ready c found found' names edges
    → length labels ≡ length c.names → Components (joins edges) labels count → after ≡ table names_width (names_in_words (discount c)) found

-- the same whatever the labels are
abbrev pub Subtracted : (names edges after : List ℕ) → Type 0
Subtracted names edges after = (c : Counts) (found found' : List ℕ) → Ready c found found' names edges → after ≡ table names_width (names_in_words (discount c)) found

-- what each fault says of the words of names and edges, and of the words of work memory
abbrev pub Unfit : (names edges : List ℕ) → (room : ℕ) → GraphFault → Type 0
Unfit names edges room TooLarge = (2 ^ 31 ≤ used names_width names) ⊎ (2 ^ 32 ≤ length (joins edges))
Unfit names edges room NoRoom = room < 5 * used names_width names + length (joins edges)
Unfit names edges room (NoSuchNode k) = Stray (joins edges) (used names_width names) k

-- words that hold the rows of no count that is small enough for the work memory
abbrev pub NotEnough : (names edges : List ℕ) → (room : ℕ) → Type 0
NotEnough names edges room = (c : Counts) (found found' : List ℕ) → Ready c found found' names edges
    → length c.names < 2 ^ 31 → length c.edges < 2 ^ 32 → 5 * length c.names + length c.edges ≤ room → ⊥

-- a name alone in its component keeps its counts, also with an edge to itself; so does each name of a ring that an entry or an edge from
-- outside passes over
abbrev pub PassedOver : Type 0
PassedOver = (c : Counts) (r : NameRow) →
    let ring = component c.edges r.name in
    (has_other r.name ring ≡ false → discount_row c r ≡ r) × (has_entry c ring ≡ true → discount_row c r ≡ r) × (led_into c ring ≡ true → discount_row c r ≡ r)
