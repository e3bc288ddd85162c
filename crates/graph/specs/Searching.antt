-- What a walk for components keeps between its steps (path-based, after Purdom, Munro and Gabow). The contracts of the walk cite it.
-- Each node has a place: 0 while it is unseen, one more than its position while it stands on the stack, and above the number of
-- nodes once its component is known. Borders cut the stack into segments.
--
--   Latest, Star       the edges of each node in a chain of links, the last one first
--   Linked             the same, of the edges so far
--   unseen             how many places are 0
--   Sized              each list is long enough
--   Stacked            stack and places agree
--   Walked             above the node whose turn it is, all edges are followed
--   Chained            each node on the stack leads to those above it, and within a segment to those below it
--   Bordered           the borders rise from 0
--   Followed           no edge that was followed leads from a segment to one below it
--   Settled            the components known so far are right, and no edge leads out of them
--   Walking            what a contract sees of a walk
--   Search             all of these
--   with_node          a node is put on the stack
--   left               a number that falls at each step
--   Onward, Stepped    a walk goes on, and what is seen stays seen; by a step
--   Stamped            the nodes of the segments from a border on get a label
use Rattle.std.specs.Prelude.{◌≡◌, ℕ, ◌+◌, ◌-◌, ◌*◌, ◌^◌, ◌<◌, ◌≤◌, ◌⊎◌, List, length, sum, count_by, ◌≢◌, nat_eq, slice_index, slice_set}
use Rattle.graph.specs.Graphs as graph
use Rattle.graph.specs.Graphs.{source, target, Leads}
use Rattle.graph.specs.declared.walk.Walk.TheInside.{Inside}

-- `link` is one more than the last edge below `bound` that leaves the node, or 0 where there is none
pub record Latest (edges : List (ℕ × ℕ)) (node bound link : ℕ) : Type 0 where
  pub before : link ≤ bound
  pub leaves : (k : ℕ) → link ≡ k + 1 → source edges k ≡ node
  pub none : (k : ℕ) → link ≤ k → k < bound → source edges k ≢ node

-- the edges join nodes below n, and each has the link of the one before it that leaves the same node
pub record Star (edges : List (ℕ × ℕ)) (n : ℕ) (links : List ℕ) : Type 0 where
  pub inside : graph.Inside edges n
  pub linked : (k : ℕ) → k < length edges → Latest edges (source edges k) k (slice_index links k)

-- the first edges, below `bound`, have their links, and each node the link of its last one
pub record Linked (edges : List (ℕ × ℕ)) (n bound : ℕ) (turns links : List ℕ) : Type 0 where
  pub sources : (k : ℕ) → k < bound → source edges k < n
  pub targets : (k : ℕ) → k < bound → target edges k < n
  pub firsts : (v : ℕ) → v < n → Latest edges v bound (slice_index turns v)
  pub linked : (k : ℕ) → k < bound → Latest edges (source edges k) k (slice_index links k)

-- how many nodes are unseen
abbrev pub unseen : List ℕ → ℕ
unseen places = count_by (λ p. nat_eq p 0) places

-- each list is long enough, and the numbers fit 32 bits
pub record Sized (n : ℕ) (turns stack back borders places : List ℕ) : Type 0 where
  pub few : n < 2 ^ 31
  pub turns_long : length turns ≡ n
  pub stack_long : length stack ≡ n
  pub back_long : length back ≡ n
  pub borders_long : length borders ≡ n
  pub places_long : length places ≡ n

-- stack and places agree
pub record Stacked (n : ℕ) (stack places : List ℕ) (top count : ℕ) : Type 0 where
  pub node : (p : ℕ) → p < top → slice_index stack p < n
  pub place : (p : ℕ) → p < top → slice_index places (slice_index stack p) ≡ p + 1
  pub stands : (v : ℕ) → v < n → 0 < slice_index places v → slice_index places v ≤ n → (slice_index places v ≤ top) × (slice_index stack (slice_index places v - 1) ≡ v)
  pub highest : (v : ℕ) → v < n → slice_index places v ≤ n + count
  pub room : top + unseen places + count ≤ n

-- all edges of the nodes from position `at` on are followed, and of those between a position and the one that it goes back to
pub record Walked (turns stack back : List ℕ) (top at : ℕ) : Type 0 where
  pub within : at ≤ top
  pub above : (p : ℕ) → at ≤ p → p < top → slice_index turns (slice_index stack p) ≡ 0
  pub lower : (p : ℕ) → p < top → slice_index back p ≤ p
  pub between : (p i : ℕ) → p < top → slice_index back p ≤ i → i < p → slice_index turns (slice_index stack i) ≡ 0

-- each node on the stack leads to those above it, and to the one right below it unless a border stands between
pub record Chained (edges : List (ℕ × ℕ)) (stack borders : List ℕ) (top depth : ℕ) : Type 0 where
  pub rising : (i j : ℕ) → i ≤ j → j < top → Leads edges (slice_index stack i) (slice_index stack j)
  pub falling : (i : ℕ) → i + 1 < top → ((t : ℕ) → t < depth → slice_index borders t ≢ i + 1) → Leads edges (slice_index stack (i + 1)) (slice_index stack i)

-- the borders rise, from 0
pub record Bordered (borders : List ℕ) (top depth : ℕ) : Type 0 where
  pub ascending : (t u : ℕ) → t < u → u < depth → slice_index borders t < slice_index borders u
  pub deep : (t : ℕ) → t < depth → t ≤ slice_index borders t
  pub within : (t : ℕ) → t < depth → slice_index borders t < top
  pub empty : depth ≡ 0 → top ≡ 0
  pub bottom : 0 < depth → slice_index borders 0 ≡ 0

-- the turn of a node is one more than its next edge, or 0: those from there on are followed, and lead over no border downwards
pub record Followed (edges : List (ℕ × ℕ)) (n : ℕ) (turns borders places : List ℕ) (depth : ℕ) : Type 0 where
  pub within : (v : ℕ) → v < n → slice_index turns v ≤ length edges
  pub leaves : (v k : ℕ) → v < n → slice_index turns v ≡ k + 1 → source edges k ≡ v
  pub fresh : (k : ℕ) → k < length edges → slice_index places (source edges k) ≡ 0 → k < slice_index turns (source edges k)
  pub kept : (t k : ℕ) → t < depth → k < length edges → slice_index turns (source edges k) ≤ k → slice_index borders t < slice_index places (source edges k) → slice_index borders t < slice_index places (target edges k)

-- the components known so far: no edge leads out of them or to a later one, nodes of one lead to each other, none is empty
pub record Settled (edges : List (ℕ × ℕ)) (n : ℕ) (places : List ℕ) (count : ℕ) : Type 0 where
  pub closed : (k : ℕ) → k < length edges → n < slice_index places (source edges k) → n < slice_index places (target edges k)
  pub ordered : (k : ℕ) → k < length edges → n < slice_index places (source edges k) → slice_index places (target edges k) ≤ slice_index places (source edges k)
  pub joined : (a b : ℕ) → a < n → b < n → n < slice_index places a → slice_index places a ≡ slice_index places b → Leads edges a b
  pub used : (c : ℕ) → c < count → (v : ℕ) × (v < n) × (slice_index places v ≡ n + 1 + c)

-- what a contract sees of a walk: the edges and their links, how many nodes there are, the words of each node, and where the walk stands
pub record Walking : Type 0 where
  pub edges : List (ℕ × ℕ)
  pub links : List ℕ
  pub nodes : ℕ
  pub turns : List ℕ
  pub stack : List ℕ
  pub back : List ℕ
  pub borders : List ℕ
  pub places : List ℕ
  pub top : ℕ
  pub at : ℕ
  pub depth : ℕ
  pub count : ℕ

-- the same, of the fields
abbrev pub walking : {E : Type 0} → List (ℕ × ℕ) → Inside E → Walking
walking edges a = record {
  edges = edges;
  links = a.links.now;
  nodes = length a.places.now;
  turns = a.turns.now;
  stack = a.stack.now;
  back = a.back.now;
  borders = a.borders.now;
  places = a.places.now;
  top = a.top;
  at = a.at;
  depth = a.depth;
  count = a.count;
}

-- all that a walk keeps
pub record Search (w : Walking) : Type 0 where
  pub star : Star w.edges w.nodes w.links
  pub links_long : length w.edges ≤ length w.links
  pub sized : Sized w.nodes w.turns w.stack w.back w.borders w.places
  pub stacked : Stacked w.nodes w.stack w.places w.top w.count
  pub walked : Walked w.turns w.stack w.back w.top w.at
  pub chained : Chained w.edges w.stack w.borders w.top w.depth
  pub bordered : Bordered w.borders w.top w.depth
  pub followed : Followed w.edges w.nodes w.turns w.borders w.places w.depth
  pub settled : Settled w.edges w.nodes w.places w.count

-- a node is put on the stack, with a border under it, and gets the turn
abbrev pub with_node : Walking → ℕ → Walking
with_node w node = record w {
  stack = slice_set w.stack w.top node;
  back = slice_set w.back w.top w.at;
  borders = slice_set w.borders w.depth w.top;
  places = slice_set w.places node (w.top + 1);
  top = w.top + 1;
  at = w.top + 1;
  depth = w.depth + 1;
}

-- what is left to do: it falls at each step
abbrev pub left : Walking → ℕ
left w = sum w.turns * (2 * w.nodes + 1) + w.at + w.depth

-- a walk goes on: over the same edges and nodes, and what is seen stays seen
pub record Onward (before after : Walking) : Type 0 where
  pub edges : after.edges ≡ before.edges
  pub nodes : after.nodes ≡ before.nodes
  pub seen : (v : ℕ) → v < before.nodes → 0 < slice_index before.places v → 0 < slice_index after.places v

-- a walk goes on by a step
pub record Stepped (before after : Walking) : Type 0 where
  pub onward : Onward before after
  pub falls : left after < left before

-- the nodes on the stack from the border on have the label, the others their places
pub record Stamped (n : ℕ) (before after : List ℕ) (border top label : ℕ) : Type 0 where
  pub taken : (v : ℕ) → v < n → border < slice_index before v → slice_index before v ≤ top → slice_index after v ≡ label
  pub others : (v : ℕ) → v < n → (slice_index before v ≤ border) ⊎ (top < slice_index before v) → slice_index after v ≡ slice_index before v
  pub same : unseen after ≡ unseen before
