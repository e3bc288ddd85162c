-- A graph that is refused is that of no count that fits the work memory.
use Rattle.std.proofs.Common.{◌≡◌, ℕ, ◌+◌, ◌^◌, ◌<◌, ◌≤◌, ◌⊎◌, eqb, List, length, get_or, sym, ap, subst, ◌∙◌, ⊎_elim, arith}
use Rattle.std.proofs.lemmas.Map.Steps.{le-length_from_below}
use Rattle.std.proofs.lemmas.List.Folds.{list_any_at}
use Rattle.std.proofs.lemmas.Bool.{eq-eqb}
use Rattle.rules.specs.Tables.{Counts, names_width}
use Rattle.tables.specs.Living.{used}
use Rattle.tables.specs.Matching.{name_words}
use Rattle.tables.proofs.Holding.{holds_used}
use Rattle.graph.specs.Graphs.{source, target, Components}
use Rattle.graph.specs.Refusals.{Refused, Stray}
use Rattle.graph.specs.declared.fault.GraphFault.{GraphFault}
use Rattle.graph.specs.declared.fault.GraphFault.TheVariants.{TooLarge, NoRoom, NoSuchNode}
use Rattle.rings.specs.Ringed.{Ready}
use Rattle.rings.specs.Closing.{node, pairs}
use Rattle.rings.specs.Joining.{joins}
use Rattle.rings.specs.Spending.{Discounted, Subtracted, Unfit, NotEnough}
use Rattle.rings.proofs.Naming.{node_within, edge_row}
use Rattle.rings.proofs.Joined.{held_count, joins_held}

module _ (names edges : List ℕ) (c : Counts) (found found' : List ℕ) (ready : Ready c found found' names edges) where
  -- as many nodes as rows
  pub ready_nodes : used names_width names ≡ length c.names
  ready_nodes = holds_used names_width name_words (omega arith) found c.names names ready.names_held

  ready_edges : length (joins edges) ≡ length c.edges
  ready_edges = held_count c.names found' c.edges edges ready.edges_held

  -- every edge joins nodes
  ready_ends : (k : ℕ) → k < length (joins edges) → (source (joins edges) k < length c.names) × (target (joins edges) k < length c.names)
  ready_ends k h =
      let same_edges = joins_held c.names found' c.edges edges ready.edges_held in
      let long : length (joins edges) ≡ length (pairs c.names c.edges) = ap length same_edges in
      let w = edge_row c.names c.edges k ready.known (omega arith) in
      let from_is : source (joins edges) k ≡ node c.names w.row.from = ap (λ (p : List (ℕ × ℕ)). source p k) same_edges ∙ w.source_is in
      let to_is : target (joins edges) k ≡ node c.names w.row.to = ap (λ (p : List (ℕ × ℕ)). target p k) same_edges ∙ w.target_is in
      let a = node_within c.names w.row.from w.from_present in
      let b = node_within c.names w.row.to w.to_present in
      (omega arith, omega arith)

-- so it is of any words for which a fault is true
pub unfit_not : (names edges : List ℕ) (room : ℕ) (fault : GraphFault) → Unfit names edges room fault → NotEnough names edges room
unfit_not names edges room TooLarge u c found found' ready few few-edges enough =
    let x = ready_nodes names edges c found found' ready in
    let y = ready_edges names edges c found found' ready in
    ⊎_elim (λ (h : 2 ^ 31 ≤ used names_width names). omega arith) (λ (h : 2 ^ 32 ≤ length (joins edges)). omega arith) u
unfit_not names edges room NoRoom u c found found' ready few few-edges enough =
    let x = ready_nodes names edges c found found' ready in
    let y = ready_edges names edges c found found' ready in
    omega arith
unfit_not names edges room (NoSuchNode k) u c found found' ready few few-edges enough =
    let x = ready_nodes names edges c found found' ready in
    let w = ready_ends names edges c found found' ready k u.within in
    let a = w.0 in
    let b = w.1 in
    ⊎_elim (λ (h : used names_width names ≤ source (joins edges) k). omega arith) (λ (h : used names_width names ≤ target (joins edges) k). omega arith) u.past

-- what the graph's fault says is true of the words, of which the labels take one for each name
pub refused_unfit : (names edges : List ℕ) (n words room : ℕ) (fault : GraphFault) → n ≡ used names_width names → room ≤ words + n
    → Refused (joins edges) n words fault → Unfit names edges room fault
refused_unfit names edges n words room TooLarge count split r = subst (λ (m : ℕ). (2 ^ 31 ≤ m) ⊎ (2 ^ 32 ≤ length (joins edges))) count r
refused_unfit names edges n words room NoRoom count split r = let few = r.1 in omega (arith, count, split, few)
refused_unfit names edges n words room (NoSuchNode k) count split r = subst (λ (m : ℕ). Stray (joins edges) m k) count r.2

-- labels that are all used are no more than the nodes
pub used_few : (labels : List ℕ) (count : ℕ) → ((l : ℕ) → l < count → (a : ℕ) × (a < length labels) × (get_or labels a 0 ≡ l)) → count ≤ length labels
used_few labels count used = le-length_from_below labels count (λ l h. let u = used l h in list_any_at (eqb l) labels u.0 0 u.1 (eq-eqb l _ (sym u.2)))

-- the labels of the nodes tell the components
pub discounted_subtracted : (names edges labels : List ℕ) (count : ℕ) (after : List ℕ) → length labels ≡ used names_width names → Components (joins edges) labels count
    → Discounted names edges labels count after → Subtracted names edges after
discounted_subtracted names edges labels count after long told done c found found' ready =
    done c found found' ready (long ∙ ready_nodes names edges c found found' ready) told
