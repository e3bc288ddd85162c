-- Names and their nodes: edges lead from one name to another exactly if they lead from node to node, so that two names share a
-- component exactly if their nodes have one label. Names that have rows are told apart by their nodes.
use Rattle.std.proofs.Common.{◌≡◌, ℕ, zero, suc, ◌<◌, true, List, [], ◌∷◌, length, get_or, Some, sym, refl, ap, ◌∙◌, subst, inl, inr, ⊎_elim, arith}
use Rattle.std.proofs.lemmas.Bool.{eq-eqb}
use Rattle.rules.specs.Tree.{Name}
use Rattle.rules.specs.Names.{among}
use Rattle.rules.specs.Tables.{NameRow, EdgeRow, row_number}
use Rattle.rules.specs.Rings.{component}
use Rattle.rules.specs.Rings.{Edge as NameEdge, Leads as NameLeads}
use Rattle.rules.specs.Rings.Leads.{here as name_here, onward as name_onward}
use Rattle.rules.proofs.SameNames.{same_eq}
use Rattle.rules.proofs.Leading.{component_told}
use Rattle.tables.specs.Living.{nth}
use Rattle.tables.specs.Matching.{Present, Known}
use Rattle.tables.proofs.Numbering.{number_positive, numbers_same}
use Rattle.tables.proofs.Matched.{names_change}
use Rattle.graph.specs.Graphs.{source, target, Edge, Leads, Components}
use Rattle.graph.specs.Graphs.Leads.{here, onward}
use Rattle.rings.specs.Closing.{node, pairs}

module _ (names : List NameRow) where
  pub node_apart : (a b : Name) → Present names a → Present names b → node names a ≡ node names b → a ≡ b
  node_apart a b pa pb e =
      let x = number_positive a names in
      let y = number_positive b names in
      let q : row_number a names ≡ row_number b names = omega arith in
      same_eq a b (sym (numbers_same a b names pa pb) ∙ eq-eqb _ _ q)

  pub node_within : (a : Name) → Present names a → node names a < length names
  node_within a p =
      let x = names_change names a (λ r. r) p in
      let y = x.0 in
      let z = x.1 in omega arith

  -- an edge between names joins their nodes
  edge_node : (a b : Name) (es : List EdgeRow) → NameEdge es a b → Edge (pairs names es) (node names a) (node names b)
  edge_node a b [] x = absurd x
  edge_node a b (e ∷ es) x = ⊎_elim
      (λ (y : (a ≡ e.from) × (b ≡ e.to)). record { at = 0; within = omega arith; leaves = ap (node names) (sym y.0); enters = ap (node names) (sym y.1) })
      (λ (y : NameEdge es a b). let g = edge_node a b es y in let w = g.within in record { at = suc g.at; within = omega arith; leaves = g.leaves; enters = g.enters })
      x

  leads_node : {es : List EdgeRow} {a b : Name} → NameLeads es a b → Leads (pairs names es) (node names a) (node names b)
  leads_node name_here = here
  leads_node {es} (name_onward {b} {c} l x) = onward (leads_node l) (edge_node b c es x)

  -- an edge between nodes is a row of edges
  pub record RowOfEdge (es : List EdgeRow) (k : ℕ) : Type 0 where
    pub row : EdgeRow
    pub stands : nth k es ≡ Some row
    pub joins : NameEdge es row.from row.to
    pub from_present : Present names row.from
    pub to_present : Present names row.to
    pub source_is : source (pairs names es) k ≡ node names row.from
    pub target_is : target (pairs names es) k ≡ node names row.to

  pub edge_row : (es : List EdgeRow) (k : ℕ) → Known names es → k < length (pairs names es) → RowOfEdge es k
  edge_row [] k known h = absurd (omega arith)
  edge_row (e ∷ es) zero known h = record {
    row = e;
    stands = refl;
    joins = inl (refl, refl);
    from_present = known.0;
    to_present = known.1;
    source_is = refl;
    target_is = refl;
  }
  edge_row (e ∷ es) (suc k) known h =
      let g = edge_row es k known.2 (omega arith) in
      record { row = g.row; stands = g.stands; joins = inr g.joins; from_present = g.from_present; to_present = g.to_present; source_is = g.source_is; target_is = g.target_is }

  -- where edges lead from a node there is a name
  record Reached (es : List EdgeRow) (a : Name) (j : ℕ) : Type 0 where
    name : Name
    present : Present names name
    node_is : node names name ≡ j
    leads : NameLeads es a name

  reached : {es : List EdgeRow} {a : Name} {j : ℕ} → Known names es → Present names a → Leads (pairs names es) (node names a) j → Reached es a j
  reached {es} {a} known pa here = record { name = a; present = pa; node_is = refl; leads = name_here }
  reached {es} {a} known pa (onward l x) =
      let g = reached known pa l in
      let e = edge_row es x.at known x.within in
      let one : e.row.from ≡ g.name = node_apart e.row.from g.name e.from_present g.present (sym e.source_is ∙ x.leaves ∙ sym g.node_is) in
      record {
        name = e.row.to;
        present = e.to_present;
        node_is = sym e.target_is ∙ x.enters;
        leads = name_onward g.leads (subst (λ (m : Name). NameEdge es m e.row.to) one e.joins);
      }

  leads_name : (es : List EdgeRow) (a b : Name) → Known names es → Present names a → Present names b → Leads (pairs names es) (node names a) (node names b) → NameLeads es a b
  leads_name es a b known pa pb l =
      let g = reached known pa l in
      subst (λ (m : Name). NameLeads es a m) (node_apart g.name b g.present pb g.node_is) g.leads

  -- an edge leads to a name that has a row
  edge_present : (es : List EdgeRow) (a b : Name) → Known names es → NameEdge es a b → Present names b
  edge_present [] a b known x = absurd x
  edge_present (e ∷ es) a b known x = ⊎_elim
      (λ (y : (a ≡ e.from) × (b ≡ e.to)). subst (λ (m : Name). Present names m) (sym y.1) known.1)
      (λ (y : NameEdge es a b). edge_present es a b known.2 y)
      x

  leads_present : {es : List EdgeRow} {a b : Name} → Known names es → Present names a → NameLeads es a b → Present names b
  leads_present known pa name_here = pa
  leads_present {es} known pa (name_onward {b} {c} l x) = edge_present es b c known x

  pub component_present : (es : List EdgeRow) (a b : Name) → Known names es → Present names a → among b (component es a) ≡ true → Present names b
  component_present es a b known pa h = leads_present known pa ((component_told es a b).0 h).0

  module _ (es : List EdgeRow) (labels : List ℕ) (count : ℕ) (known : Known names es) (long : length labels ≡ length names) (told : Components (pairs names es) labels count) where
    -- names with one label share a component
    pub labels_component : (a b : Name) → Present names a → Present names b → get_or labels (node names a) 0 ≡ get_or labels (node names b) 0 → among b (component es a) ≡ true
    labels_component a b pa pb e =
        let wa = node_within a pa in
        let wb = node_within b pb in
        let l = told.both (node names a) (node names b) (omega arith) (omega arith) e in
        (component_told es a b).1 (leads_name es a b known pa pb l.0, leads_name es b a known pb pa l.1)

    -- and the other way round
    pub component_labels : (a b : Name) → Present names a → Present names b → among b (component es a) ≡ true → get_or labels (node names a) 0 ≡ get_or labels (node names b) 0
    component_labels a b pa pb h =
        let wa = node_within a pa in
        let wb = node_within b pb in
        let l = (component_told es a b).0 h in
        told.alike (node names a) (node names b) (omega arith) (omega arith) (leads_node l.0) (leads_node l.1)
