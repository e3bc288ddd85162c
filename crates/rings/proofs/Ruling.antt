-- A name stands in a closed ring exactly if its label is that of one: what the book says of the names of a ring, the labels say of nodes.
use Rattle.std.proofs.Common.{◌≡◌, ℕ, zero, suc, ◌<◌, Bool, true, false, not, ◌&&◌, List, [], ◌∷◌, length, get_or, Some, sym, refl, ap, ◌∙◌, subst, ⊎_elim, arith}
use Rattle.std.proofs.lemmas.List.{length-map}
use Rattle.std.proofs.lemmas.Bool.{cond-true, cond-false, and_parts, and_from, and_cases, and_left, and_right, both_ways, or_cases, or_parts, or_from, or_left, or_right, cases_Bool, not-true, not-false, not_from_true, not_from_false}
use Rattle.rules.specs.Tree.{Name}
use Rattle.rules.specs.Names.{same, among}
use Rattle.rules.specs.Tables.{NameRow, EdgeRow, Counts, some_row, row_of, row_number}
use Rattle.rules.specs.Rings.{component, has_other, has_entry, led_into, closed}
use Rattle.rules.proofs.SameNames.{same_eq, same_refl}
use Rattle.tables.specs.Living.{nth}
use Rattle.tables.specs.Matching.{Present, Known}
use Rattle.tables.proofs.Changing.{nth_below}
use Rattle.graph.specs.Graphs.{Components}
use Rattle.rings.specs.Ringed.{Distinct}
use Rattle.rings.specs.Closing.{node, pairs, Closed, ClosedByLabels}
use Rattle.rings.proofs.Naming.{node_apart, node_within, edge_row, component_present, labels_component, component_labels}

-- ROWS BY THEIR PLACE

pub row_at : {Row : Type 0} (rs : List Row) (v : ℕ) → v < length rs → (r : Row) × (nth v rs ≡ Some r)
row_at [] v h = absurd (omega arith)
row_at (r ∷ rs) zero h = (r, refl)
row_at (r ∷ rs) (suc v) h = row_at rs v (omega arith)

-- no row passes
none_at : {Row : Type 0} (f : Row → Bool) (rs : List Row) → some_row f rs ≡ false → (v : ℕ) (r : Row) → nth v rs ≡ Some r → f r ≡ false
none_at f [] h v r e = cc
none_at f (x ∷ rs) h zero r e = let q : x ≡ r = cc in ap f (sym q) ∙ (or_parts (f x) (some_row f rs) h).0
none_at f (x ∷ rs) h (suc v) r e = none_at f rs (or_parts (f x) (some_row f rs) h).1 v r e

none_from : {Row : Type 0} (f : Row → Bool) (rs : List Row) → ((v : ℕ) (r : Row) → nth v rs ≡ Some r → f r ≡ false) → some_row f rs ≡ false
none_from f [] h = refl
none_from f (x ∷ rs) h = or_from (f x) (some_row f rs) (h zero x refl) (none_from f rs (λ v r e. h (suc v) r e))

-- the row at a place is that of its name
named_row : (rs : List NameRow) (v : ℕ) (r : NameRow) → Distinct rs → nth v rs ≡ Some r → Present rs r.name × (row_number r.name rs ≡ suc v)
named_row [] v r d e = cc
named_row (x ∷ rs) zero r d e =
    let q : x ≡ r = cc in
    let s : same r.name x.name ≡ true = ap (λ (y : NameRow). same r.name y.name) q ∙ same_refl r.name in
    (or_left (same r.name x.name) (some_row (row_of r.name) rs) s, cond-true (same r.name x.name) 1 (suc (row_number r.name rs)) s)
named_row (x ∷ rs) (suc v) r d e =
    let g = named_row rs v r d.1 e in (
      or_right (same r.name x.name) (some_row (row_of r.name) rs) g.0,
      ⊎_elim
          (λ (s : same r.name x.name ≡ true).
          absurd (both_ways (some_row (row_of r.name) rs) (ap (λ (m : Name). some_row (row_of m) rs) (same_eq r.name x.name s) ∙ d.0) g.0))
          (λ (s : same r.name x.name ≡ false). cond-false (same r.name x.name) 1 (suc (row_number r.name rs)) s ∙ ap suc g.1)
          (cases_Bool (same r.name x.name)),
    )

-- OTHER NAMES OF A RING

other_found : (n : Name) (ring : List Name) → has_other n ring ≡ true → (m : Name) × (same n m ≡ false) × (among m ring ≡ true)
other_found n [] h = absurd (both_ways false refl h)
other_found n (m ∷ ms) h = ⊎_elim
    (λ (y : not (same n m) ≡ true). (m, not-true (same n m) y, or_left (same m m) (among m ms) (same_refl m)))
    (λ (y : has_other n ms ≡ true). let g = other_found n ms y in (g.0, g.1, or_right (same g.0 m) (among g.0 ms) g.2))
    (or_cases (not (same n m)) (has_other n ms) h)

other_there : (n m : Name) (ring : List Name) → same n m ≡ false → among m ring ≡ true → has_other n ring ≡ true
other_there n m [] d h = absurd (both_ways false refl h)
other_there n m (x ∷ xs) d h = ⊎_elim
    (λ (y : same m x ≡ true). or_left (not (same n x)) (has_other n xs) (not_from_false (same n x) (ap (same n) (sym (same_eq m x y)) ∙ d)))
    (λ (y : among m xs ≡ true). or_right (not (same n x)) (has_other n xs) (other_there n m xs d y))
    (or_cases (same m x) (among m xs) h)

module _ (c : Counts) (labels : List ℕ) (count : ℕ) (entered : ℕ → Bool) (distinct : Distinct c.names) (known : Known c.names c.edges)
    (long : length labels ≡ length c.names) (told : Components (pairs c.names c.edges) labels count)
    (entries : (v : ℕ) (r : NameRow) → nth v c.names ≡ Some r → entered v ≡ r.entry) (n : Name) (present : Present c.names n) where
  abbrev label_of : Name → ℕ
  label_of m = get_or labels (node c.names m) 0

  abbrev ring : List Name
  ring = component c.edges n

  in_ring : (m : Name) → Present c.names m → label_of m ≡ label_of n → among m ring ≡ true
  in_ring m p e = labels_component c.names c.edges labels count known long told n m present p (sym e)

  ring_label : (m : Name) → Present c.names m → among m ring ≡ true → label_of m ≡ label_of n
  ring_label m p h = sym (component_labels c.names c.edges labels count known long told n m present p h)

  -- the name at a node
  record AtNode (v : ℕ) : Type 0 where
    row : NameRow
    stands : nth v c.names ≡ Some row
    has_row : Present c.names row.name
    node_is : node c.names row.name ≡ v

  at_node : (v : ℕ) → v < length labels → AtNode v
  at_node v h =
      let g = row_at c.names v (omega arith) in
      let q = named_row c.names v g.0 distinct g.1 in
      let number = q.1 in
      record { row = g.0; stands = g.1; has_row = q.0; node_is = omega arith }

  closed_label : closed c n ≡ true → Closed entered (pairs c.names c.edges) labels (label_of n)
  closed_label g =
      let a = and_parts (has_other n ring) _ g in
      let b = and_parts (not (has_entry c ring)) (not (led_into c ring)) a.1 in
      let o = other_found n ring a.0 in
      let m : Name = o.0 in
      let pm = component_present c.names c.edges n m known present o.2 in
      let wn = node_within c.names n present in
      let wm = node_within c.names m pm in
      record {
        one = node c.names n;
        other = node c.names m;
        apart = λ e. both_ways (same n m) o.1 (ap (same n) (sym (node_apart c.names n m present pm e)) ∙ same_refl n);
        one_within = omega arith;
        other_within = omega arith;
        one_labelled = refl;
        other_labelled = ring_label m pm o.2;
        no_entry = λ v h e.
            let w = at_node v h in
            let inside = in_ring w.row.name w.has_row (ap (λ j. get_or labels j 0) w.node_is ∙ e) in
            entries v w.row w.stands
            ∙ ⊎_elim (λ (x : w.row.entry ≡ false). x) (λ (x : among w.row.name ring ≡ false). absurd (both_ways (among w.row.name ring) x inside))
            (and_cases w.row.entry (among w.row.name ring) (none_at (λ (r : NameRow). r.entry && among r.name ring) c.names (not-true (has_entry c ring) b.0) v w.row w.stands));
        fed = λ k h e.
            let w = edge_row c.names c.edges k known h in
            let inside = in_ring w.row.to w.to_present (ap (λ j. get_or labels j 0) (sym w.target_is) ∙ e) in
            ap (λ j. get_or labels j 0) w.source_is
            ∙ ring_label w.row.from w.from_present
            (⊎_elim (λ (x : among w.row.to ring ≡ false). absurd (both_ways (among w.row.to ring) x inside))
            (λ (x : not (among w.row.from ring) ≡ false). not-false (among w.row.from ring) x)
            (and_cases (among w.row.to ring) (not (among w.row.from ring))
            (none_at (λ (e : EdgeRow). among e.to ring && not (among e.from ring)) c.edges (not-true (led_into c ring) b.1) k w.row w.stands)));
      }

  label_other : Closed entered (pairs c.names c.edges) labels (label_of n) → has_other n ring ≡ true
  label_other k =
      let x = at_node k.one k.one_within in
      let y = at_node k.other k.other_within in
      let inx = in_ring x.row.name x.has_row (ap (λ j. get_or labels j 0) x.node_is ∙ k.one_labelled) in
      let iny = in_ring y.row.name y.has_row (ap (λ j. get_or labels j 0) y.node_is ∙ k.other_labelled) in
      ⊎_elim
      (λ (s : same n x.row.name ≡ true). ⊎_elim
      (λ (t : same n y.row.name ≡ true).
      absurd (k.apart (sym x.node_is ∙ ap (node c.names) (sym (same_eq n x.row.name s) ∙ same_eq n y.row.name t) ∙ y.node_is)))
      (λ (t : same n y.row.name ≡ false). other_there n y.row.name ring t iny)
      (cases_Bool (same n y.row.name)))
      (λ (s : same n x.row.name ≡ false). other_there n x.row.name ring s inx)
      (cases_Bool (same n x.row.name))

  label_entry : Closed entered (pairs c.names c.edges) labels (label_of n) → has_entry c ring ≡ false
  label_entry k = none_from (λ (r : NameRow). r.entry && among r.name ring) c.names (λ v r e.
      ⊎_elim
      (λ (x : among r.name ring ≡ true).
      let q = named_row c.names v r distinct e in
      let number = q.1 in
      let node_is : node c.names r.name ≡ v = omega arith in
      let below = nth_below 0 (λ (s : NameRow). []) c.names v r e in
      and_left r.entry (among r.name ring)
      (sym (entries v r e) ∙ k.no_entry v (omega arith) (ap (λ j. get_or labels j 0) (sym node_is) ∙ ring_label r.name q.0 x)))
      (λ (x : among r.name ring ≡ false). and_right r.entry (among r.name ring) x)
      (cases_Bool (among r.name ring)))

  label_fed : Closed entered (pairs c.names c.edges) labels (label_of n) → led_into c ring ≡ false
  label_fed k = none_from (λ (e : EdgeRow). among e.to ring && not (among e.from ring)) c.edges (λ j e h.
      let below = nth_below 0 (λ (s : EdgeRow). []) c.edges j e h in
      let as_long : length (pairs c.names c.edges) ≡ length c.edges = length-map c.edges (λ (s : EdgeRow). (node c.names s.from, node c.names s.to)) in
      let w = edge_row c.names c.edges j known (omega arith) in
      let stands = w.stands in
      let one : w.row ≡ e = cc in
      subst (λ (s : EdgeRow). (among s.to ring && not (among s.from ring)) ≡ false) one
      (⊎_elim
      (λ (x : among w.row.to ring ≡ true).
      let to_label = ap (λ i. get_or labels i 0) w.target_is ∙ ring_label w.row.to w.to_present x in
      let from_label = k.fed j (omega arith) to_label in
      and_right (among w.row.to ring) (not (among w.row.from ring))
      (not_from_true (among w.row.from ring) (in_ring w.row.from w.from_present (ap (λ i. get_or labels i 0) (sym w.source_is) ∙ from_label))))
      (λ (x : among w.row.to ring ≡ false). and_left (among w.row.to ring) (not (among w.row.from ring)) x)
      (cases_Bool (among w.row.to ring))))

  label_closed : Closed entered (pairs c.names c.edges) labels (label_of n) → closed c n ≡ true
  label_closed k =
      and_from (has_other n ring) _ (label_other k)
      (and_from (not (has_entry c ring)) (not (led_into c ring)) (not_from_false (has_entry c ring) (label_entry k)) (not_from_false (led_into c ring) (label_fed k)))

pub closed_by_labels : ClosedByLabels
closed_by_labels c labels count entered distinct known long told entries n present =
    (closed_label c labels count entered distinct known long told entries n present, label_closed c labels count entered distinct known long told entries n present)
