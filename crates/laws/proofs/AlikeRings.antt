-- Tables that tell the same discount the same: the components have the same names, though perhaps in another order,
-- so the same rings are closed, and the same weights are subtracted.
--
--   leads_alike, component_alike      edges lead alike; components have the same names
--   closed_alike, discount_alike      closed rings; a discounted row
--   rows_alike                        a name's row after the rings are discounted
use Rattle.std.specs.Prelude.{if◌then◌else◌}
use Rattle.std.proofs.Common.{◌≡◌, Bool, true, false, not, ◌&&◌, List, [], ◌∷◌, sym, ap, ◌∙◌, ap₂, arith}
use mathlib.Core.Path.{fun_ext}
use Rattle.std.proofs.lemmas.Bool.{false≢true}
use Rattle.std.proofs.lemmas.List.Folds.{Any-from_list_any, list_any-from_Any}
use Rattle.std.proofs.lemmas.Map.Views.{Contains-from_any, list_any-from_Contains}
use Rattle.rules.specs.Tree.{Name}
use Rattle.rules.specs.Names.{same, among}
use Rattle.rules.specs.Tables.{NameRow, EdgeRow, Counts, fresh, look}
use Rattle.rules.specs.Rings.{Edge, Leads, component, has_other, closed, minus, less, discount_row, discount}
use Rattle.rules.specs.Rings.Leads.{here, onward}
use Rattle.rules.proofs.SameNames.{same_eq, same_refl, same_laws}
use Rattle.rules.proofs.Leading.{component_told}
use Rattle.laws.proofs.TablesFilled.{some_entry}
use Rattle.laws.proofs.TablesEdges.{some_edge, weights}
use Rattle.laws.proofs.RingsDiscount.{look_discount}
use Rattle.laws.proofs.AlikeTables.{Alike}

-- the test of an edge's two names
abbrev is : Name → Name → Name → Name → Bool
is a b x y = same a x && same b y

edge_found : (es : List EdgeRow) (a b : Name) → Edge es a b → some_edge (is a b) es ≡ true
edge_found [] a b h = absurd h
edge_found (e ∷ es) a b h = grind (arith, edge_found es a b, same_refl a, same_refl b)

found_edge : (es : List EdgeRow) (a b : Name) → some_edge (is a b) es ≡ true → Edge es a b
found_edge [] a b h = absurd (false≢true h)
found_edge (e ∷ es) a b h = grind (arith, found_edge es a b, same_eq a e.from, same_eq b e.to)

leads_more : (es fs : List EdgeRow) → ((a b : Name) → Edge es a b → Edge fs a b) → (a : Name) {b : Name} → Leads es a b → Leads fs a b
leads_more es fs h a here = here
leads_more es fs h a (onward {b} {c} l e) = onward (leads_more es fs h a l) (h b c e)

leads_alike : (es fs : List EdgeRow) → ((p : Name → Name → Bool) → some_edge p es ≡ some_edge p fs) → (a b : Name) → Leads es a b → Leads fs a b
leads_alike es fs h a b = leads_more es fs (λ x y e. found_edge fs x y (sym (h (is x y)) ∙ edge_found es x y e)) a

component_more : (es fs : List EdgeRow) → ((p : Name → Name → Bool) → some_edge p es ≡ some_edge p fs) → (a b : Name) → among b (component es a) ≡ true → among b (component fs a) ≡ true
component_more es fs h a b q = let l = (component_told es a b).0 q in (component_told fs a b).1 (leads_alike es fs h a b l.0, leads_alike es fs h b a l.1)

component_alike : (es fs : List EdgeRow) → ((p : Name → Name → Bool) → some_edge p es ≡ some_edge p fs) → (a b : Name) → among b (component es a) ≡ among b (component fs a)
component_alike es fs h a b = grind (arith, component_more es fs h a b, component_more fs es (λ p. sym (h p)) a b)

-- another name than n
other_more : (n : Name) (xs ys : List Name) → ((m : Name) → among m xs ≡ among m ys) → has_other n xs ≡ true → has_other n ys ≡ true
other_more n xs ys h q =
    let a = Any-from_list_any (λ (m : Name). not (same n m)) xs q in
    let c = Contains-from_any same_eq a.1 ys (sym (h a.1) ∙ list_any-from_Contains same_laws a.1 xs (a.0, a.2, a.3)) in
    list_any-from_Any (λ (m : Name). not (same n m)) ys (c.0, a.1, c.1, c.2, a.4)

other_alike : (n : Name) (xs ys : List Name) → ((m : Name) → among m xs ≡ among m ys) → has_other n xs ≡ has_other n ys
other_alike n xs ys h = grind (arith, other_more n xs ys h, other_more n ys xs (λ m. sym (h m)))

-- a name shares n's ring
abbrev in_ring : Counts → Name → Name → Bool
in_ring c n m = among m (component c.edges n)

-- a closed ring, by a test of its names
abbrev closed_by : (other : Bool) → (Name → Bool) → Counts → Bool
closed_by other t c = other && (not (some_entry t c.names) && not (some_edge (λ a b. t b && not (t a)) c.edges))

-- a row less the weights of the edges from the other names of its ring, by a test of these
abbrev less_by : (Name → Bool) → List EdgeRow → NameRow → NameRow
less_by t es r = record {
  name = r.name;
  usage = minus r.usage (weights false (λ a b. same b r.name && (not (same a r.name) && t a)) es);
  assign = minus r.assign (weights true (λ a b. same b r.name && (not (same a r.name) && t a)) es);
  entry = r.entry;
  counted = r.counted;
}

module _ (c d : Counts) (k : Alike c d) where
  ring_alike : (n m : Name) → among m (component c.edges n) ≡ among m (component d.edges n)
  ring_alike n = component_alike c.edges d.edges k.edges n

  tests_alike : (n : Name) → in_ring c n ≡ in_ring d n
  tests_alike n = fun_ext (ring_alike n)

  closed_by_alike : (other : Bool) (t : Name → Bool) → closed_by other t c ≡ closed_by other t d
  closed_by_alike other t = ap₂ (λ (x y : Bool). other && (not x && not y)) (k.entries t) (k.edges (λ a b. t b && not (t a)))

  closed_alike : (n : Name) → closed c n ≡ closed d n
  closed_alike n =
      ap₂ (λ (b : Bool) (t : Name → Bool). closed_by b t c) (other_alike n (component c.edges n) (component d.edges n) (ring_alike n)) (tests_alike n)
      ∙ closed_by_alike (has_other n (component d.edges n)) (in_ring d n)

  less_by_alike : (t : Name → Bool) (r : NameRow) → less_by t c.edges r ≡ less_by t d.edges r
  less_by_alike t r = λ i. record {
    name = r.name;
    usage = minus r.usage (k.weights false (λ a b. same b r.name && (not (same a r.name) && t a)) i);
    assign = minus r.assign (k.weights true (λ a b. same b r.name && (not (same a r.name) && t a)) i);
    entry = r.entry;
    counted = r.counted;
  }

  less_alike : (n : Name) (r : NameRow) → less (component c.edges n) c.edges r ≡ less (component d.edges n) d.edges r
  less_alike n r = ap (λ (t : Name → Bool). less_by t c.edges r) (tests_alike n) ∙ less_by_alike (in_ring d n) r

  discount_alike : (r : NameRow) → discount_row c r ≡ discount_row d r
  discount_alike r = ap₂ (λ (b : Bool) (x : NameRow). if b then x else r) (closed_alike r.name) (less_alike r.name r)

  pub rows_alike : (n : Name) → look n (discount c) ≡ look n (discount d)
  rows_alike n =
      look_discount c n c.names
      ∙ (ap₂ (λ (b : Bool) (x : NameRow). if b then x else fresh n) (k.names (same n)) (discount_alike (look n c.names) ∙ ap (discount_row d) (k.looks n))
      ∙ sym (look_discount d n d.names))
