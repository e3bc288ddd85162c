-- Tables that tell the same. Two lists of events are exchanged if every fold whose steps commute gives the same for both:
-- so no permutation of events is ever spoken of. Tables filled from exchanged events agree in every observation.
--
--   Alike           tables that tell the same
--   Exchanged       the same events, in whatever order
--   alike           exchanged events fill tables alike
use Rattle.std.proofs.Common.{◌≡◌, Bool, List, sym, refl, ap, ◌∙◌}
use Rattle.std.specs.List.{fold}
use Rattle.std.proofs.lemmas.List.Folds.{fold_along}
use Rattle.rules.specs.Tree.{Name}
use Rattle.rules.specs.Counting.{Event}
use Rattle.rules.specs.Tables.{Counts, look}
use Rattle.laws.proofs.Basics.{Commutes}
use Rattle.laws.proofs.TablesFilled.{entered, filled, seen, look_entered, seen_commutes, some_name, named, some_name_entered, named_commutes, some_entry, entries, some_entry_entered, entries_commute}
use Rattle.laws.proofs.TablesEdges.{some_edge, edged, some_edge_entered, edged_commutes, weights, weighed, weights_entered, weighed_commutes}

-- tables that tell the same: each name's row, which names, entries and edges there are, and the edges' weights
pub record Alike (c d : Counts) : Type 0 where
  pub looks : (n : Name) → look n c.names ≡ look n d.names
  pub names : (p : Name → Bool) → some_name p c.names ≡ some_name p d.names
  pub entries : (p : Name → Bool) → some_entry p c.names ≡ some_entry p d.names
  pub edges : (p : Name → Name → Bool) → some_edge p c.edges ≡ some_edge p d.edges
  pub weights : (a : Bool) (p : Name → Name → Bool) → weights a p c.edges ≡ weights a p d.edges

-- the same events in whatever order: no fold whose steps commute tells them apart
abbrev pub Exchanged : List Event → List Event → Type 1
Exchanged xs ys = (R : Type 0) (f : R → Event → R) → Commutes f → (r : R) → fold f r xs ≡ fold f r ys

observed : {R : Type 0} (see : Counts → R) (f : R → Event → R) → ((e : Event) (c : Counts) → see (entered e c) ≡ f (see c) e) → (es : List Event) (c : Counts) → see (filled es c) ≡ fold f (see c) es
observed {R} see f h es c =
    fold_along (λ (d : Counts) (e : Event). entered e d) f (λ (d : Counts) (r : R). see d ≡ r) (λ d r e q. h e d ∙ ap (λ (z : R). f z e) q) c (see c) es refl

agreed : {R : Type 0} (see : Counts → R) (f : R → Event → R) → ((e : Event) (c : Counts) → see (entered e c) ≡ f (see c) e) → Commutes f → (xs ys : List Event) → Exchanged xs ys → (c : Counts) → see (filled xs c) ≡ see (filled ys c)
agreed {R} see f h k xs ys s c = observed see f h xs c ∙ (s R f k (see c) ∙ sym (observed see f h ys c))

pub alike : (xs ys : List Event) → Exchanged xs ys → (c : Counts) → Alike (filled xs c) (filled ys c)
alike xs ys s c = record {
  looks = λ n. agreed (λ (t : Counts). look n t.names) (seen n) (look_entered n) (seen_commutes n) xs ys s c;
  names = λ p. agreed (λ (t : Counts). some_name p t.names) (named p) (some_name_entered p) (named_commutes p) xs ys s c;
  entries = λ p. agreed (λ (t : Counts). some_entry p t.names) (entries p) (some_entry_entered p) (entries_commute p) xs ys s c;
  edges = λ p. agreed (λ (t : Counts). some_edge p t.edges) (edged p) (some_edge_entered p) (edged_commutes p) xs ys s c;
  weights = λ a p. agreed (λ (t : Counts). weights a p t.edges) (weighed a p) (weights_entered a p) (weighed_commutes a p) xs ys s c;
}
