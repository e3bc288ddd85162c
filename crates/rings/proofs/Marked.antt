-- Nodes are linked by their labels, and nodes that an edge enters from another label are marked.
use Rattle.std.proofs.Common.{◌≡◌, ℕ, ◌+◌, ◌<◌, Bool, List, length, get_or, sym, ap, ◌∙◌, ⊎_elim, arith, below_more}
use Rattle.std.proofs.lemmas.Bool.{cases_eq}
use Rattle.graph.specs.Graphs.{source, target}
use Rattle.rings.specs.Closing.{Closed}
use Rattle.rings.specs.Marking.{FedOutside, Outside, Quiet}

-- MARKS

-- an edge within a label
pub outside_same : (edges : List (ℕ × ℕ)) (labels marks : List ℕ) (k s t : ℕ) → s ≡ source edges k → t ≡ target edges k
    → Outside edges labels k marks → get_or labels s 0 ≡ get_or labels t 0 → Outside edges labels (k + 1) marks
outside_same edges labels marks k s t from to m same =
    let label = λ (v : ℕ). get_or labels v 0 in
    record {
      marked = below_more (λ j. (label (source edges j) ≡ label (target edges j) → ⊥) → get_or marks (target edges j) 0 ≡ 1) k m.marked
          (λ ne. absurd (ne (ap label (sym from) ∙ same ∙ ap label to)));
      others = m.others;
    }

-- MARKS TELL THE EDGES FROM OTHER LABELS

pub quiet_closed : (entered : ℕ → Bool) (edges : List (ℕ × ℕ)) (labels marks : List ℕ) (label : ℕ) → ((k : ℕ) → k < length edges → target edges k < length labels)
    → Outside edges labels (length edges) marks → Quiet entered labels marks label → Closed entered edges labels label
quiet_closed entered edges labels marks label inside m q = record {
  one = q.one;
  other = q.other;
  apart = q.apart;
  one_within = q.one_within;
  other_within = q.other_within;
  one_labelled = q.one_labelled;
  other_labelled = q.other_labelled;
  no_entry = λ v h e. (q.calm v h e).0;
  fed = λ k h e. ⊎_elim
      (λ (same : get_or labels (source edges k) 0 ≡ get_or labels (target edges k) 0). same ∙ e)
      (λ (ne : get_or labels (source edges k) 0 ≡ get_or labels (target edges k) 0 → ⊥).
      let a = m.marked k h ne in
      let b = (q.calm (target edges k) (inside k h) e).1 in absurd (omega arith))
      (cases_eq (get_or labels (source edges k) 0) (get_or labels (target edges k) 0));
}

pub closed_quiet : (entered : ℕ → Bool) (edges : List (ℕ × ℕ)) (labels marks : List ℕ) (label : ℕ)
    → Outside edges labels (length edges) marks → Closed entered edges labels label → Quiet entered labels marks label
closed_quiet entered edges labels marks label m q = record {
  one = q.one;
  other = q.other;
  apart = q.apart;
  one_within = q.one_within;
  other_within = q.other_within;
  one_labelled = q.one_labelled;
  other_labelled = q.other_labelled;
  calm = λ v h e. (
    q.no_entry v h e,
    ⊎_elim (λ z. z)
        (λ (f : FedOutside edges labels v). absurd (f.apart (q.fed f.at f.within (ap (λ x. get_or labels x 0) f.enters ∙ e) ∙ sym e)))
        (m.others v h),
  );
}
