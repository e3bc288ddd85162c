-- A list of names in two parts is handed over one after the other.
use Rattle.std.proofs.Common.{◌≡◌, List, [], ◌∷◌, ◌++◌, sym, refl, ◌∙◌}
use Rattle.rules.specs.Tree.{Head}
use Rattle.rules.specs.Refusals.{Outcome, and_then}
use Rattle.rules.proofs.Outcomes.{and_then_assoc}
use Rattle.names.specs.Sinks.{each}

pub each_joins : {S : Type 0} (take : Head → S → Outcome S) (hs ks : List Head) (s : S)
    → each take (hs ++ ks) s ≡ and_then (each take hs s) (λ t. each take ks t)
each_joins take [] ks s = refl
each_joins take (h ∷ hs) ks s =
    (λ i. and_then (take h s) (λ t. each_joins take hs ks t i)) ∙ sym (and_then_assoc (take h s) (λ t. each take hs t) (λ t. each take ks t))
