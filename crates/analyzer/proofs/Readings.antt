-- Names that are read as they are handed over leave what surrounds them, and read one after another.
use Rattle.std.proofs.Common.{◌≡◌, false, List, [], ◌∷◌, sym, refl, ap, ◌∙◌}
use Rattle.rules.specs.Refusals.{Outcome, and_then}
use Rattle.rules.specs.Refusals.Outcome.{fine, refused}
use Rattle.rules.proofs.Outcomes.{and_then_assoc}
use Rattle.rules.specs.Tree.{Head}
use Rattle.names.specs.Sinks.{each}
use Rattle.analyzer.specs.Readings.{Place, place_at, read_next}
use Rattle.analyzer.specs.Scopes.{Here}
use Rattle.analyzer.specs.Walk.{State, referred}

pub each_read : (a : Here) (hs : List Head) (s : State)
    → each read_next hs (place_at a s) ≡ and_then (each (referred a false) hs s) (λ t. fine (place_at a t))
each_read a [] s = refl
each_read a (h ∷ hs) s =
    and_then_assoc (referred a false h s) (λ t. fine (place_at a t)) (λ p. each read_next hs p)
    ∙ (λ i. and_then (referred a false h s) (λ t. each_read a hs t i))
    ∙ sym (and_then_assoc (referred a false h s) (λ t. each (referred a false) hs t) (λ t. fine (place_at a t)))

-- what the readings leave, by what they come to
pub read_back : (a : Here) (s : State) (o : Outcome State) → and_then o (λ t. fine (place_at a t)) ≡ fine (place_at a s) → o ≡ fine s
read_back a s (fine t) e = ap (λ (p : Outcome Place). and_then p (λ q. fine q.state)) e
read_back a s (refused number at) e = ap (λ (p : Outcome Place). and_then p (λ q. fine q.state)) e
