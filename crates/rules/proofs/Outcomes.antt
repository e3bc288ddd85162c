-- Outcomes that go on, and two outcomes side by side.
--
--   and_then_assoc, and_then_fine      to go on twice is to go on once; to go on with the result itself is to stay
--   and_then_alike                     what goes on alike ends alike
--   Alike, then_alike                  results that are related, or one refusal; so they stay where both go on
--   then_alike_within, alike_then      where more follows on the left; where the right alone goes on
use Rattle.std.proofs.Common.{◌≡◌, sym, refl, subst}
use Rattle.rules.specs.Refusals.{Outcome, and_then}
use Rattle.rules.specs.Refusals.Outcome.{fine, refused}

pub and_then_assoc : {A B C : Type 0} (o : Outcome A) (f : A → Outcome B) (g : B → Outcome C) → and_then (and_then o f) g ≡ and_then o (λ a. and_then (f a) g)
and_then_assoc (fine a) f g = refl
and_then_assoc (refused number at) f g = refl

pub and_then_fine : {A : Type 0} (o : Outcome A) → and_then o (λ a. fine a) ≡ o
and_then_fine (fine a) = refl
and_then_fine (refused number at) = refl

-- what goes on alike ends alike
pub and_then_alike : {A B : Type 0} (o : Outcome A) (f g : A → Outcome B) → ((a : A) → f a ≡ g a) → and_then o f ≡ and_then o g
and_then_alike (fine a) f g same = same a
and_then_alike (refused number at) f g same = refl

-- results that are related, or one refusal
abbrev pub Alike : {A B : Type 0} → (A → B → Type 0) → Outcome A → Outcome B → Type 0
Alike R (fine a) (fine b) = R a b
Alike R (refused n a) (refused m b) = (n ≡ m) × (a ≡ b)
Alike R (fine a) (refused m b) = ⊥
Alike R (refused n a) (fine b) = ⊥

pub then_alike : {A B C D : Type 0} (R : A → B → Type 0) (S : C → D → Type 0) (o : Outcome A) (o' : Outcome B) (f : A → Outcome C) (g : B → Outcome D)
    → Alike R o o' → ((a : A) (b : B) → R a b → Alike S (f a) (g b)) → Alike S (and_then o f) (and_then o' g)
then_alike R S (fine a) (fine b) f g h k = k a b h
then_alike R S (refused n a) (refused m b) f g h k = h
then_alike R S (fine a) (refused m b) f g h k = absurd h
then_alike R S (refused n a) (fine b) f g h k = absurd h

-- the same where more follows on the left
pub then_alike_within : {A B C D E : Type 0} (R : A → B → Type 0) (S : C → D → Type 0) (o : Outcome A) (o' : Outcome B) (f : A → Outcome E) (f' : E → Outcome C) (g : B → Outcome D)
    → Alike R o o' → ((a : A) (b : B) → R a b → Alike S (and_then (f a) f') (g b)) → Alike S (and_then (and_then o f) f') (and_then o' g)
then_alike_within R S o o' f f' g h k =
    subst (λ p. Alike S p (and_then o' g)) (sym (and_then_assoc o f f')) (then_alike R S o o' (λ a. and_then (f a) f') g h k)

-- the same where only the right goes on
pub alike_then : {A B D : Type 0} (R : A → B → Type 0) (S : A → D → Type 0) (o : Outcome A) (o' : Outcome B) (g : B → D)
    → Alike R o o' → ((a : A) (b : B) → R a b → S a (g b)) → Alike S o (and_then o' (λ b. fine (g b)))
alike_then R S o o' g h k =
    subst (λ p. Alike S p (and_then o' (λ b. fine (g b)))) (and_then_fine o) (then_alike R S o o' (λ a. fine a) (λ b. fine (g b)) h k)
