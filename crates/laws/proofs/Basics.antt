-- Tests, choices, lists and folds as several pages need them.
--
--   or_swap, elim_both              tests and choices
--   swept_both, joined_both         a swept list, joined values
--   in_append, in_left, in_right    members of one list after another
--   only_if                         what is there only under a test
--   each_member, all_member         a fact on each kind of a list
--   Commutes, fold_swap             folds with steps that commute, whichever of two parts comes first
use Rattle.std.specs.Prelude.{if◌then◌else◌}
use Rattle.std.specs.List.{AllByRecursion, list_all, fold}
use Rattle.std.proofs.Common.{◌≡◌, ℕ, Bool, true, false, ◌&&◌, ◌||◌, ◌⊎◌, List, [], ◌∷◌, ◌++◌, sym, refl, ap, ◌∙◌, inr, arith}
use Rattle.std.proofs.lemmas.Bool.{cond_both}
use Rattle.std.proofs.lemmas.List.Elements.{All-from_recursion, All-contains}
use Rattle.std.proofs.lemmas.List.Folds.{fold_along}
use Rattle.std.proofs.lemmas.List.Sums.{AllPass-from_list_all}
use Rattle.std.proofs.lemmas.Map.Views.{Contains-from_any, exact_unsigned_eq}
use Rattle.rules.specs.Tree.{Head, Chain, ◌is◌, is_end, after}
use Rattle.rules.specs.Tree.Chain.{link, end}
use Rattle.rules.specs.Kinds.{empty_statement, block, plain_expression, member}
use Rattle.rules.specs.Removal.{swept, become, values, joined}
use Rattle.laws.specs.Law.{In}

-- TESTS AND CHOICES

pub or_swap : (a b c : Bool) → (a || (b || c)) ≡ (b || (a || c))
or_swap a b c = grind arith

-- a fact on one of two, by a test that is taken apart
pub elim_both : {A : Type 0} (P : A → Type 0) (b : Bool) (x y : A) → (b ≡ true → P x) → (b ≡ false → P y) → P (elim b [ true ↦ x | false ↦ y ])
elim_both P true x y f g = f refl
elim_both P false x y f g = g refl

-- a fact on a swept list, by whether its first record goes
pub swept_both : (P : Chain → Type 0) (h : Head) (cs rest : Chain) → ((h is empty_statement || (h is block && is_end cs)) ≡ true → P (swept rest)) →
    (P (link h cs (swept rest))) → P (swept (link h cs rest))
swept_both P h cs rest f g = cond_both (h is empty_statement || (h is block && is_end cs)) (swept rest) (link h cs (swept rest)) P f (λ _. g)

-- a fact on joined values, by whether they are one
pub joined_both : (P : Chain → Type 0) (d : Head) (parts rest : Chain) → let all = values (link d parts rest) in
    (is_end (after all) ≡ true → P all) → P (link (become plain_expression d) all end) → P (joined (link d parts rest))
joined_both P d parts rest f g =
    let all = values (link d parts rest) in
    cond_both (is_end (after all)) all (link (become plain_expression d) all end) P f (λ _. g)

-- LISTS

pub in_append : {A : Type 0} (x : A) (xs ys : List A) → In x (xs ++ ys) → In x xs ⊎ In x ys
in_append x [] ys h = inr h
in_append x (y ∷ xs) ys h = grind (arith, in_append x xs ys)

pub in_left : {A : Type 0} (x : A) (xs ys : List A) → In x xs → In x (xs ++ ys)
in_left x [] ys h = absurd h
in_left x (y ∷ xs) ys h = grind (arith, in_left x xs ys)

pub in_right : {A : Type 0} (x : A) (xs ys : List A) → In x ys → In x (xs ++ ys)
in_right x [] ys h = h
in_right x (y ∷ xs) ys h = inr (in_right x xs ys h)

-- what is there only under a test
pub only_if : {A : Type 0} (P : A → Type 0) (b : Bool) (x y : A) → (P y → ⊥) → P (if b then x else y) → (b ≡ true) × P x
only_if P true x y out h = (refl, h)
only_if P false x y out h = absurd (out h)

-- a fact on each number of a list
pub each_member : (P : ℕ → Type 0) (k : ℕ) (ks : List ℕ) → AllByRecursion P ks → member k ks ≡ true → P k
each_member P k ks all g = All-contains P ks k (All-from_recursion P ks all) (Contains-from_any exact_unsigned_eq k ks g)

-- a test of each
pub all_member : (test : ℕ → Bool) (k : ℕ) (ks : List ℕ) → list_all test ks ≡ true → member k ks ≡ true → test k ≡ true
all_member test k ks a m = All-contains (λ (j : ℕ). test j ≡ true) ks k (AllPass-from_list_all test ks a) (Contains-from_any exact_unsigned_eq k ks m)

-- FOLDS

-- two steps may be exchanged
abbrev pub Commutes : {E R : Type 0} → (R → E → R) → Type 0
Commutes {E} {R} f = (x y : E) (r : R) → f (f r y) x ≡ f (f r x) y

fold_past : {E R : Type 0} (f : R → E → R) → Commutes f → (x : E) (ys : List E) (r : R) → fold f (f r x) ys ≡ f (fold f r ys) x
fold_past {E} {R} f c x ys r = fold_along f f (λ (a b : R). a ≡ f b x) (λ a b y e. ap (λ (z : R). f z y) e ∙ c y x b) (f r x) r ys refl

pub fold_swap : {E R : Type 0} (f : R → E → R) → Commutes f → (xs ys : List E) (r : R) → fold f (fold f r ys) xs ≡ fold f (fold f r xs) ys
fold_swap {E} {R} f c xs ys r =
    fold_along f f (λ (a b : R). a ≡ fold f b ys) (λ a b x e. ap (λ (z : R). f z x) e ∙ sym (fold_past f c x ys b)) (fold f r ys) r xs refl
