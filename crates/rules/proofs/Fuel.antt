-- The walk's fuel suffices. A record that is taken was not reached before, so one fewer is free after it;
-- any fuel not less than the number of free records gives the same walk. What remains are two laws
-- without fuel: `opened` at a record and `closed` at the end of a chain.
--
--   Placed, take_fine, placed_taken      what a record that is taken has passed
--   walk_induction                       what holds at the ends of chains and at each record holds of walks
--   walk_visits                          a walk adds the records of its chain
--   walk_same, opened, closed            the walk without its fuel
use Rattle.std.specs.Prelude.{if◌then◌else◌}
use Rattle.std.proofs.Common.{◌≡◌, ℕ, zero, suc, ◌≤◌, Bool, true, false, not, ◌||◌, eqb, ltb, List, ◌∷◌, sym, refl, ap, ◌∙◌, subst, arith}
use Rattle.std.proofs.lemmas.Bool.{eqb-true, eqb-false}
use Rattle.std.proofs.lemmas.Bool.Decides.{nat_tests}
use Rattle.rules.specs.Tree.Chain.{end, link}
use Rattle.rules.specs.Kinds.{member}
use Rattle.rules.specs.Grammar.{Way, words_fit, children_of, step, misplaced, may_end}
use Rattle.rules.specs.Refusals.{Outcome, and_then, bad_link, too_deep, bad_record}
use Rattle.rules.specs.Refusals.Outcome.{fine, refused}
use Rattle.rules.specs.Words.{records, head_at, first_child, next}
use Rattle.rules.specs.Check.{most_nesting, take, Read, stop, walk}
use Rattle.rules.specs.Walks.{full, Turned}
use Rattle.rules.proofs.Sizes.{free, free_most, free_mono, free_cons, visited, visited_keeps}

pub then_fine : {A B : Type 0} (o : Outcome A) (f : A → Outcome B) (b : B) → and_then o f ≡ fine b → (a : A) × (o ≡ fine a) × (f a ≡ fine b)
then_fine (fine a) f b e = (a, refl, e)
then_fine (refused number at) f b e = cc

then_same : {A B : Type 0} (o p : Outcome A) (f g : A → Outcome B) → o ≡ p → ((a : A) → o ≡ fine a → f a ≡ g a) → and_then o f ≡ and_then p g
then_same (fine a) p f g e h = h a refl ∙ ap (λ (x : Outcome _). and_then x g) e
then_same (refused number at) p f g e h = ap (λ (x : Outcome _). and_then x g) e

-- what the tests of `take` let through
pub record Placed (words : List ℕ) (n nesting : ℕ) (ways : List Way) (before : List ℕ) : Type 0 where
  pub within : n ≤ records words
  pub new : member n before ≡ false
  pub level : nesting ≤ most_nesting
  pub placed : misplaced (step (head_at words n).kind ways) ≡ false
  pub fit : words_fit (head_at words n) ≡ true

took : {A : Type 0} (b c d : Bool) (n : ℕ) (o p : A) →
    (if b then refused bad_link n else if c then refused too_deep n else if d then refused bad_record n else fine o) ≡ fine p →
    (b ≡ false) × (c ≡ false) × (d ≡ false) × (o ≡ p)
took true c d n o p e = cc
took false true d n o p e = cc
took false false true n o p e = cc
took false false false n o p e = (refl, refl, refl, cc)

pub take_fine : (words : List ℕ) (n nesting : ℕ) (ways : List Way) (before : List ℕ) (onward : List Way) →
    take words n nesting ways before ≡ fine onward → Placed words n nesting ways before × (step (head_at words n).kind ways ≡ onward)
take_fine words n nesting ways before onward e =
    let misfit = misplaced (step (head_at words n).kind ways) in
    let t = took (ltb (records words) n || member n before) (ltb most_nesting nesting) (misfit || not (words_fit (head_at words n))) n
    (step (head_at words n).kind ways) onward e in
    (record { within = grind (arith, nat_tests); new = grind arith; level = grind (arith, nat_tests); placed = grind arith; fit = grind arith }, t.3)

pub placed_taken : (words : List ℕ) (n nesting : ℕ) (ways : List Way) (before : List ℕ) → Placed words n nesting ways before →
    take words n nesting ways before ≡ fine (step (head_at words n).kind ways)
placed_taken words n nesting ways before p = grind (arith, nat_tests)

-- a turn of the walk, by the result of its test
abbrev turn : Bool → List ℕ → (left n nesting : ℕ) → List Way → (parent : ℕ) → (reached : List ℕ) → Outcome Read
turn b words left n nesting ways parent reached = elim b [
  | true ↦ stop ways parent reached
  | false ↦
      and_then (take words n nesting ways reached) (λ onward.
      and_then (walk words left (first_child words n) (suc nesting) (children_of (head_at words n)) n (n ∷ reached)) (λ below.
      and_then (walk words left (next words n) nesting onward parent below.reached) (λ rest.
      fine (record { chain = link (head_at words n) below.chain rest.chain; reached = rest.reached }))))
]

-- what is said of a walk that was fine: by its link, nesting and ways, and the records reached before
abbrev pub Said : Type 1
Said = (n nesting : ℕ) → List Way → (before : List ℕ) → Read → Type 0

-- it holds where a chain ends
abbrev pub AtEnd : Said → Type 0
AtEnd P = (n nesting : ℕ) (ways : List Way) (before : List ℕ) → n ≡ 0 → may_end ways ≡ true →
    P n nesting ways before (record { chain = end; reached = before })

-- it holds at a record if it holds of its two links
abbrev pub AtRecord : List ℕ → Said → Type 0
AtRecord words P = (n nesting : ℕ) (ways : List Way) (before : List ℕ) (below rest : Read) → 1 ≤ n → Placed words n nesting ways before →
    P (first_child words n) (suc nesting) (children_of (head_at words n)) (n ∷ before) below →
    P (next words n) nesting (step (head_at words n).kind ways) below.reached rest →
    P n nesting ways before (record { chain = link (head_at words n) below.chain rest.chain; reached = rest.reached })

-- it holds of every walk with this fuel
abbrev pub Walks : List ℕ → Said → ℕ → Type 0
Walks words P left = (n nesting : ℕ) (ways : List Way) (parent : ℕ) (before : List ℕ) (r : Read) →
    walk words left n nesting ways parent before ≡ fine r → P n nesting ways before r

stopped : (b : Bool) (before : List ℕ) (x y : ℕ) (r : Read) → (if b then fine (record { chain = end; reached = before }) else refused x y) ≡ fine r →
    (b ≡ true) × (◌≡◌ {A = Read} (record { chain = end; reached = before }) r)
stopped true before x y r e = (refl, cc)
stopped false before x y r e = cc

stop_has : (P : Said) → AtEnd P → (n nesting : ℕ) (ways : List Way) (parent : ℕ) (before : List ℕ) (r : Read) → n ≡ 0 →
    stop ways parent before ≡ fine r → P n nesting ways before r
stop_has P ends n nesting ways parent before r z e =
    let s = stopped (may_end ways) before bad_record parent r e in
    rw s.1 at (ends n nesting ways before z s.0)

none_has : (P : Said) → AtEnd P → (b : Bool) (n nesting : ℕ) (ways : List Way) (parent : ℕ) (before : List ℕ) (r : Read) → eqb n 0 ≡ b →
    (if b then stop ways parent before else refused bad_link n) ≡ fine r → P n nesting ways before r
none_has P ends true n nesting ways parent before r z e = stop_has P ends n nesting ways parent before r (eqb-true n 0 z) e
none_has P ends false n nesting ways parent before r z e = cc

turn_has : (words : List ℕ) (P : Said) → AtEnd P → AtRecord words P → (b : Bool) (left n nesting : ℕ) (ways : List Way) (parent : ℕ) (before : List ℕ) (r : Read) →
    eqb n 0 ≡ b → Walks words P left → turn b words left n nesting ways parent before ≡ fine r → P n nesting ways before r
turn_has words P ends goes true left n nesting ways parent before r z ih e = stop_has P ends n nesting ways parent before r (eqb-true n 0 z) e
turn_has words P ends goes false left n nesting ways parent before r z ih e =
    let p = then_fine (take words n nesting ways before) _ r e in
    let q = then_fine (walk words left (first_child words n) (suc nesting) (children_of (head_at words n)) n (n ∷ before)) _ r p.2 in
    let s = then_fine (walk words left (next words n) nesting p.0 parent q.0.reached) _ r q.2 in
    let t = take_fine words n nesting ways before p.0 p.1 in
    let is : ◌≡◌ {A = Read} (record { chain = link (head_at words n) q.0.chain s.0.chain; reached = s.0.reached }) r = cc s.2 in
    rw is at
    (goes n nesting ways before q.0 s.0 (omega (arith, eqb-false n 0 z)) t.0
    (ih (first_child words n) (suc nesting) (children_of (head_at words n)) n (n ∷ before) q.0 q.1)
    (subst (λ (w : List Way). P (next words n) nesting w q.0.reached s.0) (sym t.1)
    (ih (next words n) nesting p.0 parent q.0.reached s.0 s.1)))

pub walk_induction : (words : List ℕ) (P : Said) → AtEnd P → AtRecord words P → (left : ℕ) → Walks words P left
walk_induction words P ends goes zero n nesting ways parent before r e = none_has P ends (eqb n 0) n nesting ways parent before r refl e
walk_induction words P ends goes (suc left) n nesting ways parent before r e =
    turn_has words P ends goes (eqb n 0) left n nesting ways parent before r refl (walk_induction words P ends goes left) e

-- a walk adds the records of its chain
abbrev pub Visits : Said
Visits n nesting ways before r = r.reached ≡ visited r.chain before

pub walk_visits : (words : List ℕ) (left : ℕ) → Walks words Visits left
walk_visits words left = walk_induction words Visits
    (λ n nesting ways before z e. refl)
    (λ n nesting ways before below rest l p b a. a ∙ ap (visited rest.chain) b) left

-- fewer records are free after it
walk_frees : (words : List ℕ) (left n nesting : ℕ) (ways : List Way) (parent : ℕ) (before : List ℕ) (r : Read) →
    walk words left n nesting ways parent before ≡ fine r → free (records words) r.reached ≤ free (records words) before
walk_frees words left n nesting ways parent before r e =
    free_mono (records words) before r.reached
    (λ j m. rw (walk_visits words left n nesting ways parent before r e) (visited_keeps r.chain before j m))

-- where no record is free, none is taken
take_none : (words : List ℕ) (n nesting : ℕ) (ways : List Way) (before : List ℕ) → 1 ≤ n → free (records words) before ≤ 0 →
    take words n nesting ways before ≡ refused bad_link n
take_none words n nesting ways before l h = grind (arith, nat_tests, free_cons (records words) n before l)

-- two fuels give the same walks where both suffice
abbrev Same : List ℕ → ℕ → ℕ → Type 0
Same words f g = (n nesting : ℕ) (ways : List Way) (parent : ℕ) (before : List ℕ) → free (records words) before ≤ f → free (records words) before ≤ g →
    walk words f n nesting ways parent before ≡ walk words g n nesting ways parent before

none_same : (b : Bool) (words : List ℕ) (g n nesting : ℕ) (ways : List Way) (parent : ℕ) (before : List ℕ) → eqb n 0 ≡ b → free (records words) before ≤ 0 →
    (if b then stop ways parent before else refused bad_link n) ≡ turn b words g n nesting ways parent before
none_same true words g n nesting ways parent before e h = refl
none_same false words g n nesting ways parent before e h = rw (take_none words n nesting ways before (omega (arith, eqb-false n 0 e)) h)

turn_same : (b : Bool) (words : List ℕ) (f g n nesting : ℕ) (ways : List Way) (parent : ℕ) (before : List ℕ) → eqb n 0 ≡ b → Same words f g →
    free (records words) before ≤ suc f → free (records words) before ≤ suc g →
    turn b words f n nesting ways parent before ≡ turn b words g n nesting ways parent before
turn_same true words f g n nesting ways parent before z ih h i = refl
turn_same false words f g n nesting ways parent before z ih h i =
    let first = first_child words n in
    let kids = children_of (head_at words n) in
    then_same (take words n nesting ways before) (take words n nesting ways before) _ _ refl (λ onward t.
    let p = (take_fine words n nesting ways before onward t).0 in
    let l = free_cons (records words) n before (omega (arith, eqb-false n 0 z)) p.within p.new in
    then_same (walk words f first (suc nesting) kids n (n ∷ before)) (walk words g first (suc nesting) kids n (n ∷ before)) _ _
    (ih first (suc nesting) kids n (n ∷ before) (omega arith) (omega arith))
    (λ below e.
    let m = walk_frees words f first (suc nesting) kids n (n ∷ before) below e in
    then_same (walk words f (next words n) nesting onward parent below.reached) (walk words g (next words n) nesting onward parent below.reached) _ _
    (ih (next words n) nesting onward parent below.reached (omega arith) (omega arith))
    (λ rest q. refl)))

walk_same : (words : List ℕ) (f g : ℕ) → Same words f g
walk_same words zero zero n nesting ways parent before h i = refl
walk_same words zero (suc g) n nesting ways parent before h i = none_same (eqb n 0) words g n nesting ways parent before refl h
walk_same words (suc f) zero n nesting ways parent before h i = sym (none_same (eqb n 0) words f n nesting ways parent before refl i)
walk_same words (suc f) (suc g) n nesting ways parent before h i = turn_same (eqb n 0) words f g n nesting ways parent before refl (walk_same words f g) h i

pub opened : (words : List ℕ) (n nesting : ℕ) (ways : List Way) (parent : ℕ) (before : List ℕ) → eqb n 0 ≡ false →
    full words n nesting ways parent before ≡ Turned words n nesting ways parent before
unfolding full
opened words n nesting ways parent before z =
    let m = free_most (records words) before in
    walk_same words (records words) (suc (records words)) n nesting ways parent before m (omega arith)
    ∙ ap (λ (b : Bool). turn b words (records words) n nesting ways parent before) z

walk_stops : (words : List ℕ) (left n nesting : ℕ) (ways : List Way) (parent : ℕ) (before : List ℕ) → eqb n 0 ≡ true →
    walk words left n nesting ways parent before ≡ stop ways parent before
walk_stops words zero n nesting ways parent before z = rw z
walk_stops words (suc left) n nesting ways parent before z = ap (λ (b : Bool). turn b words left n nesting ways parent before) z

pub closed : (words : List ℕ) (n nesting : ℕ) (ways : List Way) (parent : ℕ) (before : List ℕ) → eqb n 0 ≡ true →
    full words n nesting ways parent before ≡ stop ways parent before
unfolding full
closed words n nesting ways parent before z = walk_stops words (records words) n nesting ways parent before z
