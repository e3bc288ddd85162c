-- Runs from twins: call by call both states tell the same, so the answers do, and each loses what the other loses.
--
--   turn_even, passes_even         passes until one changes nothing
--   Called, call_even              a call
--   calls_even, final_even         a list of calls
--   start_even                     shakers begun alike on trees that differ only in the order of items
--   order_law                      the law
use Rattle.std.proofs.Common.{◌≡◌, ℕ, zero, suc, ◌+◌, Bool, true, false, List, [], ◌∷◌, length, sym, refl, ap, ◌∙◌, subst, ap₂, subst₂}
use Rattle.std.proofs.lemmas.Bool.{true≢false, false≢true}
use Rattle.std.proofs.lemmas.List.{length-append}
use Rattle.rules.specs.Tree.{Chain}
use Rattle.rules.specs.Refusals.{Outcome}
use Rattle.rules.specs.Refusals.Outcome.{fine, refused}
use Rattle.rules.specs.Tables.{declared_width, names_width, edges_width, read_declared}
use Rattle.rules.specs.Judges.{Lawful}
use Rattle.rules.specs.Removal.{Config}
use Rattle.rules.specs.Calls.{State, Handed, handed_fit, zeroed, cleared, Pass, After, pass_once, passes_from, reached_by, repeat_ended, Call, Answer, call_fitting, unfit_answer, call, calls, final}
use Rattle.rules.specs.Calls.Call.{pass, reset, repeat}
use Rattle.rules.specs.Calls.Answer.{pass_answer, repeat_answer}
use Rattle.laws.specs.Law.{begun_on, outcome_tree, Reordered, BegunAlike, told, Telling, tellings, SameLost}
use Rattle.laws.proofs.Parts.{OrderLaw}
use Rattle.laws.proofs.Runs.{turn}
use Rattle.laws.proofs.OrderCount.{reached_turned}
use Rattle.laws.proofs.OrderWords.{declared_read_back}
use Rattle.laws.proofs.OrderTwins.{Twins, reordered_twins}
use Rattle.laws.proofs.AlikeFilling.{HeldAlike}
use Rattle.laws.proofs.AlikeStates.{tree, Even, zeroed_sizes, handed_even, cleared_even, Both, Ran, pass_even}

-- calls that go alike from two trees
pub record Called (c d : Chain) (x y : After Answer) : Type 0 where
  pub answer : told x.answer ≡ told y.answer
  pub made : length x.made ≡ length y.made
  pub lost : SameLost c d (tree x.state) (tree y.state)
  pub even : Even x.state y.state

pass_told : (a b : Outcome Bool) → Both a b → told (pass_answer a) ≡ told (pass_answer b)
pass_told (fine a) (fine b) p = ap (λ (x : Bool). told (pass_answer (fine x))) p
pass_told (fine a) (refused number at) p = absurd p
pass_told (refused number at) (fine b) p = absurd p
pass_told (refused number at) (refused number' at') p = refl

repeat_told : (a b : Outcome Bool) (m n first first' : ℕ) → Both a b → m ≡ n → first ≡ first' → told (repeat_answer (repeat_ended a m first)) ≡ told (repeat_answer (repeat_ended b n first'))
repeat_told (fine a) (fine b) m n first first' p q r = ap₂ (λ (x y : ℕ). told (repeat_answer (repeat_ended (fine a) x y))) q r
repeat_told (fine a) (refused number at) m n first first' p q r = absurd p
repeat_told (refused number at) (fine b) m n first first' p q r = absurd p
repeat_told (refused number at) (refused number' at') m n first first' p q r = refl

-- one of two, by tests that agree
choose : {A : Type 0} (R : A → A → Type 0) (b : Bool) {b' : Bool} → b ≡ b' → (x y x' y' : A) → R x x' → R y y' → R (elim b [ true ↦ x | false ↦ y ]) (elim b' [ true ↦ x' | false ↦ y' ])
choose R b q x y x' y' r s = subst (λ (z : Bool). R (elim b [ true ↦ x | false ↦ y ]) (elim z [ true ↦ x' | false ↦ y' ])) q
    (elim b as (λ z. R (elim z [ true ↦ x | false ↦ y ]) (elim z [ true ↦ x' | false ↦ y' ])) [ true ↦ r | false ↦ s ])

module _ (k : Config) (lawful : Lawful k.acts) where
  -- the passes of a repeat, with this many left, go alike
  abbrev Going : ℕ → Type 0
  Going left = (s u : State) → Even s u → Ran (tree s) (tree u) (passes_from k left s) (passes_from k left u)

  turn_even : (left : ℕ) → Going left → (c d : Chain) (a b : Outcome Bool) (s u : State) (made made' : List Pass) → Both a b → length made ≡ length made' → SameLost c d (tree s) (tree u) → Even s u
      → Ran c d (turn (record { answer = a; state = s; made = made }) (passes_from k left)) (turn (record { answer = b; state = u; made = made' }) (passes_from k left))
  turn_even left go c d (refused number at) (refused number' at') s u made made' p q lost e = record { answer = tt; made = q; lost = lost; even = e }
  turn_even left go c d (refused number at) (fine b) s u made made' p q lost e = absurd p
  turn_even left go c d (fine a) (refused number at) s u made made' p q lost e = absurd p
  turn_even left go c d (fine true) (fine false) s u made made' p q lost e = absurd (true≢false p)
  turn_even left go c d (fine false) (fine true) s u made made' p q lost e = absurd (false≢true p)
  turn_even left go c d (fine false) (fine false) s u made made' p q lost e = record { answer = refl; made = q; lost = lost; even = e }
  turn_even left go c d (fine true) (fine true) s u made made' p q lost e =
      let r = go (cleared s) (cleared u) (cleared_even s u e) in
      let more = (passes_from k left (cleared s)).made in
      let more' = (passes_from k left (cleared u)).made in
      record {
        answer = r.answer;
        made = length-append made more ∙ (ap₂ ◌+◌ q r.made ∙ sym (length-append made' more'));
        lost = λ a b z. r.lost a b (lost a b z);
        even = r.even;
      }

  passes_even : (left : ℕ) → Going left
  passes_even zero s u e = record { answer = tt; made = refl; lost = λ _ _ z. z; even = e }
  passes_even (suc left) s u e =
      let one = pass_once k s in
      let one' = pass_once k u in
      let r = pass_even k lawful s u e in
      turn_even left (passes_even left) (tree s) (tree u) one.answer one'.answer one.state one'.state one.made one'.made r.answer r.made r.lost r.even

  first_even : (s u : State) → Even s u → reached_by s.tree ≡ reached_by u.tree
  first_even s u e = ap reached_by e.found ∙ (reached_turned e.twins.turned ∙ sym (ap reached_by e.found_too))

  fitting_even : (c : Call) (s u : State) → Even s u → Called (tree s) (tree u) (call_fitting k c s) (call_fitting k c u)
  fitting_even pass s u e = let r = pass_even k lawful s u e in
      record { answer = pass_told (pass_once k s).answer (pass_once k u).answer r.answer; made = r.made; lost = r.lost; even = r.even }
  fitting_even reset s u e = record { answer = refl; made = refl; lost = λ _ _ z. z; even = cleared_even s u e }
  fitting_even repeat s u e =
      let first = reached_by s.tree in
      let q = first_even s u e in
      let r : Ran (tree s) (tree u) (passes_from k (suc first) (cleared s)) (passes_from k (suc (reached_by u.tree)) (cleared u))
      = subst (λ (n : ℕ). Ran (tree s) (tree u) (passes_from k (suc first) (cleared s)) (passes_from k (suc n) (cleared u))) q (passes_even (suc first) (cleared s) (cleared u) (cleared_even s u e)) in
      record {
        answer = repeat_told (passes_from k (suc first) (cleared s)).answer (passes_from k (suc (reached_by u.tree)) (cleared u)).answer _ _ first (reached_by u.tree) r.answer r.made q;
        made = r.made;
        lost = r.lost;
        even = r.even;
      }

  unfit_even : (c : Call) (s u : State) → Even s u → Called (tree s) (tree u) (record { answer = unfit_answer c; state = s; made = [] }) (record { answer = unfit_answer c; state = u; made = [] })
  unfit_even c s u e = record { answer = refl; made = refl; lost = λ _ _ z. z; even = e }

  call_even : (c : Call) (s u : State) → Even s u → Called (tree s) (tree u) (call k c s) (call k c u)
  call_even c s u e = choose (Called (tree s) (tree u)) (handed_fit k s) (handed_even k s u e) _ _ _ _ (fitting_even c s u e) (unfit_even c s u e)

  calls_even : (cs : List Call) (s u : State) → Even s u → tellings (calls k cs s) ≡ tellings (calls k cs u)
  calls_even [] s u e = refl
  calls_even (c ∷ cs) s u e =
      let r = call_even c s u e in
      let first : ◌≡◌ {A = Telling} (record { answer = told (call k c s).answer; passes = length (call k c s).made }) (record { answer = told (call k c u).answer; passes = length (call k c u).made })
      = λ i. record { answer = r.answer i; passes = r.made i } in
      ap₂ {C = List Telling} (λ t ts. t ∷ ts) first (calls_even cs (call k c s).state (call k c u).state r.even)

  final_even : (cs : List Call) (s u : State) → Even s u → SameLost (tree s) (tree u) (tree (final k cs s)) (tree (final k cs u))
  final_even [] s u e = λ _ _ z. z
  final_even (c ∷ cs) s u e = let r = call_even c s u e in λ a b z. final_even cs (call k c s).state (call k c u).state r.even a b (r.lost a b z)

-- a table begun holds no declared name
begun_holds : (words : List ℕ) → read_declared (zeroed declared_width words) ≡ []
begun_holds words = declared_read_back [] words tt

start_even : (words others : Handed) (c d : Chain) → BegunAlike words others → Reordered words.tree others.tree c d → Even (begun_on words) (begun_on others)
start_even words others c d b r =
    let p = ap outcome_tree r.one in
    let q = ap outcome_tree r.other in
    record {
      found = r.one ∙ ap (λ (x : Chain). fine x) (sym p);
      found_too = r.other ∙ ap (λ (x : Chain). fine x) (sym q);
      twins = subst₂ Twins (sym p) (sym q) (reordered_twins words.tree others.tree c d r);
      size = b.tree;
      declared = zeroed_sizes declared_width words.declared others.declared b.declared;
      names = zeroed_sizes names_width words.names others.names b.names;
      edges = zeroed_sizes edges_width words.edges others.edges b.edges;
      holds = subst₂ HeldAlike (sym (begun_holds words.declared)) (sym (begun_holds others.declared)) (record { names = λ _. refl; sizes = refl });
      changed = refl;
    }

pub order_law : OrderLaw
order_law k lawful cs words others c d b r =
    let s = begun_on words in
    let u = begun_on others in
    let e = start_even words others c d b r in
    record {
      answers = calls_even k lawful cs s u e;
      lost = subst₂ (λ (x y : Chain). SameLost x y (tree (final k cs s)) (tree (final k cs u))) (ap outcome_tree r.one) (ap outcome_tree r.other) (final_even k lawful cs s u e);
    }
