-- A list of calls, call by call: after each one the state is the definition's, and in the end the answers are.
--
--   after          the state after so many calls
--   Running        the loop over the calls
use Rattle.std.proofs.Common.{◌≡◌, ℕ, zero, suc, ◌+◌, ◌<◌, Bool, List, [], ◌∷◌, map, length, get_or, set, take, refl, ap, sym, ◌∙◌, ⊎_elim, arith, length-set}
use Rattle.std.proofs.lemmas.Bool.{cases_eq}
use Rattle.std.proofs.lemmas.List.{get_or-set_same, get_or-set_other}
use Rattle.rules.specs.Tree.{Chain}
use Rattle.rules.specs.Removal.{Config}
use Rattle.rules.specs.Calls.{State, call, calls, final}
use Rattle.dce.specs.Calls.{config_by, state}
use Rattle.dce.specs.Running.{call_of, answer_of}
use Rattle.dce.specs.declared.runs.Call.{Call}
use Rattle.dce.specs.declared.runs.Answer.{Answer}
use Rattle.dce.specs.declared.tree_shaker.TreeShaker.{TreeShaker}

-- what stands at a place is the same whatever stands past the end
pub same_at : (xs : List Call) (n : ℕ) (z w : Call) → n < length xs → get_or xs n z ≡ get_or xs n w
same_at [] n z w h = absurd (omega (arith, h))
same_at (x ∷ xs) zero z w h = refl
same_at (x ∷ xs) (suc n) z w h = same_at xs n z w (omega (arith, h))

-- the state after so many calls
abbrev pub after : Config → List Call → State → ℕ → State
after k cs s n = final k (map call_of (take n cs)) s

-- and after one more
pub after_next : (k : Config) (cs : List Call) (s : State) (n : ℕ) (d : Call) → n < length cs
    → after k cs s (suc n) ≡ (call k (call_of (get_or cs n d)) (after k cs s n)).state
after_next k [] s n d h = absurd (omega (arith, h))
after_next k (c ∷ cs) s zero d h = refl
after_next k (c ∷ cs) s (suc n) d h = after_next k cs (call k (call_of c) s).state n d (omega (arith, h))

-- answers, each that of its call, are those of the list
pub all_answered : (k : Config) (cs : List Call) (s : State) (xs : List Answer) (a : Answer) (d : Call) → length xs ≡ length cs
    → ((n : ℕ) → n < length cs → answer_of (get_or xs n a) ≡ (call k (call_of (get_or cs n d)) (after k cs s n)).answer)
    → map answer_of xs ≡ map (λ one. one.answer) (calls k (map call_of cs) s)
all_answered k [] s [] a d long each = refl
all_answered k [] s (x ∷ xs) a d long each = cc
all_answered k (c ∷ cs) s [] a d long each = cc
all_answered k (c ∷ cs) s (x ∷ xs) a d long each =
    ap (λ y. y ∷ map answer_of xs) (each zero (omega arith))
    ∙ ap (λ ys. (call k (call_of c) s).answer ∷ ys)
    (all_answered k cs (call k (call_of c) s).state xs a d (omega (arith, long)) (λ n h. each (suc n) (omega (arith, h))))

-- the loop over the calls: the state, the answers so far, and that settings and judge stay
pub record Running {J : Type 0} (acts : J → Chain → Bool) (k : Config) (cs : List Call) (s : State) (n : ℕ) (now : TreeShaker J) (tree declared names edges retain : List ℕ) (answers : List Answer) : Type 0 where
  pub state : state tree declared names edges now ≡ after k cs s n
  pub answered : (j : ℕ) → j < n → (a : Answer) (d : Call) → answer_of (get_or answers j a) ≡ (call k (call_of (get_or cs j d)) (after k cs s j)).answer
  pub many : length answers ≡ length cs
  pub config : config_by acts now retain ≡ k

-- one more call
pub runs_on : {J : Type 0} (acts : J → Chain → Bool) (k : Config) (cs : List Call) (s : State) (n : ℕ) (now next : TreeShaker J) (t d m e t' d' m' e' retain : List ℕ) (answers : List Answer)
    → (c : Call) (r : Answer) → Running acts k cs s n now t d m e retain answers → n < length cs → ((z : Call) → get_or cs n z ≡ c)
    → (call (config_by acts now retain) (call_of c) (state t d m e now)).answer ≡ answer_of r
    → state t' d' m' e' next ≡ (call (config_by acts now retain) (call_of c) (state t d m e now)).state
    → config_by acts next retain ≡ config_by acts now retain
    → Running acts k cs s (n + 1) next t' d' m' e' retain (set answers n r)
runs_on acts k cs s n now next t d m e t' d' m' e' retain answers c r run h is told left same = record {
  state = left
      ∙ (λ i. (call (run.config i) (call_of c) (run.state i)).state)
      ∙ ap (λ x. (call k (call_of x) (after k cs s n)).state) (sym (is c))
      ∙ sym (after_next k cs s n c h)
      ∙ ap (λ (j : ℕ). after k cs s j) {x = suc n} {y = n + 1} (omega arith);
  answered = λ j low a z. answered_at j low a z;
  many = length-set answers n r ∙ run.many;
  config = same ∙ run.config;
}
  where
    answered_at : (j : ℕ) → j < n + 1 → (a : Answer) (z : Call) → answer_of (get_or (set answers n r) j a) ≡ (call k (call_of (get_or cs j z)) (after k cs s j)).answer
    answered_at j low a z =
        ⊎_elim
        (λ (e : j ≡ n).
        ap (λ (i : ℕ). answer_of (get_or (set answers n r) i a)) e
        ∙ ap answer_of (get_or-set_same answers n r a (omega (arith, h, run.many)))
        ∙ sym told
        ∙ (λ i. (call (run.config i) (call_of c) (run.state i)).answer)
        ∙ ap (λ x. (call k (call_of x) (after k cs s n)).answer) (sym (is z))
        ∙ ap (λ (i : ℕ). (call k (call_of (get_or cs i z)) (after k cs s i)).answer) (sym e))
        (λ (ne : j ≡ n → ⊥). ap answer_of (get_or-set_other answers n j r a ne) ∙ run.answered j (omega (arith, low, ne)) a z)
        (cases_eq j n)
