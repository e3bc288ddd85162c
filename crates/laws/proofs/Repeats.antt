-- The repeats part of the law about runs. Each pass of a repeat that changed something lost a record, and the root stays, so there are at
-- most as many passes as records; the last one changed nothing, so what it left counts what it found.
--
--   Run, from_run                        the passes of a repeat
--   repeats_law, bound_never_ends        the theorems
use Rattle.std.proofs.Common.{◌≡◌, ℕ, zero, suc, ◌<◌, ◌≤◌, Bool, true, false, [], ◌∷◌, length, sym, refl, ap, subst, arith}
use Rattle.std.proofs.lemmas.Bool.{both_ways, or_parts}
use Rattle.rules.specs.Tree.{Chain, Name, reached}
use Rattle.rules.specs.Tree.Chain.{end, link}
use Rattle.rules.specs.Grammar.{root}
use Rattle.rules.specs.Refusals.{Outcome}
use Rattle.rules.specs.Refusals.Outcome.{fine, refused}
use Rattle.rules.specs.Held.{Formed}
use Rattle.rules.specs.Counting.{events_of}
use Rattle.rules.specs.Removal.{Config, at_root}
use Rattle.rules.specs.Calls.{State, cleared, Pass, pass_by, remove, After, passed, pass_once, passes_from, reached_by, repeat_ended, Call, Answer, call_fitting, unfit_answer}
use Rattle.rules.specs.Calls.Call.{pass, reset, repeat}
use Rattle.rules.specs.Calls.Answer.{repeat_answer}
use Rattle.rules.specs.Calls.Repeated.{repeated, stopped}
use Rattle.laws.specs.Law.{begun_on, outcome_tree, Removable, Counted, RepeatKept}
use Rattle.laws.proofs.Parts.{RepeatsLaw}
use Rattle.laws.specs.RepeatsLaw.{BoundNeverEnds}
use Rattle.laws.proofs.KeepsReached.{lost_reached}
use Rattle.laws.proofs.RunsNumbered.{Numbered}
use Rattle.laws.proofs.Runs.{Ready, begun_ready, Full, pass_result, turn_cases, call_cases, result_follows, called_one}
use Rattle.laws.proofs.Runs.Result.{one_made}
use Rattle.laws.proofs.RepeatsUsed.{pass_used}

-- no removable function is left unused
abbrev Used : Config → Chain → Type 0
Used k left = (n : Name) → Removable k at_root n left → Counted n (events_of left)

-- passes with so many turns left: with more turns than records no refusal is told as 0, and completed they are few and thorough
record Run (k : Config) (s : State) (turns : ℕ) (a : After (Outcome Bool)) : Type 0 where
  numbered : reached_by s.tree < turns → Numbered a.answer
  bounded : (b : Bool) → a.answer ≡ fine b → length a.made ≤ reached_by s.tree
  used : (b : Bool) → a.answer ≡ fine b → Used k (outcome_tree a.state.tree)

-- a tree has its root
formed_reached : (c : Chain) → Formed root c → 1 ≤ reached c
formed_reached end f = absurd (both_ways false refl f)
formed_reached (link h cs rest) f = omega arith

module _ (k : Config) (s : State) (fresh : s.changed ≡ false) (r : Ready s.tree) (p : Pass) (e : s.tree ≡ fine p.found) (f : Full p) where
  ready_found : Ready (fine p.found)
  ready_found = subst Ready e r

  pub reached_found : reached_by s.tree ≡ reached p.found
  reached_found = ap reached_by e

  -- a pass that changed something has lost a record
  pub changed_lost : (passed k s p).changed ≡ true → reached (remove k p).chain < reached p.found
  changed_lost c = lost_reached (pass_by k p.filled) at_root root p.found ready_found
      (grind (arith, fresh, c))

  turns_on : (turns : ℕ) → (passed k s p).changed ≡ true
      → let next = passes_from k turns (cleared (passed k s p)) in Run k (cleared (passed k s p)) turns next
      → Run k s (suc turns) (record { answer = next.answer; state = next.state; made = p ∷ next.made })
  turns_on turns c i = record {
    numbered = λ l. i.numbered (omega (arith, changed_lost c, reached_found, l));
    bounded = λ b x. omega (arith, changed_lost c, reached_found, i.bounded b x);
    used = i.used;
  }

  turns_end : (turns : ℕ) → (passed k s p).changed ≡ false → Run k s (suc turns) (record { answer = fine (passed k s p).changed; state = passed k s p; made = p ∷ [] })
  turns_end turns c = record {
    numbered = λ _. tt;
    bounded = λ b x. omega (arith, formed_reached p.found ready_found, reached_found);
    used = λ b x. pass_used k p ready_found f (or_parts s.changed (remove k p).changed c).1;
  }

from_run : (k : Config) (turns : ℕ) (s : State) → s.changed ≡ false → Ready s.tree → Run k s turns (passes_from k turns s)
from_run k zero s fresh r = record { numbered = λ l. absurd (omega (arith, l)); bounded = λ b x. cc; used = λ b x. cc }
from_run k (suc turns) s fresh r =
    turn_cases k s (λ (a : After (Outcome Bool)). Run k s (suc turns) a) (passes_from k turns)
    (λ number at l n e. record { numbered = λ _. n; bounded = λ b x. cc; used = λ b x. cc })
    (λ p e f c. turns_on k s fresh r p e f turns c (from_run k turns (cleared (passed k s p)) refl (result_follows k s r _ (one_made p e f)).ready))
    (λ p e f c. turns_end k s fresh r p e f turns c)
    (pass_once k s) (pass_result k s r)

-- ANSWERS

-- how a repeat that was completed ended
ended_repeated : (o : Outcome Bool) (made first passes told : ℕ) → repeat_answer (repeat_ended o made first) ≡ repeat_answer (repeated passes told)
    → (b : Bool) × (o ≡ fine b) × (made ≡ passes) × (first ≡ told)
ended_repeated (fine b) made first passes told e = (b, refl, cc, cc)
ended_repeated (refused number at) made first passes told e = cc

-- how a repeat that was refused ended
ended_stopped : (o : Outcome Bool) (made first at passes : ℕ) → Numbered o → repeat_answer (repeat_ended o made first) ≡ repeat_answer (stopped 0 at passes) → ⊥
ended_stopped (fine b) made first at passes n e = cc
ended_stopped (refused number m) made first at passes n e = let z : number ≡ 0 = cc in omega (arith, n, z)

fitting_kept : (k : Config) (c : Call) (s : State) → Ready s.tree → (passes first : ℕ)
    → (call_fitting k c s).answer ≡ repeat_answer (repeated passes first) → RepeatKept k passes first (outcome_tree (call_fitting k c s).state.tree)
fitting_kept k pass s r passes first e = cc
fitting_kept k reset s r passes first e = cc
fitting_kept k repeat s r passes first e =
    let all = passes_from k (suc (reached_by s.tree)) (cleared s) in
    let i = from_run k (suc (reached_by s.tree)) (cleared s) refl r in
    let t = ended_repeated all.answer (length all.made) (reached_by s.tree) passes first e in
    record { bounded = omega (arith, i.bounded t.0 t.1, t.2, t.3); used = i.used t.0 t.1 }

unfit_kept : (k : Config) (c : Call) (s : State) (passes first : ℕ) → unfit_answer c ≡ repeat_answer (repeated passes first) → RepeatKept k passes first (outcome_tree s.tree)
unfit_kept k pass s passes first e = cc
unfit_kept k reset s passes first e = cc
unfit_kept k repeat s passes first e = cc

pub repeats_law : RepeatsLaw
repeats_law k cs words a x passes first =
    let t = called_one k cs (begun_on words) (begun_ready words) a x in
    let P = λ (a : After Answer). a.answer ≡ repeat_answer (repeated passes first) → RepeatKept k passes first (outcome_tree a.state.tree) in
    subst P (sym t.1.2) (call_cases k t.0 t.1.0 P (fitting_kept k t.0 t.1.0 t.1.1 passes first) (unfit_kept k t.0 t.1.0 passes first))

fitting_ends : (k : Config) (c : Call) (s : State) → Ready s.tree → (at passes : ℕ) → (call_fitting k c s).answer ≡ repeat_answer (stopped 0 at passes) → ⊥
fitting_ends k pass s r at passes e = cc
fitting_ends k reset s r at passes e = cc
fitting_ends k repeat s r at passes e =
    let all = passes_from k (suc (reached_by s.tree)) (cleared s) in
    let i = from_run k (suc (reached_by s.tree)) (cleared s) refl r in
    ended_stopped all.answer (length all.made) (reached_by s.tree) at passes (i.numbered (omega arith)) e

unfit_ends : (c : Call) (at passes : ℕ) → unfit_answer c ≡ repeat_answer (stopped 0 at passes) → ⊥
unfit_ends pass at passes e = cc
unfit_ends reset at passes e = cc
unfit_ends repeat at passes e = cc

pub bound_never_ends : BoundNeverEnds
bound_never_ends k cs words a x at passes =
    let t = called_one k cs (begun_on words) (begun_ready words) a x in
    let P = λ (a : After Answer). a.answer ≡ repeat_answer (stopped 0 at passes) → ⊥ in
    subst P (sym t.1.2) (call_cases k t.0 t.1.0 P (fitting_ends k t.0 t.1.0 t.1.1 at passes) (unfit_ends t.0 at passes))
