-- Runs: what is common to all that holds of every list of calls. A state is ready if its tree is refused by a numbered refusal, or formed
-- by the table of kinds; a shaker begun on any words is, and each pass leaves it so.
--
--   Later                         removals one after another
--   Ready, begun_ready            the trees of states
--   Result, pass_result           a pass was not made, or was made with its tables filled
--   turn, turn_cases              a repeat's turn, by the pass that begins it
--   call_cases                    a call
--   Made, Follows, calls_follow   a completed pass and a tree left later; what a list of calls leaves
--   called_one                    each answer of a list is that of a call on a ready state
use Rattle.std.proofs.Common.{◌≡◌, ℕ, zero, suc, ◌≤◌, Bool, true, false, List, [], ◌∷◌, ◌++◌, sym, refl, subst, ⊎_elim}
use Rattle.rules.specs.Tree.{Chain, Name}
use Rattle.rules.specs.Grammar.{root}
use Rattle.rules.specs.Refusals.{Outcome}
use Rattle.rules.specs.Refusals.Outcome.{fine, refused}
use Rattle.rules.specs.Check.{check}
use Rattle.rules.specs.Held.{Formed}
use Rattle.rules.specs.Tables.{Room, room, read_declared}
use Rattle.rules.specs.Removal.{Config, By, at_root, treat}
use Rattle.rules.specs.Calls.{State, Handed, handed_fit, cleared, filled_up, Filled, fill_tables, Pass, pass_by, remove, After, passed, pass_filled, pass_checked, pass_once, passes_from, reached_by, Call, Answer, call_fitting, unfit_answer, call, calls, final, passes_made}
use Rattle.rules.specs.Calls.Call.{pass, reset, repeat}
use Rattle.laws.specs.Law.{In, begun_on, outcome_tree}
use Rattle.rules.proofs.Sounds.{check_sound}
use Rattle.laws.proofs.Basics.{elim_both, in_append}
use Rattle.laws.proofs.KeepsFormed.{keeps_formed}
use Rattle.laws.proofs.TablesPass.{counts, fill_tables_counts}
use Rattle.laws.proofs.RunsNumbered.{Numbered, numbered_check, numbered_tables}

-- removals one after another, each by tables of its own
pub data Later : Chain → Chain → Type 0 where
  here : {c : Chain} → Later c c
  onward : (by : By) (c : Chain) {d : Chain} → Later (treat by at_root c).chain d → Later c d

pub later_then : {c d e : Chain} → Later c d → Later d e → Later c e
later_then here m = m
later_then (onward by c l) m = onward by c (later_then l m)

-- STATES

-- a tree that calls go on with
abbrev pub Ready : Outcome Chain → Type 0
Ready (fine c) = Formed root c
Ready (refused number at) = 1 ≤ number

pub begun_ready : (words : Handed) → Ready (begun_on words).tree
begun_ready words = by_outcome (check words.tree) refl
  where
    by_outcome : (o : Outcome Chain) → check words.tree ≡ o → Ready o
    by_outcome (fine c) e = (check_sound words.tree c e).formed
    by_outcome (refused number at) e = subst (λ (o : Outcome Chain). Numbered o) e (numbered_check words.tree)

-- a completed pass has filled its tables from the tree that it found
abbrev pub Full : Pass → Type 0
Full p = p.filled.counts ≡ counts p.found

-- a pass that was not made leaves the tree; one that was made leaves what its removal does
pub data Result (k : Config) (s : State) : After (Outcome Bool) → Type 0 where
  not_made : (number at : ℕ) (left : State) → 1 ≤ number → left.tree ≡ s.tree → Result k s (record { answer = refused number at; state = left; made = [] })
  one_made : (p : Pass) → s.tree ≡ fine p.found → Full p → Result k s (record { answer = fine (passed k s p).changed; state = passed k s p; made = p ∷ [] })

filled_result : (k : Config) (s : State) (tree : Chain) → s.tree ≡ fine tree → (space : Room) (held : List Name) (o : Outcome Filled) → fill_tables space tree held ≡ o → Result k s (pass_filled k s tree o)
filled_result k s tree e space held (refused number at) g = not_made number at (filled_up s) (subst (λ (o : Outcome Filled). Numbered o) g (numbered_tables space tree held)) refl
filled_result k s tree e space held (fine rows) g = one_made (record { found = tree; filled = rows }) e (fill_tables_counts space tree held rows g)

checked_result : (k : Config) (s : State) (o : Outcome Chain) → s.tree ≡ o → Ready o → Result k s (pass_checked k s o)
checked_result k s (refused number at) e r = not_made number at s r refl
checked_result k s (fine tree) e r =
    filled_result k s tree e (room s.declared s.names s.edges) (read_declared s.declared) (fill_tables (room s.declared s.names s.edges) tree (read_declared s.declared)) refl

pub pass_result : (k : Config) (s : State) → Ready s.tree → Result k s (pass_once k s)
pass_result k s r = checked_result k s s.tree refl r

-- TURNS

-- a repeat's turn, by the pass that begins it and the passes after it
abbrev pub turn : After (Outcome Bool) → (State → After (Outcome Bool)) → After (Outcome Bool)
turn one more = elim one.answer [
  | refused number at ↦ one
  | fine changed ↦ elim changed [
    | true ↦ (let next = more (cleared one.state) in
        record { answer = next.answer; state = next.state; made = one.made ++ next.made })
    | false ↦ one
  ]
]

-- a turn: no pass, a pass that changed something and what comes after it, or a pass that changed nothing
pub turn_cases : (k : Config) (s : State) (P : After (Outcome Bool) → Type 0) (more : State → After (Outcome Bool))
    → ((number at : ℕ) (left : State) → 1 ≤ number → left.tree ≡ s.tree → P (record { answer = refused number at; state = left; made = [] }))
    → ((p : Pass) → s.tree ≡ fine p.found → Full p → (passed k s p).changed ≡ true
    → let next = more (cleared (passed k s p)) in P (record { answer = next.answer; state = next.state; made = p ∷ next.made }))
    → ((p : Pass) → s.tree ≡ fine p.found → Full p → (passed k s p).changed ≡ false
    → P (record { answer = fine (passed k s p).changed; state = passed k s p; made = p ∷ [] }))
    → (one : After (Outcome Bool)) → Result k s one → P (turn one more)
turn_cases k s P more f g h one (not_made number at left n e) = f number at left n e
turn_cases k s P more f g h one (one_made p e full) =
    let next = more (cleared (passed k s p)) in
    elim_both P (passed k s p).changed (record { answer = next.answer; state = next.state; made = p ∷ next.made })
    (record { answer = fine (passed k s p).changed; state = passed k s p; made = p ∷ [] }) (g p e full) (h p e full)

-- CALLS

-- a call on words that fit, or one that leaves everything
pub call_cases : (k : Config) (c : Call) (s : State) (P : After Answer → Type 0) → P (call_fitting k c s) → P (record { answer = unfit_answer c; state = s; made = [] }) → P (call k c s)
call_cases k c s P f g = elim_both P (handed_fit k s) _ _ (λ _. f) (λ _. g)

-- WHAT FOLLOWS

-- a completed pass, and a tree left by it and by removals after it
pub record Made (k : Config) (p : Pass) (left : Chain) : Type 0 where
  pub formed : Formed root p.found
  pub full : Full p
  pub later : Later (remove k p).chain left

-- the tree left is ready, and comes after the one found and after each that a pass left
pub record Follows (k : Config) (s : State) (made : List Pass) (left : State) : Type 0 where
  pub ready : Ready left.tree
  pub on : Later (outcome_tree s.tree) (outcome_tree left.tree)
  pub after : (p : Pass) → In p made → Made k p (outcome_tree left.tree)

none_made : (k : Config) (s left : State) → Ready s.tree → left.tree ≡ s.tree → Follows k s [] left
none_made k s left r e = record {
  ready = subst Ready (sym e) r;
  on = subst (λ (o : Outcome Chain). Later (outcome_tree s.tree) (outcome_tree o)) (sym e) here;
  after = λ p x. absurd x;
}

pub result_follows : (k : Config) (s : State) → Ready s.tree → (one : After (Outcome Bool)) → Result k s one → Follows k s one.made one.state
result_follows k s r one (not_made number at left n e) = none_made k s left r e
result_follows k s r one (one_made p e f) =
    let q : Formed root p.found = subst Ready e r in
    record {
      ready = keeps_formed (pass_by k p.filled) p.found q;
      on = subst (λ (o : Outcome Chain). Later (outcome_tree o) (remove k p).chain) (sym e) (onward (pass_by k p.filled) p.found here);
      after = λ m x. ⊎_elim
          (λ y. subst (λ (j : Pass). Made k j (remove k p).chain) (sym y) (record { formed = q; full = f; later = here }))
          (λ y. absurd y) x;
    }

made_then : (k : Config) (p : Pass) (c d : Chain) → Made k p c → Later c d → Made k p d
made_then k p c d m l = record { formed = m.formed; full = m.full; later = later_then m.later l }

follows_then : (k : Config) (s t u : State) (ps qs : List Pass) → Follows k s ps t → Follows k t qs u → Follows k s (ps ++ qs) u
follows_then k s t u ps qs f g = record {
  ready = g.ready;
  on = later_then f.on g.on;
  after = λ p x. ⊎_elim (λ y. made_then k p (outcome_tree t.tree) (outcome_tree u.tree) (f.after p y) g.on) (g.after p) (in_append p ps qs x);
}

from_follows : (k : Config) (left : ℕ) (s : State) → Ready s.tree → Follows k s (passes_from k left s).made (passes_from k left s).state
from_follows k zero s r = none_made k s s r refl
from_follows k (suc left) s r =
    turn_cases k s (λ (a : After (Outcome Bool)). Follows k s a.made a.state) (passes_from k left)
    (λ number at l n e. none_made k s l r e)
    (λ p e f c.
    let next = cleared (passed k s p) in
    let g = result_follows k s r _ (one_made p e f) in
    follows_then k s next (passes_from k left next).state (p ∷ []) (passes_from k left next).made
    (record { ready = g.ready; on = g.on; after = g.after }) (from_follows k left next g.ready))
    (λ p e f c. result_follows k s r _ (one_made p e f))
    (pass_once k s) (pass_result k s r)

fitting_follows : (k : Config) (c : Call) (s : State) → Ready s.tree → Follows k s (call_fitting k c s).made (call_fitting k c s).state
fitting_follows k pass s r = result_follows k s r (pass_once k s) (pass_result k s r)
fitting_follows k reset s r = none_made k s (cleared s) r refl
fitting_follows k repeat s r = let f = from_follows k (suc (reached_by s.tree)) (cleared s) r in record { ready = f.ready; on = f.on; after = f.after }

call_follows : (k : Config) (c : Call) (s : State) → Ready s.tree → Follows k s (call k c s).made (call k c s).state
call_follows k c s r = call_cases k c s (λ (a : After Answer). Follows k s a.made a.state) (fitting_follows k c s r) (none_made k s s r refl)

pub calls_follow : (k : Config) (cs : List Call) (s : State) → Ready s.tree → Follows k s (passes_made (calls k cs s)) (final k cs s)
calls_follow k [] s r = none_made k s s r refl
calls_follow k (c ∷ cs) s r =
    let one = call k c s in
    let f = call_follows k c s r in
    follows_then k s one.state (final k cs one.state) one.made (passes_made (calls k cs one.state)) f (calls_follow k cs one.state f.ready)

-- each answer of a list is that of a call on a ready state
pub called_one : (k : Config) (cs : List Call) (s : State) → Ready s.tree → (a : After Answer) → In a (calls k cs s)
    → (c : Call) × ((before : State) × Ready before.tree × (a ≡ call k c before))
called_one k [] s r a x = absurd x
called_one k (c ∷ cs) s r a x = ⊎_elim (λ e. (c, (s, r, e))) (λ y. called_one k cs (call k c s).state (call_follows k c s r).ready a y) x
