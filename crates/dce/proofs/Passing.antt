-- A completed pass: what it answers and leaves is the book's.
use Rattle.std.proofs.Common.{◌≡◌, ℕ, ◌*◌, ◌≤◌, Bool, ◌||◌, List, length, ap, sym, ◌∙◌, arith, rules}
use Rattle.rules.specs.Tree.{Chain, reached}
use Rattle.rules.specs.Refusals.Outcome.{fine}
use Rattle.rules.specs.Check.{check}
use Rattle.rules.specs.Held.{Tree}
use Rattle.rules.specs.Tables.{read_declared}
use Rattle.rules.specs.Rings.{discount}
use Rattle.rules.specs.Removal.{Config, By, at_root, going_by, treat}
use Rattle.rules.specs.Calls.{start, pass_once, pass_checked, pass_filled, pass_by}
use Rattle.rules.proofs.Sounds.{check_most}
use Rattle.rings.specs.Spending.{Subtracted}
use Rattle.dce.specs.Filling.{FilledTables}
use Rattle.dce.specs.Calls.{handed}
use Rattle.dce.specs.Discounting.{most_work}
use Rattle.dce.proofs.Discounting.{edges_left}

-- the work memory has two words for each record
pub few_records : (words : List ℕ) (tree : Chain) → check words ≡ fine tree → Tree words tree → 2 * reached tree ≤ most_work
few_records words tree is held =
    let most = check_most words tree is in
    let fits : length words ≤ 98304 = search (rules, held.fits) in
    omega (arith, most, fits)

module _ (k : Config) (t d n e : List ℕ) (ch : Bool) (tree : Chain) (checked : check t ≡ fine tree) (d' n' e' : List ℕ) (filled : FilledTables tree d n e d' n' e')
    (n'' : List ℕ) (less : Subtracted n' e' n'') where
  after : pass_once k (start (handed t d n e) ch) ≡ pass_filled k (start (handed t d n e) ch) tree (fine filled.filled)
  after = ap (pass_checked k (start (handed t d n e) ch)) checked ∙ ap (pass_filled k (start (handed t d n e) ch) tree) filled.is

  goes : By
  goes = going_by k (read_declared d') (discount filled.filled.counts)

  as_filled : goes ≡ pass_by k filled.filled
  unfolding goes
  as_filled = ap (λ ns. going_by k ns (discount filled.filled.counts)) filled.read

  pub pass_answer : (removed : Bool) → removed ≡ (treat (going_by k (read_declared d') (discount filled.filled.counts)) at_root tree).changed
      → (pass_once k (start (handed t d n e) ch)).answer ≡ fine (ch || removed)
  unfolding goes
  pass_answer removed told =
      ap (λ a. a.answer) after ∙ sym (ap (λ b. fine (ch || b)) (told ∙ ap (λ (b : By). (treat b at_root tree).changed) as_filled))

  pub pass_state : (t' : List ℕ) (removed : Bool) → removed ≡ (treat (going_by k (read_declared d') (discount filled.filled.counts)) at_root tree).changed
      → length t' ≡ length t → check t' ≡ fine (treat (going_by k (read_declared d') (discount filled.filled.counts)) at_root tree).chain
      → start (handed t' d' n'' e') (ch || removed) ≡ (pass_once k (start (handed t d n e) ch)).state
  unfolding goes
  pass_state t' removed told size left =
      let trees = left ∙ ap (λ (b : By). fine (treat b at_root tree).chain) as_filled in
      let names = less filled.filled.counts n e filled.counts in
      let edges = edges_left filled.filled.counts n e n' e' filled.counts in
      let changes = ap (λ b. ch || b) (told ∙ ap (λ (b : By). (treat b at_root tree).changed) as_filled) in
      (λ i. record { tree = trees i; size = size i; declared = filled.declared i; names = names i; edges = edges i; changed = changes i })
      ∙ sym (ap (λ a. a.state) after)
