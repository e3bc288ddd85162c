-- None of the symbols already seen is the one looked for.
use Rattle.std.proofs.Common.{◌≡◌, ℕ, ◌<◌, false, eqb, get_or}
use Rattle.verdicts.proofs.basis.retained.Given as goal

abbrev pub invariant-loop-kept : goal.invariant-loop-kept
invariant-loop-kept l = (k : ℕ) → k < l.kept-index → eqb l.symbol (get_or l.retain k 0) ≡ false
