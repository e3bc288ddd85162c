-- Whatever writes the rows that are left has written them all.
use Rattle.std.specs.Fmt.{HasWritten, IsPlainFormatter}
use Rattle.tables.specs.Walking.{rows_left}
use Rattle.answers.specs.Lines.{rows_text}
use Rattle.answers.proofs.rows.TableTextDisplay.fmt.Given as goal

abbrev pub invariant-loop-row : goal.invariant-loop-row
invariant-loop-row g l =
    IsPlainFormatter l.initial.f → IsPlainFormatter l.f
    × ((end : _) → HasWritten g.W.Write.write_str_gives l.f (rows_text (rows_left g.R.Row.WIDTH l.row-iterator)) end
    → HasWritten g.W.Write.write_str_gives l.initial.f (rows_text (rows_left g.R.Row.WIDTH l.initial.row-iterator)) end)
