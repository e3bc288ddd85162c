use Rattle.std.proofs.Common.{arith, rules}
use Rattle.tables.proofs.Cutting.{rows_short, rows_ended, rows_split}
use Rattle.tables.proofs.rows.RowsIterator.next.Goals as goal

pub returns-in_err-row-clause-steps : goal.returns-in_err-row-clause-steps
returns-in_err-row-clause-steps g c =
    let none = rows_short g.R.Row.WIDTH c.args.self.now.left.now (omega (arith, c.in_err-row.ensures.cases)) in search rules

pub returns-then-row-eq0-clause-steps : goal.returns-then-row-eq0-clause-steps
returns-then-row-eq0-clause-steps g c =
    rows_ended g.R.Row.WIDTH _ _ _ g.met.R.Row.some c.WIDTH.ensures c.in_ok-row.ensures.cases.1 c.if-row-eq0.true

pub returns-clause-steps : goal.returns-clause-steps
returns-clause-steps g c =
    let split = c.in_ok-row.ensures.cases in
    rows_split g.R.Row.WIDTH _ _ _ g.met.R.Row.some c.WIDTH.ensures split.1 _ split.0 c.if-row-eq0.false split.2

pub returns-clause-goes : goal.returns-clause-goes
returns-clause-goes g c =
    let split = c.in_ok-row.ensures.cases in
    let one = rows_split g.R.Row.WIDTH _ _ _ g.met.R.Row.some c.WIDTH.ensures split.1 _ split.0 c.if-row-eq0.false split.2 in
    search rules
