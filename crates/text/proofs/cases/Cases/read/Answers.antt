use Rattle.std.proofs.Common.{inr}
use Rattle.std.proofs.lemmas.Result.{err_from_is_err_and}
use Rattle.text.proofs.Passing.{line_missing, line_read}
use Rattle.text.proofs.cases.Cases.read.Goals as goal

pub returns-in_err-content-clause-finds : goal.returns-in_err-content-clause-finds
returns-in_err-content-clause-finds g c =
    let p = err_from_is_err_and c.from_residual.result c.from_residual.ensures.1 in
    rw (p.1, p.2) (inr (line_missing c.args.keyword g.T.FromLine.meaning c.args.self.now c.in_err-content.field-0.0 c.in_err-content.ensures.line))

pub returns-clause-finds : goal.returns-clause-finds
returns-clause-finds g c =
    rw c.here.ensures
    (line_read c.args.keyword g.T.FromLine.meaning g.T.FromLine.said c.args.self.now c.due.new.self c.in_ok-content.content.now
    c.from_line.result c.in_ok-content.ensures.line c.from_line.ensures)
