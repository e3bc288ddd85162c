use Rattle.std.proofs.Common.{◌<◌, false, length, ◌∙◌, arith, false-eqb}
use Rattle.text.specs.Reader.{left}
use Rattle.text.proofs.Going.{goes_on_then, passed_on, line_on}
use Rattle.text.proofs.cases.Cases.due.Goals as goal

pub returns-then-is_empty-clause-on : goal.returns-then-is_empty-clause-on
returns-then-is_empty-clause-on c = passed_on false c.args.self.now c.pass_over.new.self c.pass_over.ensures

pub returns-clause-on : goal.returns-clause-on
returns-clause-on c =
    let some : 0 < length c.self.inside.rest.now = omega (arith, false-eqb _ 0 c.if-is_empty.ensures) in
    goes_on_then
    (passed_on false c.args.self.now (left c.self.inside.rest.now c.self.inside.line) (c.self.view_is ∙ c.pass_over.ensures))
    (line_on c.self.inside.rest.now c.cut.result.0.now c.cut.result.1.now c.self.inside.line (c.cut.ensures.splits some))
