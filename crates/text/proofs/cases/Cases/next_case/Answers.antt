use Rattle.std.proofs.Common.{◌<◌, true, length, Ok, Err, inl, inr, arith, false-eqb}
use Rattle.std.proofs.lemmas.Result.{err_from_is_err_and}
use Rattle.text.specs.Place.{said_of}
use Rattle.text.proofs.Going.{goes_on_then, passed_on}
use Rattle.text.proofs.Passing.{case_there}
use Rattle.text.proofs.Shrinking.{case_shorter}
use Rattle.text.proofs.cases.Cases.next_case.Goals as goal

pub returns-in_err-read_case-clause-finds : goal.returns-in_err-read_case-clause-finds
returns-in_err-read_case-clause-finds c =
    let some : 0 < length c.self.inside.rest.now = omega (arith, false-eqb _ 0 c.if-is_empty.ensures) in
    let p = err_from_is_err_and c.from_residual.result c.from_residual.ensures.1 in
    rw (p.1, p.2) (elim c.in_err-read_case.ensures.finds [
      | inl memory ↦ inl memory
      | inr is ↦ inr (
          case_there c.args.self.now c.pass_over.new.self c.self.inside.rest.now c.self.inside.line
          (Err c.in_err-read_case.field-0.0) c.pass_over.ensures c.self.view_is some is)
    ])

pub returns-clause-finds : goal.returns-clause-finds
returns-clause-finds c =
    let some : 0 < length c.self.inside.rest.now = omega (arith, false-eqb _ 0 c.if-is_empty.ensures) in
    case_there c.args.self.now c.pass_over.new.self c.self.inside.rest.now c.self.inside.line
    (Ok (said_of c.in_ok-read_case.field-0, c.read_case.new.self)) c.pass_over.ensures c.self.view_is some c.in_ok-read_case.ensures.finds

pub returns-clause-shorter : goal.returns-clause-shorter
returns-clause-shorter c = λ there.
    case_shorter c.args.self.now c.pass_over.new.self c.read_case.new.self (said_of c.in_ok-read_case.field-0) c.pass_over.ensures c.in_ok-read_case.ensures.finds

pub returns-then-is_empty-clause-on : goal.returns-then-is_empty-clause-on
returns-then-is_empty-clause-on c = passed_on true c.args.self.now c.pass_over.new.self c.pass_over.ensures

pub returns-in_err-read_case-clause-on : goal.returns-in_err-read_case-clause-on
returns-in_err-read_case-clause-on c =
    goes_on_then (passed_on true c.args.self.now c.pass_over.new.self c.pass_over.ensures) c.in_err-read_case.ensures.on

pub returns-clause-on : goal.returns-clause-on
returns-clause-on c =
    goes_on_then (passed_on true c.args.self.now c.pass_over.new.self c.pass_over.ensures) c.in_ok-read_case.ensures.on
