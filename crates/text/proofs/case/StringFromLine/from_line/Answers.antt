use Rattle.std.proofs.Common.{Ok, sym, ap, ◌∙◌, inr, arith, false-eqb}
use Rattle.std.proofs.lemmas.Str.{IsUtf8-from_ascii}
use Rattle.text.proofs.Names.{name_good, name_not_text}
use Rattle.text.proofs.case.StringFromLine.from_line.Goals as goal
use Rattle.text.proofs.case.StringFromLine.from_line.Goals.{in_default-via-in-Ok+else-is_ascii, in_default-via-in_default}

pub returns-in_ok-from_str-in-Ok : goal.returns-in_ok-from_str-in-Ok
returns-in_ok-from_str-in-Ok c =
    let plain = rw c.in-Ok.ensures.cases.0 at c.if-is_ascii.ensures.cases in
    name_good c.args.content.now (false-eqb _ 0 c.if-is_empty.ensures) (sym c.contains.ensures.value ∙ c.if-contains.false) plain
    ∙ sym (ap Ok (c.in_ok-from_str-in-Ok.ensures.ok ∙ c.in-Ok.ensures.cases.0))

pub returns-in_default : goal.returns-in_default
returns-in_default c =
    inr (name_not_text c.args.content.now (false-eqb _ 0 c.if-is_empty.ensures) (sym c.contains.ensures.value ∙ c.if-contains.false)
    (λ all. elim c.in_default.branch [
      | in_default-via-in-Ok+else-is_ascii w ↦
          let large = rw w.in-Ok.ensures.cases.0 at w.if-is_ascii.ensures.cases in omega (arith, all large.0)
      | in_default-via-in_default w ↦ w.in_default.ensures.cases.0 (IsUtf8-from_ascii c.args.content.now all)
    ]))
