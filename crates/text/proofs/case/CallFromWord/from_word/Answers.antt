use Rattle.std.proofs.Common.{codes, sym, ap, arith}
use Rattle.std.proofs.lemmas.Slice.Eq.{text_from_reads}
use Rattle.text.specs.Lines.{call}
use Rattle.text.proofs.case.CallFromWord.from_word.Goals as goal

pub returns-in-repeat : goal.returns-in-repeat
returns-in-repeat c =
    ap call (sym (text_from_reads c.args.word.now (codes "repeat") (omega arith)
    (omega arith, (omega arith, (omega arith, (omega arith, (omega arith, (omega arith, tt))))))))
