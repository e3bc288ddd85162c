use Rattle.std.proofs.Common.{◌<◌, length, vec_items, inr, arith, true-eqb, false-eqb}
use Rattle.std.proofs.lemmas.Result.{err_from_is_err_and}
use Rattle.text.proofs.Reading.{sofar_none, sofar_more, sofar_stops, sofar_all}
use Rattle.text.proofs.words.VecFromLine.from_line.Goals as goal

pub loop-rest-init : goal.loop-rest-init
loop-rest-init g c = rw c.new-read.ensures.items (sofar_none g.T.FromWord.meaning c.args.content.now)

pub returns-in_err-from_word : goal.returns-in_err-from_word
returns-in_err-from_word g c =
    let some : 0 < length c.loop-rest.rest.now = omega (arith, false-eqb _ 0 c.loop-rest-test.ensures) in
    let p = err_from_is_err_and c.from_residual.result c.from_residual.ensures.1 in
    rw (p.1, p.2) (inr (sofar_stops g.T.FromWord.meaning c.args.content.now c.loop-rest.rest.now c.cut.result.1.now c.cut.result.0.now
    (vec_items c.loop-rest.read) c.in_err-from_word.field-0.0
    (false-eqb (length c.cut.result.0.now) 0 c.if-not-is_empty.ensures) (c.cut.ensures.splits some)
    c.in_err-from_word.ensures c.loop-rest.invariant))

pub loop-rest-preserved-in_ok-push : goal.loop-rest-preserved-in_ok-push
loop-rest-preserved-in_ok-push g c =
    let some : 0 < length c.loop-rest.rest.now = omega (arith, false-eqb _ 0 c.loop-rest-test.ensures) in
    rw c.in_ok-push.ensures.items
    (sofar_more g.T.FromWord.meaning c.args.content.now c.loop-rest.rest.now c.cut.result.1.now c.cut.result.0.now
    (vec_items c.loop-rest.read) c.in_ok-from_word.field-0
    (false-eqb (length c.cut.result.0.now) 0 c.if-not-is_empty.ensures) (c.cut.ensures.splits some)
    c.in_ok-from_word.ensures c.loop-rest.invariant)

pub returns : goal.returns
returns g c =
    sofar_all g.T.FromWord.meaning c.args.content.now c.loop-rest.rest.now (vec_items c.loop-rest.read)
    (true-eqb _ 0 c.loop-rest-test.ensures) c.loop-rest.invariant
