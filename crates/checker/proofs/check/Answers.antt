use Rattle.std.proofs.Common.{◌/◌, [], sym, arith}
use Rattle.std.proofs.lemmas.Result.{err_from_is_err_and}
use Rattle.rules.specs.Check.{most_tree_words}
use Rattle.checker.proofs.Marking.{marks_none, unmarked_none}
use Rattle.checker.proofs.Accepts.{accepted, denied}
use Rattle.checker.proofs.check.Goals as goal

pub returns-in_err-count : goal.returns-in_err-count
returns-in_err-count c =
    let p = err_from_is_err_and c.from_residual.result c.from_residual.ensures.1 in
    rw (p.1, p.2) (denied c.args.words.now (sym c.if-not-lengths_fit.ensures) (sym c.if-not-root_is_alone.ensures) (c.in_err-count.ensures.is [] (marks_none (most_tree_words / 6))))

pub overflow_cast-result : goal.overflow_cast-result
overflow_cast-result c = omega (arith, c.in_ok-count.ensures.left, unmarked_none (most_tree_words / 6))

pub returns : goal.returns
returns c = accepted (sym c.if-not-lengths_fit.ensures) (sym c.if-not-root_is_alone.ensures) (c.in_ok-count.ensures.is [] (marks_none (most_tree_words / 6)))
