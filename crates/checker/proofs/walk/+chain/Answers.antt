use Rattle.std.proofs.Common.{◌≡◌, ℕ, suc, ◌-◌, true, set, arith}
use Rattle.std.proofs.lemmas.Result.{err_from_is_err_and}
use Rattle.checker.specs.Faults.{number, place}
use Rattle.checker.specs.Walking.{unmarked}
use Rattle.checker.proofs.Marking.{unmarked_most}
use Rattle.checker.proofs.Going.{begin, go, go_untaken, go_below, go_ended, go_short, one_less}
use Rattle.checker.proofs.walk.+chain.Goals as goal

pub loop-at-init : goal.loop-at-init
loop-at-init t c = (omega arith, λ b m. begin _ _ _ _ _ _ _ m)

pub returns-in_err-node-clause-is : goal.returns-in_err-node-clause-is
returns-in_err-node-clause-is t c = λ b m.
    (let p = err_from_is_err_and c.from_residual.result c.from_residual.ensures.1 in
    rw (p.1, p.2) (go_untaken {number = number c.in_err-node.field-0.0} {place = place c.in_err-node.field-0.0} (omega arith) (c.loop-at.invariant.1 b m) c.in_err-node.ensures))

pub returns-in_err-count-clause-is : goal.returns-in_err-count-clause-is
returns-in_err-count-clause-is t c = λ b m.
    (let p = err_from_is_err_and c.from_residual-in_err-count.result c.from_residual-in_err-count.ensures.1 in
    rw (p.1, p.2) (go_below (omega arith) (omega (arith, c.requires.room)) (c.loop-at.invariant.1 b m) c.in_ok-node.ensures c.under.ensures c.in_err-count.ensures.is))

-- the record that is taken sets a mark
taken_less : (t : ℕ) (c : goal.In_ok-count t) → suc (unmarked (set c.loop-at.seen (c.loop-at.at - 1) true)) ≡ unmarked c.loop-at.seen
taken_less t c = one_less (omega arith) (omega (arith, c.requires.room)) c.in_ok-node.ensures

pub overflow_add-count : goal.overflow_add-count
overflow_add-count t c =
    let u = taken_less t c in
    let m = unmarked_most c.args.seen.now in
    omega (arith, c.in_ok-count.ensures.left, c.loop-at.invariant.0)

pub overflow_add-count-in-loop-at : goal.overflow_add-count-in-loop-at
overflow_add-count-in-loop-at t c =
    let u = taken_less t c in
    let m = unmarked_most c.args.seen.now in
    omega (arith, c.in_ok-count.ensures.left, c.loop-at.invariant.0)

pub loop-at-smaller : goal.loop-at-smaller
loop-at-smaller t c =
    let u = taken_less t c in
    omega (arith, c.in_ok-count.ensures.left)

pub loop-at-preserved : goal.loop-at-preserved
loop-at-preserved t c =
    let u = taken_less t c in (
      omega (arith, c.in_ok-count.ensures.left, c.loop-at.invariant.0),
      λ b m.
          go (omega arith) (omega (arith, c.requires.room)) (c.loop-at.invariant.1 b m) c.in_ok-node.ensures c.under.ensures c.in_ok-count.ensures.is,
    )

pub returns-in_err-stop-clause-is : goal.returns-in_err-stop-clause-is
returns-in_err-stop-clause-is t c = λ b m.
    (let p = err_from_is_err_and c.from_residual-in_err-stop.result c.from_residual-in_err-stop.ensures.1 in
    let e = c.in_err-stop.ensures.1 in
    rw (p.1, p.2, e) (go_short (omega arith) c.in_err-stop.ensures.0 (c.loop-at.invariant.1 b m)))

pub returns-clause-is : goal.returns-clause-is
returns-clause-is t c = λ b m. go_ended (omega arith) c.in_ok-stop.ensures (c.loop-at.invariant.1 b m)
