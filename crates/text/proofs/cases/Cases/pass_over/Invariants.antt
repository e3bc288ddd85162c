use Rattle.std.proofs.Common.{◌≡◌, ◌+◌, ◌^◌, ◌<◌, length}
use Rattle.text.specs.Reader.{left, pass_over_from}
use Rattle.text.proofs.cases.Cases.pass_over.Given as goal

abbrev pub invariant-loop-self : goal.invariant-loop-self
invariant-loop-self l = record {
  passed : pass_over_from l.between (left l.self-inside.rest.now l.self-inside.line) ≡ pass_over_from l.between l.fn.self;
  counted : l.self-inside.line + length l.self-inside.rest.now < 2 ^ 64;
}

abbrev pub decreases-loop-self : goal.decreases-loop-self
decreases-loop-self l = length l.self-inside.rest.now
