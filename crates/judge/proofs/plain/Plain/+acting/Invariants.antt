-- What is left of the chain decides as the whole chain does.
use Rattle.std.proofs.Common.{◌≡◌, ◌+◌, ◌*◌}
use Rattle.rules.specs.Judges.{some_acts}
use Rattle.records.specs.Chains.{as_chain}
use Rattle.judge.proofs.plain.Plain.+acting.Given as goal

abbrev pub decreases-acts : goal.decreases-acts
decreases-acts l = l.node.below.left * 2 + 1

abbrev pub decreases-some_acts : goal.decreases-some_acts
decreases-some_acts l = l.chain.left * 2

abbrev pub invariant-some_acts-loop-node : goal.invariant-some_acts-loop-node
invariant-some_acts-loop-node l =
    (l.node-iterator.left ≡ l.initial.node-iterator.left)
    × (some_acts l.self.unresolved (as_chain l.initial.node-iterator) ≡ some_acts l.self.unresolved (as_chain l.node-iterator))
