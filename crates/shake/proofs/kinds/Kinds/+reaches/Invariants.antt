use Rattle.std.proofs.Common.{◌≡◌}
use Rattle.shake.proofs.kinds.Kinds.+reaches.Given as goal

abbrev pub decreases-reaches : goal.decreases-reaches
decreases-reaches l = l.chain.left

abbrev pub invariant-loop-node : goal.invariant-loop-node
invariant-loop-node l = l.node-iterator.left ≡ l.initial.node-iterator.left
