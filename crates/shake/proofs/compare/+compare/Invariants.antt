use Rattle.std.proofs.Common.{◌≡◌}
use Rattle.shake.proofs.compare.+compare.Given as goal

abbrev pub decreases-compare : goal.decreases-compare
decreases-compare l = l.chain.left

abbrev pub invariant-loop-node : goal.invariant-loop-node
invariant-loop-node l = l.node-iterator.left ≡ l.initial.node-iterator.left
