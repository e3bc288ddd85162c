-- Whatever writes what is left of the chain has written the whole.
use Rattle.std.proofs.Common.{◌≡◌}
use Rattle.std.specs.Fmt.{HasWritten, IsPlainFormatter}
use Rattle.records.specs.Chains.{as_chain}
use Rattle.answers.specs.Lines.{chain_text}
use Rattle.answers.proofs.tree.+write_chain.Given as goal

abbrev pub decreases-write_chain : goal.decreases-write_chain
decreases-write_chain g l = l.chain.left

abbrev pub invariant-loop-node : goal.invariant-loop-node
invariant-loop-node g l =
    (l.node-iterator.left ≡ l.initial.node-iterator.left)
    × (IsPlainFormatter l.initial.f → IsPlainFormatter l.f
    × ((end : _) → HasWritten g.W.Write.write_str_gives l.f (chain_text (as_chain l.node-iterator)) end
    → HasWritten g.W.Write.write_str_gives l.initial.f (chain_text (as_chain l.initial.node-iterator)) end))
