use Rattle.std.proofs.Common.{◌≡◌, ◌++◌, vec_items}
use Rattle.records.specs.Chains.{as_chain}
use Rattle.outline.specs.Outline.{outlined, lines_of}
use Rattle.outline.proofs.lines.+outline.Given as goal

abbrev pub decreases-outline : goal.decreases-outline
decreases-outline l = l.chain.left

abbrev pub invariant-loop-node : goal.invariant-loop-node
invariant-loop-node l =
    (l.node-iterator.left ≡ l.initial.node-iterator.left)
    × (lines_of (vec_items l.lines) ++ outlined l.nesting (as_chain l.node-iterator)
    ≡ lines_of (vec_items l.initial.lines) ++ outlined l.nesting (as_chain l.initial.node-iterator))
