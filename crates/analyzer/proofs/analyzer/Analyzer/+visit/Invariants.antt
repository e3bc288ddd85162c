-- What is left of the chain, from the state that the walk has come to, is what the whole chain was from the first.
-- A step down takes one from the nesting left; within a step a chain calls a record, a record its sort, a sort what is inside.
use Rattle.std.proofs.Common.{◌≡◌, ◌+◌, ◌*◌}
use Rattle.records.specs.Chains.{as_chain}
use Rattle.analyzer.specs.Visits.{Ready, Kept, here_of, state_of}
use Rattle.analyzer.specs.Walk.{walk}
use Rattle.analyzer.proofs.analyzer.Analyzer.+visit.Given as goal

abbrev pub decreases-visit_children : goal.decreases-visit_children
decreases-visit_children l = 4 * l.chain.left

abbrev pub decreases-visit_inside : goal.decreases-visit_inside
decreases-visit_inside l = 4 * l.node.below.left + 1

abbrev pub decreases-visit_class : goal.decreases-visit_class
decreases-visit_class l = 4 * l.node.below.left + 2

abbrev pub decreases-visit_expression : goal.decreases-visit_expression
decreases-visit_expression l = 4 * l.node.below.left + 2

abbrev pub decreases-visit_function : goal.decreases-visit_function
decreases-visit_function l = 4 * l.node.below.left + 2

abbrev pub decreases-visit_pattern : goal.decreases-visit_pattern
decreases-visit_pattern l = 4 * l.node.below.left + 2

abbrev pub decreases-visit_statement : goal.decreases-visit_statement
decreases-visit_statement l = 4 * l.node.below.left + 2

abbrev pub decreases-visit_node : goal.decreases-visit_node
decreases-visit_node l = 4 * l.node.below.left + 3

abbrev pub invariant-visit_children-loop-node : goal.invariant-visit_children-loop-node
invariant-visit_children-loop-node l = record {
  left : l.node-iterator.left ≡ l.initial.node-iterator.left;
  ready : Ready l.self (as_chain l.node-iterator) l.node-iterator.left;
  kept : Kept l.initial.self l.self;
  walk : walk (here_of l.initial.self) (as_chain l.initial.node-iterator) (state_of l.initial.self)
      ≡ walk (here_of l.initial.self) (as_chain l.node-iterator) (state_of l.self);
}
