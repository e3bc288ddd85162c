-- The record that comes next is the first of what is left of the chain.
use Rattle.std.proofs.Common.{rules}
use Rattle.analyzer.specs.Walk.{walk}
use Rattle.analyzer.proofs.Walks.{walk_on}
use Rattle.analyzer.proofs.analyzer.Analyzer.+visit.Goals as goal

pub visit_children-loop-node-preserved : goal.visit_children-loop-node-preserved
visit_children-loop-node-preserved t c =
    let inv = c.loop-node.invariant in
    record {
      left = search rules;
      ready = search rules;
      kept = search rules;
      walk = walk_on c.args.self.now c.loop-node.self _ _ _ _ _ _ _ inv.kept c.in-Some.ensures.steps inv.walk c.in_ok-visit_node.ensures.walk;
    }

pub visit_children-returns-in_err-visit_node-clause-walk : goal.visit_children-returns-in_err-visit_node-clause-walk
visit_children-returns-in_err-visit_node-clause-walk t c =
    let inv = c.loop-node.invariant in
    let stops = walk_on c.args.self.now c.loop-node.self _ _ _ _ _ _ _ inv.kept c.in-Some.ensures.steps inv.walk c.in_err-visit_node.ensures.walk in
    search rules

pub visit_children-returns-clause-walk : goal.visit_children-returns-clause-walk
unfolding walk
visit_children-returns-clause-walk t c = search rules
