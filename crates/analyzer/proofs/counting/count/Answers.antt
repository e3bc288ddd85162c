-- The walk from the outermost scope enters the events of the tree.
use Rattle.std.proofs.Common.{rules}
use Rattle.analyzer.proofs.Counts.{tree_counted}
use Rattle.analyzer.proofs.counting.count.Goals as goal

pub returns-clause-events : goal.returns-clause-events
returns-clause-events c =
    let counted = tree_counted _ c.outermost.result _ _ _ c.none.result _ c.visit_children.result c.outermost.ensures c.none.ensures c.visit_children.ensures.walk in
    search rules
