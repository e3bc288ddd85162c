use Rattle.std.proofs.Common.{rules}
use Rattle.analyzer.specs.Walk.{sort_of}
use Rattle.analyzer.proofs.visit.SortFromKind.from.Goals as goal

pub returns-then-matches : goal.returns-then-matches
unfolding sort_of
returns-then-matches c = search rules

pub returns-then-is_class_member : goal.returns-then-is_class_member
unfolding sort_of
returns-then-is_class_member c = search rules

pub returns-then-is_expression : goal.returns-then-is_expression
unfolding sort_of
returns-then-is_expression c = search rules

pub returns-then-eq-2 : goal.returns-then-eq-2
unfolding sort_of
returns-then-eq-2 c = search rules

pub returns-else-eq-2 : goal.returns-else-eq-2
unfolding sort_of
returns-else-eq-2 c = search rules
