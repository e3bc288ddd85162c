use Rattle.std.proofs.Common.{[], arith, rules}
use Rattle.rules.specs.Names.{under, under_nothing, declaring}
use Rattle.rules.proofs.Declared.{few_declared}
use Rattle.records.specs.Chains.{as_chain, head_of_node}
use Rattle.data.specs.Events.{tables}
use Rattle.marks.specs.Marking.{Once, once}
use Rattle.marks.proofs.Marks.{once_marked, says_on}
use Rattle.marks.proofs.marking.mark_declared.Goals as goal

pub returns-clause-marks : goal.returns-clause-marks
returns-clause-marks c = λ edges.
    let around = under under_nothing (head_of_node c.args.node) in
    let below = as_chain c.args.node.below in
    let few = few_declared around below in
    let start = once c.args.names.now c.none-seen.result c.args.node.number in
    let same = once_marked (declaring around below) start [] edges c.none-seen.ensures.none (omega (arith, c.none-seen.ensures.room)) in
    let told = says_on (λ (s : Once). tables s.names edges) _ _ _ _ _ _ same c.declared_below.ensures.names in
    search rules
