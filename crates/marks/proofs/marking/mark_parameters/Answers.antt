use Rattle.std.proofs.Common.{rules}
use Rattle.rules.specs.Names.{bound}
use Rattle.records.specs.Chains.{as_chain}
use Rattle.data.specs.Events.{tables}
use Rattle.marks.specs.Marking.{Marking}
use Rattle.marks.proofs.Marks.{each_marked, says_on}
use Rattle.marks.proofs.marking.mark_parameters.Goals as goal

pub returns-clause-marks : goal.returns-clause-marks
returns-clause-marks c = λ edges.
    let same = each_marked (bound (as_chain c.args.node.below)) c.args.node.number c.args.names.now edges in
    let told = says_on (λ (s : Marking). tables s.names edges) _ _ _ _ _ _ same c.bound_names.ensures.names in
    search rules
