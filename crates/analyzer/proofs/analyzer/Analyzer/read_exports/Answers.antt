use Rattle.std.proofs.Common.{rules}
use Rattle.rules.specs.Names.{exported}
use Rattle.records.specs.Chains.{as_chain}
use Rattle.analyzer.specs.Visits.{here_of, state_of}
use Rattle.analyzer.proofs.Readings.{each_read, read_back}
use Rattle.analyzer.proofs.analyzer.Analyzer.read_exports.Goals as goal

pub returns-clause-walk : goal.returns-clause-walk
returns-clause-walk c =
    let all = each_read (here_of c.args.self.now) (exported (as_chain c.args.children)) (state_of c.args.self.now) in
    search (rules, read_back)
