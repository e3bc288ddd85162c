use Rattle.std.proofs.Common.{rules}
use Rattle.records.proofs.Turning.{turned_is}
use Rattle.records.proofs.write.turn_into.Goals as goal

pub returns-in-Some : goal.returns-in-Some
returns-in-Some c = turned_is c.args.words.now _ c.args.n c.in-Some.start _ c.in-Some.ensures (search rules)
