use Rattle.std.proofs.Common.{rules}
use Rattle.rules.specs.Tables.{names_width}
use Rattle.tables.specs.Counts.{with_flag}
use Rattle.tables.proofs.Behind.{changed_zeroed, with_flag_long}
use Rattle.tables.proofs.name_row.Names.set.Goals as goal

pub returns-in-Some-clause-words : goal.returns-in-Some-clause-words
returns-in-Some-clause-words c = search rules

pub returns-in-Some-clause-behind : goal.returns-in-Some-clause-behind
returns-in-Some-clause-behind c =
    changed_zeroed names_width c.args.row (with_flag c.args.flag) c.args.names.now _ (with_flag_long c.args.flag) (returns-in-Some-clause-words c)
