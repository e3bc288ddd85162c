use Rattle.std.proofs.Common.{rules}
use Rattle.records.specs.Chains.{as_chain}
use Rattle.dce.proofs.Filling.{filled_tables, full_counts}
use Rattle.dce.proofs.fill.fill_each.Goals as goal

pub returns-clause-tables : goal.returns-clause-tables
returns-clause-tables c =
    filled_tables c.args.tree.words.now (as_chain c.args.tree) c.requires.tree c.args.declared.now c.args.names.now c.args.edges.now
    c.zero_rows.new.table c.zero_rows-2.new.table c.fill_declared.new.table c.zero_rows.ensures.words c.zero_rows-2.ensures.words
    c.count.new.names c.count.new.edges c.in_ok-fill_declared.ensures.names c.in_ok-count.ensures.events

pub returns-in_err-count-clause-tables : goal.returns-in_err-count-clause-tables
returns-in_err-count-clause-tables c =
    let full = full_counts c.args.tree.words.now (as_chain c.args.tree) c.requires.tree c.args.declared.now c.args.names.now c.args.edges.now
    c.zero_rows.new.table c.zero_rows-2.new.table c.fill_declared.new.table c.zero_rows.ensures.words c.zero_rows-2.ensures.words
    _ _ c.in_ok-fill_declared.ensures.names c.in_err-count.ensures.events in
    search (rules, full)
