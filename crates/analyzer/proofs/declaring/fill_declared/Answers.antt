-- The words of a table without rows agree with the book's rows, name by name, from the zeroed table on.
use Rattle.std.proofs.Common.{[], rules}
use Rattle.records.specs.Chains.{as_chain}
use Rattle.rules.specs.Grammar.{root}
use Rattle.rules.specs.Names.{declared, under_nothing}
use Rattle.rules.specs.Tables.{declared_width}
use Rattle.rules.proofs.Declared.{declaring_signed}
use Rattle.tables.proofs.Behind.{zeroed_again}
use Rattle.analyzer.proofs.Declares.{declares_agree}
use Rattle.analyzer.proofs.Fills.{zeroed_holds, agreed_fills, agreed_full}
use Rattle.analyzer.proofs.declaring.fill_declared.Goals as goal

pub returns-in-Ok-clause-names : goal.returns-in-Ok-clause-names
returns-in-Ok-clause-names c =
    let tree = as_chain c.args.tree in
    let table = c.args.table.now in
    agreed_fills tree table c.collect_decls.new.table _ (c.is_filled.ensures.none (search rules))
    (declares_agree table (declared tree) [] c.zero_rows.new.table (declaring_signed root under_nothing tree c.requires.formed) (zeroed_holds table _ c.zero_rows.ensures.words))
    c.in-Ok.ensures.names

pub returns-in-Err-clause-names : goal.returns-in-Err-clause-names
returns-in-Err-clause-names c =
    let tree = as_chain c.args.tree in
    let table = c.args.table.now in
    agreed_full tree _ _ table _ _ (c.is_filled.ensures.none (search rules))
    (declares_agree table (declared tree) [] c.zero_rows.new.table (declaring_signed root under_nothing tree c.requires.formed) (zeroed_holds table _ c.zero_rows.ensures.words))
    c.in-Err.ensures.names
    (zeroed_again declared_width table c.zero_rows.new.table c.collect_decls.new.table c.zero_rows-in-Err.new.table c.zero_rows.ensures.words c.in-Err.ensures.behind c.zero_rows-in-Err.ensures.words)
