use Rattle.std.proofs.Common.{◌∙◌, rules}
use Rattle.dce.proofs.Filling.{emptied, kept}
use Rattle.dce.proofs.fill.fill_tables.Goals.{then-not-kept, else-not-kept}
use Rattle.dce.proofs.fill.fill_tables.Goals as goal

pub returns-after-not-kept-clause-tables : goal.returns-after-not-kept-clause-tables
returns-after-not-kept-clause-tables c = record {
  is = c.in-Err.ensures.tables;
  declared = elim c.if-not-kept.branch [
    | then-not-kept w ↦ w.declared-is ∙ emptied c.args.declared.now c.fill_each.new.declared _ (search rules) c.in-Err.ensures.declared_behind w.zero_rows.ensures.words
    | else-not-kept w ↦ w.declared-is ∙ kept c.args.declared.now c.fill_each.new.declared c.in-Err.ensures.declared.0 (search rules) c.in-Err.ensures.declared.1
  ];
  names = c.zero_rows-in-Err.ensures.words ∙ c.in-Err.ensures.names_behind;
  edges = c.zero_rows-in-Err-2.ensures.words ∙ c.in-Err.ensures.edges_behind;
}
