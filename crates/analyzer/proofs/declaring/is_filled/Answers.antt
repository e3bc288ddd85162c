use Rattle.std.proofs.Common.{sym, ◌∙◌}
use Rattle.rules.specs.Tree.Chain.{end}
use Rattle.analyzer.proofs.Fills.{rows_stay, reads_none}
use Rattle.analyzer.proofs.declaring.is_filled.Goals as goal

pub returns : goal.returns
returns c = record {
  rows = λ some tree space room. (rows_stay tree c.args.table.now (sym c.has_row.ensures ∙ some)).0 space room;
  words = λ some. (rows_stay end c.args.table.now (sym c.has_row.ensures ∙ some)).1;
  none = λ none. reads_none c.args.table.now (sym c.has_row.ensures ∙ none);
}
