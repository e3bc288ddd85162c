use Rattle.std.proofs.Common.{map, ap, ◌∙◌}
use Rattle.graph.specs.Rows.{ends}
use Rattle.graph.proofs.Reading.{rows_are}
use Rattle.graph.proofs.edges.Rows.of.Goals as goal

pub returns : goal.returns
returns c = ap (map ends) c.as_chunks.ensures.front ∙ rows_are c.args.words.now
