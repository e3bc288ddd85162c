use Rattle.laws.proofs.AlikeRuns.{order_law}
use Rattle.laws.proofs.References.{references_law}
use Rattle.laws.proofs.Repeats.{repeats_law, bound_never_ends}
use Rattle.laws.proofs.law_about_runs.Goals as goal

pub returns : goal.returns
returns c = record {
  law = λ k lawful cs words. record {
    order = order_law k lawful cs words;
    references = references_law k cs words;
    repeats = repeats_law k cs words;
  };
  bound = bound_never_ends;
}
