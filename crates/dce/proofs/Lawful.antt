-- The law about runs, part by part.
use Rattle.laws.specs.Law.{LawAboutRuns}
use Rattle.laws.proofs.AlikeRuns.{order_law}
use Rattle.laws.proofs.References.{references_law}
use Rattle.laws.proofs.Repeats.{repeats_law}

pub law_holds : LawAboutRuns
law_holds k lawful cs words = record {
  order = order_law k lawful cs words;
  references = references_law k cs words;
  repeats = repeats_law k cs words;
}
