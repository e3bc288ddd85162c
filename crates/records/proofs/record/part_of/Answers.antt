use Rattle.std.proofs.Common.{ℕ, subst}
use Rattle.std.specs.Slice.{IsItemAt}
use Rattle.records.proofs.Parts.{part_found}
use Rattle.records.proofs.record.part_of.Goals as goal

pub returns : goal.returns
returns c =
    let at_place = subst (λ (k : ℕ). IsItemAt c.as_chunks.result.0.now k c.get.result) c.in_ok-checked_sub.ensures.1 c.get.ensures.lookup in
    part_found c.args.words.now c.args.n _ c.get.result c.as_chunks.ensures.front c.in_ok-checked_sub.ensures.0 at_place
