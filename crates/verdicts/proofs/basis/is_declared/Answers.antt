use Rattle.std.proofs.Common.{◌||◌, is_some, refl, ap, ◌∙◌}
use Rattle.std.proofs.lemmas.List.Recursion.{same_from_clauses}
use Rattle.rules.specs.Names.{same, among}
use Rattle.rules.specs.Tables.{some_row, read_declared}
use Rattle.records.specs.Ids.{name_of_id}
use Rattle.tables.proofs.Matched.{declared_read}
use Rattle.verdicts.proofs.basis.is_declared.Goals as goal

pub returns : goal.returns
returns c =
    let n = name_of_id c.args.id in
    let read = declared_read c.args.declared.now c.args.id in
    c.is_some.ensures ∙ ap is_some (c.find.ensures.row ∙ read.1) ∙ read.2
    ∙ same_from_clauses (some_row (same n)) (among n) (λ m b. same n m || b) refl (λ _ _. refl) (λ _ _. refl) (read_declared c.args.declared.now)
