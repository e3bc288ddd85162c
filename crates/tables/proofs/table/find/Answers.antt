use Rattle.std.proofs.Common.{ap, ◌∙◌, rules}
use Rattle.tables.specs.Living.{keyed, first_row}
use Rattle.tables.proofs.Finding.{row_found}
use Rattle.tables.proofs.table.find.Goals as goal

pub returns-in_err-place-clause-row : goal.returns-in_err-place-clause-row
returns-in_err-place-clause-row g c =
    let has_key = keyed g.R.Key.PartialEq.eq g.R.Row.key_of c.args.key.now in
    let found = row_found g.R.Row.WIDTH has_key c.of.result c.position.new.self _ c.position.result c.position.ensures.ran (λ x b q k. search rules) in
    c.from_residual.ensures ∙ rw c.in_err-place.was at found ∙ ap (first_row has_key) c.of.ensures.left

pub returns-clause-row : goal.returns-clause-row
returns-clause-row g c =
    let has_key = keyed g.R.Key.PartialEq.eq g.R.Row.key_of c.args.key.now in
    let found = row_found g.R.Row.WIDTH has_key c.of.result c.position.new.self _ c.position.result c.position.ensures.ran (λ x b q k. search rules) in
    rw c.in_ok-place.was at found ∙ ap (first_row has_key) c.of.ensures.left
