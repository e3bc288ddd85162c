use Rattle.std.proofs.Common.{drop, ap, ◌∙◌, arith, rules}
use borrow.Author.Tests.{tests}
use Rattle.std.proofs.lemmas.Grind.{common_steps}
use Rattle.std.proofs.lemmas.Iterator.Adapters.{YieldsList-from_rev_slice}
use Rattle.std.proofs.lemmas.Iterator.Search.{any_from_yields_List}
use Rattle.rules.specs.Names.{same, among}
use Rattle.records.specs.Ids.{name_of_id}
use Rattle.marks.specs.Noting.{name_in}
use Rattle.marks.proofs.Noting.{among_turned}
use Rattle.marks.proofs.seen.Noted.has.Goals as goal

pub returns : goal.returns
returns c =
    let n = name_of_id c.args.id in
    let pairs = drop c.self.inside.free c.self.inside.pairs.now in
    any_from_yields_List (λ p. same n (name_in p)) _ _ _ c.any.ensures.ran (YieldsList-from_rev_slice pairs (grind (arith, common_steps, c.iter.ensures.rest))) (λ x b q k. search (rules, tests)) ∙ among_turned n pairs ∙ ap (λ v. among n v.names) c.self.view_is
