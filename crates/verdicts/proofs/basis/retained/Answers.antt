use Rattle.std.proofs.Common.{eqb, sym, refl, rules, tests}
use Rattle.std.proofs.lemmas.List.Recursion.{or_at, or_from_places}
use Rattle.rules.specs.Kinds.{member}
use Rattle.verdicts.proofs.basis.retained.Goals as goal

pub returns-then-kept-symbol : goal.returns-then-kept-symbol
returns-then-kept-symbol c =
    let s = c.args.symbol in
    sym (or_at (member s) (eqb s) refl (λ _ _. refl) c.args.retain.now c.loop-kept.kept-index 0 (search rules) (search (rules, tests)))

pub returns : goal.returns
returns c =
    let s = c.args.symbol in
    sym (or_from_places (member s) (eqb s) refl (λ _ _. refl) c.args.retain.now 0 (search rules))
