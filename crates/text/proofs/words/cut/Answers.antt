use Rattle.std.proofs.Common.{◌≡◌, ◌==◌, ℕ, Bool, rules, tests, sym, ◌∙◌, arith}
use Rattle.std.specs.List.{position}
use Rattle.std.proofs.lemmas.Grind.{common_steps}
use Rattle.std.proofs.lemmas.Iterator.{YieldsList-from_slice}
use Rattle.std.proofs.lemmas.Iterator.Search.{position_from_yields_List}
use Rattle.text.proofs.Cuts.{before_found, after_found, before_none, after_none, splits_so}
use Rattle.text.proofs.words.cut.Goals as goal

pub returns-in-Some : goal.returns-in-Some
returns-in-Some c =
    let separates : ℕ → Bool = λ b. b == c.args.separator in
    let place : c.position.result ≡ position separates c.args.bytes.now =
    position_from_yields_List separates _ _ c.position.result c.position.ensures.ran
    (YieldsList-from_slice c.args.bytes.now cc) (λ x b q k. search (rules, tests)) in
    record {
      front = before_found separates c.args.bytes.now c.in-Some.i (sym c.in-Some.is ∙ place);
      back = after_found separates c.args.bytes.now c.in-Some.i (sym c.in-Some.is ∙ place);
      shorter = λ some. grind (arith, common_steps);
      splits = splits_so c.args.separator c.args.bytes.now _ _ (before_found separates c.args.bytes.now c.in-Some.i (sym c.in-Some.is ∙ place)) (after_found separates c.args.bytes.now c.in-Some.i (sym c.in-Some.is ∙ place));
    }

pub returns-in-None : goal.returns-in-None
returns-in-None c =
    let separates : ℕ → Bool = λ b. b == c.args.separator in
    let place : c.position.result ≡ position separates c.args.bytes.now =
    position_from_yields_List separates _ _ c.position.result c.position.ensures.ran
    (YieldsList-from_slice c.args.bytes.now cc) (λ x b q k. search (rules, tests)) in
    record {
      front = before_none separates c.args.bytes.now (sym c.in-None.is ∙ place);
      back = after_none separates c.args.bytes.now (sym c.in-None.is ∙ place);
      shorter = λ some. some;
      splits = splits_so c.args.separator c.args.bytes.now _ _ (before_none separates c.args.bytes.now (sym c.in-None.is ∙ place)) (after_none separates c.args.bytes.now (sym c.in-None.is ∙ place));
    }
