use Rattle.std.proofs.Common.{rules}
use Rattle.std.proofs.lemmas.Bool.Decides.{Decides-eqb}
use Rattle.std.proofs.lemmas.Result.{IfErr-weaker}
use Rattle.std.proofs.lemmas.Slice.Eq.{strip_prefix_is}
use Rattle.answers.specs.Differing.{shared}
use Rattle.answers.proofs.Comparing.{alike, apart, told_by}
use Rattle.answers.proofs.compare.agreed.Goals as goal

pub returns-clause-rest : goal.returns-clause-rest
returns-clause-rest c =
    let is = strip_prefix_is Decides-eqb c.args.stored.now c.args.found.now c.strip_prefix-rest.result c.strip_prefix-rest.ensures.cases in
    (told_by c.args.stored.now c.args.found.now c.strip_prefix-rest.result c.ok_or_else.result _ is c.ok_or_else.ensures.cases).0

pub returns-clause-first : goal.returns-clause-first
returns-clause-first c =
    let is = strip_prefix_is Decides-eqb c.args.stored.now c.args.found.now c.strip_prefix-rest.result c.strip_prefix-rest.ensures.cases in
    IfErr-weaker c.ok_or_else.result _ _ (λ d learnt. record {
      place = shared c.args.stored.now c.args.found.now;
      alike = alike c.args.stored.now c.args.found.now;
      apart = apart c.args.stored.now c.args.found.now learnt.0;
      before = search rules;
      lines = search rules;
    }) (told_by c.args.stored.now c.args.found.now c.strip_prefix-rest.result c.ok_or_else.result _ is c.ok_or_else.ensures.cases).1
