use Rattle.std.proofs.Common.{◌≡◌, ◌<◌, ◌≤◌, map, length, Ok, ap, ◌∙◌, arith, rules}
use Rattle.std.proofs.lemmas.List.{take_at}
use Rattle.laws.specs.Law.{begun_on}
use Rattle.verdicts.specs.Grounds.{config_of}
use Rattle.dce.specs.Calls.{handed}
use Rattle.dce.specs.Running.{answer_of}
use Rattle.dce.specs.declared.runs.Call.TheVariants.{Pass as call_pass}
use Rattle.dce.specs.declared.runs.Answer.TheVariants.{Reset}
use Rattle.dce.proofs.Lawful.{law_holds}
use Rattle.dce.proofs.Running.{same_at, all_answered, runs_on}
use Rattle.dce.proofs.runs.run.Goals as goal

pub returns-in_err-check_lengths-clause-law : goal.returns-in_err-check_lengths-clause-law
returns-in_err-check_lengths-clause-law g c = law_holds _ (g.met.J.Judge.lawful c.args.judge) _ _

pub returns-in_err-answers-clause-law : goal.returns-in_err-answers-clause-law
returns-in_err-answers-clause-law g c = law_holds _ (g.met.J.Judge.lawful c.args.judge) _ _

pub returns-in_err-shaker-clause-law : goal.returns-in_err-shaker-clause-law
returns-in_err-shaker-clause-law g c = law_holds _ (g.met.J.Judge.lawful c.args.judge) _ _

pub returns-clause-law : goal.returns-clause-law
returns-clause-law g c = law_holds _ (g.met.J.Judge.lawful c.args.judge) _ _

pub loop-place-preserved : goal.loop-place-preserved
loop-place-preserved g c =
    let at = c.loop-place in
    let low : at.place < length c.args.list.now = search rules in
    runs_on g.J.Judge.acts (config_of c.args.config (g.J.Judge.acts c.args.judge) c.args.retain.now) c.args.list.now (begun_on (handed c.args.tree.now c.args.declared.now c.args.names.now c.args.edges.now))
    at.place at.shaker c.call.new.self at.tree at.declared at.names at.edges c.call.new.tree c.call.new.declared c.call.new.names c.call.new.edges c.args.retain.now at.places
    _ c.call.result at.invariant low (λ z. same_at c.args.list.now at.place z _ low) c.call.ensures.answer c.call.ensures.state
    (λ i. config_of (c.call.ensures.config i) (g.J.Judge.acts (c.call.ensures.judge i)) c.args.retain.now)

pub returns-clause-answers : goal.returns-clause-answers
returns-clause-answers g c =
    let at = c.loop-place in
    let end : length c.args.list.now ≤ at.place = search rules in
    let many = at.invariant.many in
    let full : length at.places ≡ c.in_ok-answers.answers.len = search (rules, many) in
    ap (map answer_of) (take_at at.places _ c.in_ok-answers.answers.len full)
    ∙ all_answered (config_of c.args.config (g.J.Judge.acts c.args.judge) c.args.retain.now) c.args.list.now (begun_on (handed c.args.tree.now c.args.declared.now c.args.names.now c.args.edges.now))
    at.places (Reset (Ok tt)) call_pass many (λ n h. at.invariant.answered n (omega (arith, h, end)) (Reset (Ok tt)) call_pass)
