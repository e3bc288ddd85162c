use Rattle.std.proofs.Common.{map, ap, ◌∙◌}
use Rattle.laws.specs.Law.{begun_on}
use Rattle.verdicts.specs.Grounds.{config_of}
use Rattle.dce.specs.Calls.{handed}
use Rattle.dce.specs.Running.{answer_of}
use Rattle.shake.proofs.Answered.{alone}
use Rattle.shake.proofs.shaken.Shaken.of.Goals as goal

pub repeated-requires : goal.repeated-requires
repeated-requires g c =
    let one = alone (config_of c.args.config (g.J.Judge.acts c.args.judge) c.as_slice.result.now)
    (begun_on (handed c.as_mut_slice.result.now c.as_mut_slice-2.result.now c.as_mut_slice-3.result.now c.as_mut_slice-4.result.now)) in
    (one.0, ap (map answer_of) c.as_slice-in-Ok.ensures.value ∙ c.in-Ok.ensures.answers ∙ one.1)
