use Rattle.std.proofs.Common.{get_or, refl, subst, arith}
use Rattle.rings.specs.Marking.{entered_at}
use Rattle.rings.proofs.Quieting.{Followed, Calm, lone_told, paired_told, lone_loud, paired_quiet, ruled_more}
use Rattle.rings.proofs.verdict.mark_closed.Goals as goal

pub cycles-preserved-then-is_none : goal.cycles-preserved-then-is_none
cycles-preserved-then-is_none c =
    let nodes = c.args.by_label in
    let entered = entered_at c.args.names.now in
    let lone = lone_told nodes.nexts.now (get_or nodes.firsts.now c.cycles.cycle 0) c.nodes.result c.nth.new.self c.nth.result c.nodes.ensures.nexts c.nodes.ensures.link c.nth.ensures.ran c.if-is_none.ensures in
    ruled_more entered nodes.labels.now c.args.marks.now c.cycles.closed c.cycles.cycle 0 (omega arith) c.cycles.invariant
    (refl, lone_loud entered nodes.labels.now c.args.marks.now nodes.firsts.now nodes.nexts.now nodes.linked c.cycles.cycle (omega arith) lone)

pub cycles-preserved : goal.cycles-preserved
cycles-preserved c =
    let nodes = c.args.by_label in
    let entered = entered_at c.args.names.now in
    let paired = paired_told nodes.nexts.now (get_or nodes.firsts.now c.cycles.cycle 0) c.nodes.result c.nth.new.self c.nth.result c.nodes.ensures.nexts c.nodes.ensures.link c.nth.ensures.ran c.if-is_none.ensures in
    ruled_more entered nodes.labels.now c.args.marks.now c.cycles.closed c.cycles.cycle 1 (omega arith) c.cycles.invariant
    (paired_quiet entered nodes.labels.now c.args.marks.now nodes.firsts.now nodes.nexts.now nodes.linked c.cycles.cycle (omega arith) paired
    (subst (Followed (Calm entered nodes.labels.now c.args.marks.now) nodes.labels.now c.cycles.cycle) c.in-None.ensures.steps c.loop-node.invariant.followed))
