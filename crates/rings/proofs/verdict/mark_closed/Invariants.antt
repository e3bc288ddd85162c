use Rattle.std.proofs.Common.{◌≡◌}
use Rattle.rings.specs.Marking.{entered_at, Ruled}
use Rattle.rings.proofs.Quieting.{Followed, Calm}
use Rattle.rings.proofs.verdict.mark_closed.Given as goal

abbrev pub invariant-cycles : goal.invariant-cycles
invariant-cycles l = Ruled (entered_at l.names) l.by_label.labels.now l.marks l.closed l.cycle

abbrev pub invariant-loop-node : goal.invariant-loop-node
invariant-loop-node l = record {
  nexts : l.node-iterator.nexts.now ≡ l.by_label.nexts.now;
  followed : Followed (Calm (entered_at l.names) l.by_label.labels.now l.marks) l.by_label.labels.now l.cycle l.node-iterator.link;
}
