use Rattle.std.proofs.Common.{subst}
use Rattle.rings.specs.Marking.{entered_at, Ruled}
use Rattle.rings.proofs.Spent.{spent_discounted}
use Rattle.rings.proofs.discount.subtract_rings.Goals as goal

pub returns : goal.returns
returns c =
    let graph = c.args.graph.now in
    let entered = entered_at c.args.names.now in
    spent_discounted c.args.names.now graph.edges.words.now graph.labels.now c.mark_outside.new.marks c.mark_closed.new.closed _ graph.count
    c.mark_outside.ensures
    (subst (λ labels. Ruled entered labels c.mark_outside.new.marks c.mark_closed.new.closed graph.count) c.link_members-by_label.ensures.labels
    (subst (Ruled entered c.link_members-by_label.result.labels.now c.mark_outside.new.marks c.mark_closed.new.closed) c.split_at_mut-closed.ensures.front_len c.mark_closed.ensures))
    c.subtract_closed.ensures
