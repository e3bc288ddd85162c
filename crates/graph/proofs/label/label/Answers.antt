use Rattle.std.proofs.Common.{length, get_or, refl, ap, ◌∙◌, subst, arith, rules}
use Rattle.std.proofs.lemmas.List.{get_or-replicate}
use Rattle.graph.specs.Graphs.{Components}
use Rattle.graph.specs.Refusals.{Refused}
use Rattle.graph.specs.Searching.{Linked}
use Rattle.graph.proofs.Finishing.{begun, finished}
use Rattle.graph.proofs.label.label.Goals as goal

pub invariant_of-walk : goal.invariant_of-walk
invariant_of-walk g c =
    let linked : Linked (g.E.Edges.list c.args.edges.now) (length c.split_at_mut-turns.result.0.now) (length (g.E.Edges.list c.args.edges.now)) c.link.new.turns c.link.new.links = search rules in
    begun (subst (λ n. Linked (g.E.Edges.list c.args.edges.now) n (length (g.E.Edges.list c.args.edges.now)) c.link.new.turns c.link.new.links) (omega arith) linked) (omega arith)
    (record { few = omega arith; turns_long = omega arith; stack_long = omega arith; back_long = omega arith; borders_long = omega arith; places_long = refl })
    (λ v h. ap (λ l. get_or l v 0) (c.fill.ensures.after (λ y e. e)) ∙ get_or-replicate _ v 0 0 (omega arith)) refl refl refl refl

pub returns : goal.returns
returns g c =
    let all = rw (← c.walk.view_is) at c.explore.ensures.seen in
    let nodes = ap (λ v. v.nodes) c.walk.view_is ∙ c.explore.ensures.onward.nodes in
    subst (λ es. Components es c.lower.new.labels c.walk.inside.count) (ap (λ v. v.edges) c.walk.view_is ∙ c.explore.ensures.onward.edges)
    (finished c.walk.invariant (rw (← c.walk.view_is) at c.explore.ensures.empty) (λ v h. all v (omega arith)) c.lower.new.labels (omega arith)
    (λ v h. omega (arith, c.lower.ensures v (omega arith))))

pub returns-in_err-link : goal.returns-in_err-link
returns-in_err-link g c =
    let refused : Refused (g.E.Edges.list c.args.edges.now) (length c.args.labels.now) (length c.args.work.now) c.in_err-link.field-0.0 =
    subst (λ n. Refused (g.E.Edges.list c.args.edges.now) n (length c.args.work.now) c.in_err-link.field-0.0) (omega arith)
    (c.in_err-link.ensures (length c.args.work.now) (omega arith) (omega arith)) in
    search rules
