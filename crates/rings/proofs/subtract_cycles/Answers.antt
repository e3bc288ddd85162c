use Rattle.std.proofs.Common.{◌≡◌, length, refl, arith, rules}
use Rattle.std.proofs.lemmas.Result.{err_from_is_err_and}
use Rattle.rules.specs.Tables.{names_width}
use Rattle.tables.specs.Living.{used}
use Rattle.graph.specs.declared.fault.GraphFault.TheVariants.{TooLarge, NoRoom}
use Rattle.rings.specs.Spending.{Unfit}
use Rattle.rings.proofs.Refusing.{unfit_not, refused_unfit, used_few, discounted_subtracted}
use Rattle.rings.proofs.subtract_cycles.Goals as goal

pub returns-then-nodes-ge-NODES : goal.returns-then-nodes-ge-NODES
returns-then-nodes-ge-NODES c =
    let told : Unfit c.args.names.now c.args.edges.now (length c.args.work.now) TooLarge = search rules in
    (told, unfit_not _ _ _ TooLarge told, refl)

pub returns-then-work-nodes : goal.returns-then-work-nodes
returns-then-work-nodes c =
    let told : Unfit c.args.names.now c.args.edges.now (length c.args.work.now) NoRoom = omega arith in
    (told, unfit_not _ _ _ NoRoom told, refl)

pub returns-in_err-count : goal.returns-in_err-count
returns-in_err-count c =
    let long : length c.split_at_mut-labels.result.0.now ≡ used names_width c.args.names.now = omega arith in
    let told : Unfit c.args.names.now c.args.edges.now (length c.args.work.now) c.in_err-count.field-0.0 =
    refused_unfit c.args.names.now c.args.edges.now (length c.split_at_mut-labels.result.0.now) (length c.split_at_mut-labels.result.1.now)
    (length c.args.work.now) c.in_err-count.field-0.0 long (omega arith) c.in_err-count.ensures.0 in
    let p = err_from_is_err_and c.from_residual.result c.from_residual.ensures.1 in
    rw (p.1, p.2) (told, unfit_not _ _ _ _ told, refl)

pub subtract_rings-requires : goal.subtract_rings-requires
subtract_rings-requires c = omega (arith, used_few c.components.new.labels c.in_ok-count.field-0 c.in_ok-count.ensures.used)

pub returns : goal.returns
returns c =
    let long : length c.components.new.labels ≡ used names_width c.args.names.now = omega arith in
    discounted_subtracted c.args.names.now c.args.edges.now c.components.new.labels c.in_ok-count.field-0 c.subtract_rings.new.names
    long c.in_ok-count.ensures c.subtract_rings.ensures
