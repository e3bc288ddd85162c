use Rattle.std.proofs.Common.{vec_items, ap, ◌∙◌, arith}
use Rattle.outline.proofs.Room.{enough_never_full, enough_found_are}
use Rattle.outline.proofs.tree.CheckedTree.declared.Goals as goal

pub unreachable-requires : goal.unreachable-requires
unreachable-requires c = enough_never_full c.in_ok-found.ensures.1 (omega (arith, c.in_ok-found.ensures.0, c.count_declared.ensures)) c.root.ensures.chain c.in_default.ensures.names

pub returns : goal.returns
returns c =
    ap vec_items c.into_names.ensures
    ∙ enough_found_are c.in_ok-found.ensures.1 (omega (arith, c.in_ok-found.ensures.0, c.count_declared.ensures)) c.root.ensures.chain c.in-Ok.ensures.names
