use Rattle.std.proofs.Common.{refl}
use Rattle.outline.proofs.Room.{never_uncounted, counted_are}
use Rattle.outline.proofs.tree.CheckedTree.count_declared.Goals as goal

pub unreachable-requires : goal.unreachable-requires
unreachable-requires c = never_uncounted refl c.reached.ensures c.root.ensures.chain c.in_default.ensures.names

pub returns : goal.returns
returns c = counted_are refl c.reached.ensures c.root.ensures.chain c.in-Ok.ensures.names
