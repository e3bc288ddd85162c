use Rattle.std.proofs.Common.{◌≡◌, ◌+◌, ◌-◌, ◌*◌, take, drop, ap, sym, ◌∙◌, arith}
use Rattle.rules.specs.Tables.{edges_width}
use Rattle.rings.proofs.Joined.{joins_at, joins_within}
use Rattle.rings.specs.Joining.{node_edge, ends}
use Rattle.rings.proofs.edge_rows.EdgeRowsGraph.edge.Goals as goal

pub overflow_mul-start : goal.overflow_mul-start
overflow_mul-start c = omega (arith, joins_within c.args.self.now.words.now c.args.k c.requires)

pub overflow_add-start : goal.overflow_add-start
overflow_add-start c = omega (arith, joins_within c.args.self.now.words.now c.args.k c.requires)

pub offset_bounds-words-start : goal.offset_bounds-words-start
offset_bounds-words-start c = omega (arith, joins_within c.args.self.now.words.now c.args.k c.requires)

pub slice_bounds-of-end : goal.slice_bounds-of-end
slice_bounds-of-end c = omega (arith, joins_within c.args.self.now.words.now c.args.k c.requires)

pub returns : goal.returns
returns c =
    let words = c.args.self.now.words.now in
    ap ends c.of-edge.ensures
    ∙ ap (λ n. ends (node_edge (take n (drop (c.args.k * 4) words)))) (let width : c.args.k * 4 + 4 - c.args.k * 4 ≡ edges_width = omega arith in width)
    ∙ sym (joins_at words c.args.k c.requires)
