use Rattle.std.proofs.Common.{◌≡◌, ◌∙◌}
use Rattle.rules.specs.Tree.{below}
use Rattle.rules.specs.Words.{tree_of}
use Rattle.records.specs.Chains.{as_chain}
use Rattle.shaker.specs.Places.{place_of}
use Rattle.verdicts.specs.Grounds.{config_of}
use Rattle.verdicts.specs.Shaking.{by_shaker}
use Rattle.verdicts.proofs.RowsRead.{by_held}
use Rattle.removal.proofs.Roots.{whole_root, under_root, entered_root, passed_root}
use Rattle.removal.proofs.root.remove.Goals as goal

pub chain-root-requires : goal.chain-root-requires
chain-root-requires g c =
    let words = c.of.ensures.words in
    let at = c.of.ensures.at in
    rw (words, at) (whole_root _ c.requires.tree)

pub returns-then-not-enters_at : goal.returns-then-not-enters_at
returns-then-not-enters_at g c =
    let by = by_shaker g.J.Judge.acts c.args.shaker.now in
    let basis = c.args.shaker.now.basis in
    let tree = tree_of c.args.words.now 1 in
    let is : as_chain c.chain-root.result ≡ tree = λ i. tree_of ((c.chain-root.ensures.words ∙ c.of.ensures.words) i) ((c.chain-root.ensures.at ∙ c.of.ensures.at) i) in
    let left = passed_root c.args.words.now by _ c.at_root-place.ensures tree _ is c.requires.tree c.if-not-enters_at.ensures in
    record {
      tree = left.tree;
      changed = left.flag;
      by = by_held (config_of basis.config (g.J.Judge.acts c.args.shaker.now.judge.now) basis.retain.now) basis.declared.now basis.names.now;
      others = left.others;
    }

pub visit_mut_stmt_likes-requires : goal.visit_mut_stmt_likes-requires
visit_mut_stmt_likes-requires g c =
    (below (tree_of c.args.words.now 1), under_root _ (tree_of c.args.words.now 1) _ c.first_slot.ensures c.requires.tree)

pub returns : goal.returns
returns g c =
    let by = by_shaker g.J.Judge.acts c.args.shaker.now in
    let basis = c.args.shaker.now.basis in
    let tree = tree_of c.args.words.now 1 in
    let is : as_chain c.chain-root.result ≡ tree = λ i. tree_of ((c.chain-root.ensures.words ∙ c.of.ensures.words) i) ((c.chain-root.ensures.at ∙ c.of.ensures.at) i) in
    let nested = under_root _ tree _ c.first_slot.ensures c.requires.tree in
    let list = c.visit_mut_stmt_likes.ensures in
    let left = entered_root c.args.words.now by _ c.at_root-place.ensures tree _ is _ _ (place_of c.below-inside.result) _ c.first_slot.ensures c.requires.tree
    c.if-not-enters_at.ensures c.below-inside.ensures (list.made (below tree) nested) (list.changed (below tree) nested) in
    record {
      tree = left.tree;
      changed = left.flag;
      by = by_held (config_of basis.config (g.J.Judge.acts c.args.shaker.now.judge.now) basis.retain.now) basis.declared.now basis.names.now;
      others = left.others;
    }
