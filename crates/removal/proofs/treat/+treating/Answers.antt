use Rattle.std.proofs.Common.{arith, rules}
use Rattle.shaker.specs.Places.{place_of}
use Rattle.rules.specs.Removal.{swept}
use Rattle.edit.proofs.Moves.{again, then}
use Rattle.removal.proofs.Treats.{treats, asked_at, down, has_children, half_asked, half_record, passed, listed, moved, some_record, turned, closed}
use Rattle.removal.proofs.treat.+treating.Goals as goal

pub treat-treat_record-turn-requires : goal.treat-treat_record-turn-requires
treat-treat_record-turn-requires g t c κs within =
    (omega (arith, c.decreases), (within, some_record _ _ _ _ _ c.requires _ _ _ c.loop-words.invariant c.loop-words-test.true))

pub treat-loop-words-smaller : goal.treat-loop-words-smaller
treat-loop-words-smaller g t c =
    (turned _ _ _ _ _ c.requires _ _ _ c.loop-words.invariant c.loop-words-test.true _ _ _ c.treat_record-turn.ensures).1

pub treat-loop-words-preserved : goal.treat-loop-words-preserved
treat-loop-words-preserved g t c =
    (turned _ _ _ _ _ c.requires _ _ _ c.loop-words.invariant c.loop-words-test.true _ _ _ c.treat_record-turn.ensures).0

pub treat-returns : goal.treat-returns
treat-returns g t c = record {
  made = λ ch nested. (closed _ _ _ _ _ _ _ _ c.loop-words.invariant c.loop-words-test.false ch nested).0;
  changed = λ ch nested. (closed _ _ _ _ _ _ _ _ c.loop-words.invariant c.loop-words-test.false ch nested).1;
}

pub treat_record-within-found-requires : goal.treat_record-within-found-requires
treat_record-within-found-requires g t c = let a = asked_at _ _ _ _ c.requires.3 in record { whole = a.0; deep = a.1 }

pub treat_record-returns-then-not-enters_at : goal.treat_record-returns-then-not-enters_at
treat_record-returns-then-not-enters_at g t c = λ h ch rest nested.
    passed _ _ h ch rest _ _ _ nested c.within-found.result c.within-found.ensures.words c.within-found.ensures.at
    _ c.next_slot.ensures c.if-not-enters_at.ensures

pub treat_record-visit_mut_stmt_likes-requires : goal.treat_record-visit_mut_stmt_likes-requires
treat_record-visit_mut_stmt_likes-requires g t c κs within =
    let below = down (g.B.Basis.by c.args.basis.now) (place_of c.args.place) _ _ _ _ _ _ c.requires.3 _ c.first_slot-children.ensures in
    (omega (arith, c.decreases, c.requires.3.deep), (within, (c.requires.1, below)))

pub treat_record-returns-then-first_has_list : goal.treat_record-returns-then-first_has_list
treat_record-returns-then-first_has_list g t c = λ h ch rest nested.
    listed _ _ h ch rest _ _ _ nested c.within-found.result c.within-found.ensures.words c.within-found.ensures.at
    _ _ _ _ _ c.first_slot-children.ensures c.below-inside.ensures c.next_slot-then-first_has_list.ensures c.if-not-enters_at.ensures c.if-first_has_list.ensures
    c.visit_mut_stmt_likes.ensures.made c.visit_mut_stmt_likes.ensures.changed

pub treat_record-treat-below-requires : goal.treat_record-treat-below-requires
treat_record-treat-below-requires g t c κs within =
    let below = down (g.B.Basis.by c.args.basis.now) (place_of c.args.place) _ _ _ _ _ _ c.requires.3 _ c.first_slot-children.ensures in
    (omega (arith, c.decreases, c.requires.3.deep), (within, (c.requires.1, below)))

pub treat_record-within-requires : goal.treat_record-within-requires
treat_record-within-requires g t c =
    let a = half_asked (g.B.Basis.by c.args.basis.now) (place_of c.args.place) _ _ _ _ _ _ c.requires.3
    c.within-found.result c.within-found.ensures.words c.within-found.ensures.at
    _ _ c.first_slot-children.ensures _ c.below-inside.ensures c.treat-below.ensures.made in
    record { whole = a.0; deep = a.1 }

pub treat_record-perform-requires : goal.treat_record-perform-requires
treat_record-perform-requires g t c =
    half_record (g.B.Basis.by c.args.basis.now) (place_of c.args.place) _ _ _ _ _ _ c.requires.3
    c.within-found.result c.within-found.ensures.words c.within-found.ensures.at
    _ _ c.first_slot-children.ensures _ c.below-inside.ensures c.treat-below.ensures.made

pub treat_record-returns : goal.treat_record-returns
treat_record-returns g t c = λ h ch rest nested.
    moved _ _ h ch rest _ _ _ nested c.within-found.result c.within-found.ensures.words c.within-found.ensures.at
    _ _ c.first_slot-children.ensures _ c.below-inside.ensures c.treat-below.ensures.made
    _ _ _ _ _ _ c.within.result c.within.ensures.words c.within.ensures.at c.if-not-enters_at.ensures c.if-first_has_list.ensures c.treat-below.ensures.changed
    (has_children (g.B.Basis.by c.args.basis.now) (place_of c.args.place) h ch rest _ _ _ nested c.within-found.result c.within-found.ensures.words c.within-found.ensures.at _ c.first_slot-children.ensures)
    c.verdict-verdict.ensures c.perform.ensures (search rules)

pub visit_mut_stmt_likes-treat-changed-requires : goal.visit_mut_stmt_likes-treat-changed-requires
visit_mut_stmt_likes-treat-changed-requires g t c κs within = (omega (arith, c.decreases), (within, c.requires))

pub visit_mut_stmt_likes-sweep-requires : goal.visit_mut_stmt_likes-sweep-requires
visit_mut_stmt_likes-sweep-requires g t c =
    let left = treats (g.B.Basis.by c.args.basis.now) (place_of c.args.place) c.requires.0 in
    (left, again _ _ _ c.requires.0 left c.requires.1.at (c.treat-changed.ensures.made c.requires.0 c.requires.1))

pub visit_mut_stmt_likes-returns : goal.visit_mut_stmt_likes-returns
visit_mut_stmt_likes-returns g t c = record {
  made = λ ch nested. (
      let left = treats (g.B.Basis.by c.args.basis.now) (place_of c.args.place) ch in
      let made = c.treat-changed.ensures.made ch nested in
      then _ _ _ _ ch left (swept left) made (c.sweep.ensures left (again _ _ _ ch left nested.at made)));
  changed = c.treat-changed.ensures.changed;
}
