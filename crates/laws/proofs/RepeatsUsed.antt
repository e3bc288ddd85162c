-- The removable functions that a pass without a change leaves are used: each was tested and did not go, so that its row is counted, and
-- a counted row has its event, which is still counted in the tree left.
--
--   treat_used          a removal that changes nothing leaves only used removable functions
--   pass_used           so they are counted
use Rattle.std.proofs.Common.{◌≡◌, Bool, true, false, eqb, ◌⊎◌, List, sym, refl, ◌∙◌, subst, inl, inr, ⊎_elim, arith}
use Rattle.std.proofs.lemmas.Bool.{both_ways, or_parts}
use Rattle.rules.specs.Tree.{Head, Chain, Name, ◌is◌, name_of, is_end, append}
use Rattle.rules.specs.Tree.Chain.{end, link}
use Rattle.rules.specs.Kinds.{fn_declaration, for_statement}
use Rattle.rules.specs.Grammar.{Way, children_of, step, root}
use Rattle.rules.specs.Held.{Formed}
use Rattle.rules.specs.Counting.{Found, outermost, events_of}
use Rattle.rules.specs.Tables.{NameRow, look}
use Rattle.rules.specs.Rings.{discount}
use Rattle.rules.specs.Removal.{Config, By, Place, at_root, place_inside, unused, has_list, entered, swept, fn_goes, Left, treated, treat}
use Rattle.rules.specs.Calls.{Pass, pass_by, remove}
use Rattle.laws.specs.Law.{removable, Removable, Counted}
use Rattle.laws.proofs.Basics.{swept_both}
use Rattle.laws.proofs.Verdicts.{Kept, treated_kept, entered_anywhere, by_list}
use Rattle.laws.proofs.TablesTold.{counted_only}
use Rattle.laws.proofs.RingsDiscount.{counted_row}
use Rattle.laws.proofs.Runs.{Full}
use Rattle.laws.proofs.RepeatsUnchanged.{treat_same}

list_no_for : (h : Head) → has_list h ≡ true → eqb h.kind for_statement ≡ false
list_no_for h g = by_list (λ (h : Head). eqb h.kind for_statement ≡ false) h g refl refl refl

list_no_fn : (h : Head) → has_list h ≡ true → h is fn_declaration ≡ false
list_no_fn h g = by_list (λ (h : Head). h is fn_declaration ≡ false) h g refl refl refl

swept_removable : (k : Config) (n : Name) (p : Place) → eqb p.parent for_statement ≡ false → (c : Chain) → Removable k p n (swept c) → Removable k p n c
swept_removable k n p g end = λ x. x
swept_removable k n p g (link h cs rest) =
    swept_both (λ (d : Chain). Removable k p n d → Removable k p n (link h cs rest)) h cs rest
    (λ _ x. inr (swept_removable k n p g rest x))
    (λ x. ⊎_elim (λ y. inl (entered_anywhere p h cs (is_end rest) (is_end (swept rest)) g ∙ y.0, y.1)) (λ y. inr (swept_removable k n p g rest y)) x)

-- a removable function that does not go is used
used_by : (by : By) (p : Place) (h : Head) → fn_goes by p h ≡ false → removable by.config p h ≡ true → unused (by.row (name_of h)) ≡ false
used_by by p h g x = grind arith

module _ (by : By) (n : Name) where
  -- what is left of removable functions of the name is used
  abbrev Leaves : Place → Chain → Type 0
  Leaves p c = Removable by.config p n c → unused (by.row n) ≡ false

  -- the same of one record, whatever follows it, if that ends where the rest did
  abbrev LeavesHere : Place → Head → (last : Bool) → Chain → Type 0
  LeavesHere p h last children =
      entered p h children last ≡ true → ((removable by.config p h ≡ true) × (n ≡ name_of h)) ⊎ Removable by.config (place_inside p h) n children → unused (by.row n) ≡ false

  both_used : (p : Place) (h : Head) (last : Bool) (a b : Left) → is_end b.chain ≡ last → Kept h (LeavesHere p h last) a → Leaves p b.chain → Leaves p (append a.chain b.chain)
  both_used p h last a b e x u =
      subst (λ (c : Chain). Leaves p (append c b.chain)) (sym x.is_link)
      (λ y. ⊎_elim (λ z. x.said (subst (λ (l : Bool). entered p h x.children l ≡ true) e z.0) z.1) u y)

  treat_used : (p : Place) (ways : List Way) (c : Chain) → Formed ways c → (treat by p c).changed ≡ false → Leaves p (treat by p c).chain
  treat_used p ways end s g = λ x. absurd x
  treat_used p ways (link h cs rest) s g =
      let q = place_inside p h in
      let inner = treat by q cs in
      let b = entered p h cs (is_end rest) in
      let one = treated b by p h cs inner in
      let parts = or_parts one.changed (treat by p rest).changed g in
      let below : inner.changed ≡ false → Leaves q inner.chain = treat_used q (children_of h) cs s.2 in
      both_used p h (is_end rest) one (treat by p rest) (treat_same by p (step h.kind ways) rest s.3 parts.1).ends
      (treated_kept by p h cs inner (LeavesHere p h (is_end rest))
      (λ m f _ x. ⊎_elim (λ y. rw y.1 (used_by by p h m.used y.0)) (below f) x)
      (λ has f _ x. ⊎_elim
      (λ y. absurd (both_ways (h is fn_declaration) (list_no_fn h has) (grind (arith, y.0))))
      (λ y. below f (swept_removable by.config n q (list_no_for h has) inner.chain y)) x)
      b (λ f e. absurd (both_ways b f e)) parts.0)
      (treat_used p (step h.kind ways) rest s.3 parts.1)

used_counted : (r : NameRow) → unused r ≡ false → r.counted ≡ true
used_counted r g = grind arith

-- no removable function that a pass without a change leaves lacks a counted reference or mark
pub pass_used : (k : Config) (p : Pass) → Formed root p.found → Full p → (remove k p).changed ≡ false
    → (n : Name) → Removable k at_root n (remove k p).chain → Counted n (events_of (remove k p).chain)
pass_used k p s f g n x =
    let by = pass_by k p.filled in
    let c = p.filled.counts in
    let u = used_counted (look n (discount c)) (treat_used by n at_root root p.found s g x) in
    let found = counted_only n (events_of p.found) (rw f at (sym (counted_row c n) ∙ u)) in
    subst (λ (t : Found). Counted n t.events) (sym ((treat_same by at_root root p.found s g).counts outermost)) found
