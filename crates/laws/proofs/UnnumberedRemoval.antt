-- Removal reads no record number: what is left of a tree without record numbers is what is left of the tree, record numbers apart.
-- A verdict speaks of names only, so it is the same for both; and each thing done commutes with taking the numbers away.
--
--   blind                      a lawful judge does not see record numbers
--   .. _unnumbered             what is read of a chain; each rule's test; what is done
--   treat_unnumbered           what is left of a chain
use Rattle.std.proofs.Common.{◌≡◌, ℕ, Bool, true, false, ◌&&◌, ◌||◌, refl, ap, ◌∙◌, ap₂, arith}
use Rattle.rules.specs.Tree.{Head, Chain, ◌is◌, flagged, is_end, below, after, first_is, first_flagged, first_symbol, first_name, alone, append, unnumbered_head, unnumbered}
use Rattle.rules.specs.Tree.Chain.{end, link}
use Rattle.rules.specs.Kinds.{expression_statement, identifier, name_pattern}
use Rattle.rules.specs.Judges.{Lawful}
use Rattle.rules.specs.Removal.{By, Place, place_inside, first_acts, entered, swept, keeps_class, name_goes, all_go, only_identifiers, wraps_object, wrapped_object, class_goes, declarator_goes, import_emptied, var_restates, assignment_yields, Verdict, verdict, become, values, joined, Left, both, done, treated, treat}
use Rattle.rules.specs.Removal.Verdict.{stays, sweeps, empties, unlinks, restates, yields, unwraps}

twice_unnumbered : (c : Chain) → unnumbered (unnumbered c) ≡ unnumbered c
twice_unnumbered end = refl
twice_unnumbered (link h cs rest) = ap₂ (link (unnumbered_head h)) (twice_unnumbered cs) (twice_unnumbered rest)

alone_unnumbered : (c : Chain) → alone (unnumbered c) ≡ unnumbered (alone c)
alone_unnumbered end = refl
alone_unnumbered (link h cs rest) = refl

pub blind : (acts : Chain → Bool) → Lawful acts → (c : Chain) → acts (unnumbered c) ≡ acts c
blind acts lawful c = lawful (unnumbered c) c (ap unnumbered (alone_unnumbered c) ∙ twice_unnumbered (alone c))

-- WHAT IS READ OF A CHAIN

is_end_unnumbered : (c : Chain) → is_end (unnumbered c) ≡ is_end c
is_end_unnumbered end = refl
is_end_unnumbered (link h cs rest) = refl

first_is_unnumbered : (k : ℕ) (c : Chain) → first_is k (unnumbered c) ≡ first_is k c
first_is_unnumbered k end = refl
first_is_unnumbered k (link h cs rest) = refl

first_flagged_unnumbered : (c : Chain) → first_flagged (unnumbered c) ≡ first_flagged c
first_flagged_unnumbered end = refl
first_flagged_unnumbered (link h cs rest) = refl

first_symbol_unnumbered : (c : Chain) → first_symbol (unnumbered c) ≡ first_symbol c
first_symbol_unnumbered end = refl
first_symbol_unnumbered (link h cs rest) = refl

first_name_unnumbered : (c : Chain) → first_name (unnumbered c) ≡ first_name c
first_name_unnumbered end = refl
first_name_unnumbered (link h cs rest) = refl

after_unnumbered : (c : Chain) → after (unnumbered c) ≡ unnumbered (after c)
after_unnumbered end = refl
after_unnumbered (link h cs rest) = refl

below_unnumbered : (c : Chain) → below (unnumbered c) ≡ unnumbered (below c)
below_unnumbered end = refl
below_unnumbered (link h cs rest) = refl

append_unnumbered : (c d : Chain) → append (unnumbered c) (unnumbered d) ≡ unnumbered (append c d)
append_unnumbered end d = refl
append_unnumbered (link h cs rest) d = ap (link (unnumbered_head h) (unnumbered cs)) (append_unnumbered rest d)

only_identifiers_unnumbered : (c : Chain) → only_identifiers (unnumbered c) ≡ only_identifiers c
only_identifiers_unnumbered end = refl
only_identifiers_unnumbered (link h cs rest) = ap (λ (b : Bool). h is identifier && b) (only_identifiers_unnumbered rest)

wraps_object_unnumbered : (c : Chain) → wraps_object (unnumbered c) ≡ wraps_object c
wraps_object_unnumbered c = simp (first_is_unnumbered, first_flagged_unnumbered, first_symbol_unnumbered, below_unnumbered, after_unnumbered, is_end_unnumbered, only_identifiers_unnumbered)

wrapped_unnumbered : (c : Chain) → wrapped_object (unnumbered c) ≡ unnumbered (wrapped_object c)
wrapped_unnumbered c = simp below_unnumbered

entered_unnumbered : (p : Place) (h : Head) (c : Chain) (last : Bool) → entered p (unnumbered_head h) (unnumbered c) last ≡ entered p h c last
entered_unnumbered p h c last = simp (first_is_unnumbered, below_unnumbered, first_symbol_unnumbered)

-- WHAT IS DONE

pub swept_unnumbered : (c : Chain) → swept (unnumbered c) ≡ unnumbered (swept c)
swept_unnumbered end = refl
swept_unnumbered (link h cs rest) = grind (arith, is_end_unnumbered cs, swept_unnumbered rest)

values_unnumbered : (c : Chain) → values (unnumbered c) ≡ unnumbered (values c)
values_unnumbered end = refl
values_unnumbered (link d parts rest) =
    cc (after_unnumbered parts, alone_unnumbered (after parts), values_unnumbered rest, append_unnumbered (alone (after parts)) (values rest))

joined_unnumbered : (c : Chain) → joined (unnumbered c) ≡ unnumbered (joined c)
joined_unnumbered end = refl
joined_unnumbered (link d parts rest) =
    let all = values (link d parts rest) in
    grind (arith, values_unnumbered (link d parts rest), after_unnumbered all, is_end_unnumbered (after all))

-- what is left, record numbers apart
abbrev pub unnumbered_left : Left → Left
unnumbered_left l = record { chain = unnumbered l.chain; changed = l.changed }

left_path : {c d : Chain} (b : Bool) → c ≡ d → ◌≡◌ {A = Left} (record { chain = c; changed = b }) (record { chain = d; changed = b })
left_path b q = λ i. record { chain = q i; changed = b }

done_unnumbered : (v : Verdict) (h : Head) (inner : Left) → done v (unnumbered_head h) (unnumbered_left inner) ≡ unnumbered_left (done v h inner)
done_unnumbered stays h inner = refl
done_unnumbered sweeps h inner = left_path inner.changed (ap (λ (c : Chain). link (unnumbered_head h) c end) (swept_unnumbered inner.chain))
done_unnumbered (empties names) h inner = refl
done_unnumbered (unlinks name) h inner = refl
done_unnumbered restates h inner = left_path true (ap (λ (c : Chain). link (become expression_statement (unnumbered_head h)) c end) (joined_unnumbered inner.chain))
done_unnumbered (yields name) h inner = left_path true (ap alone (after_unnumbered inner.chain) ∙ alone_unnumbered (after inner.chain))
done_unnumbered unwraps h inner = left_path true (ap alone (wrapped_unnumbered inner.chain) ∙ alone_unnumbered (wrapped_object inner.chain))

both_unnumbered : (x y : Left) → both (unnumbered_left x) (unnumbered_left y) ≡ unnumbered_left (both x y)
both_unnumbered x y = left_path (x.changed || y.changed) (append_unnumbered x.chain y.chain)

-- THE TESTS

module _ (by : By) (sees_no_number : (c : Chain) → by.config.acts (unnumbered c) ≡ by.config.acts c) where
  first_acts_unnumbered : (c : Chain) → first_acts by (unnumbered c) ≡ first_acts by c
  first_acts_unnumbered end = refl
  first_acts_unnumbered (link h cs rest) = sees_no_number (link h cs end)

  keeps_class_unnumbered : (c : Chain) → keeps_class by (unnumbered c) ≡ keeps_class by c
  keeps_class_unnumbered end = refl
  keeps_class_unnumbered (link h cs rest) = cc (sees_no_number (link h cs end), first_acts_unnumbered cs, keeps_class_unnumbered rest)

  name_goes_unnumbered : (p : Place) (v : Bool) (c : Chain) → name_goes by p v (unnumbered c) ≡ name_goes by p v c
  name_goes_unnumbered p v c = simp (first_is_unnumbered, first_name_unnumbered)

  all_go_unnumbered : (p : Place) (v : Bool) (c : Chain) → all_go by p v (unnumbered c) ≡ all_go by p v c
  all_go_unnumbered p v end = refl
  all_go_unnumbered p v (link d parts rest) = cc (name_goes_unnumbered p v parts, all_go_unnumbered p v rest)

  -- the value of a Declarator or an Assignment
  value_unnumbered : (c : Chain) → first_acts by (after (unnumbered c)) ≡ first_acts by (after c)
  value_unnumbered c = ap (first_acts by) (after_unnumbered c) ∙ first_acts_unnumbered (after c)

  class_goes_unnumbered : (p : Place) (h : Head) (c : Chain) → class_goes by p (unnumbered_head h) (unnumbered c) ≡ class_goes by p h c
  class_goes_unnumbered p h c = rw (below_unnumbered c, keeps_class_unnumbered (below c))

  declarator_goes_unnumbered : (p : Place) (h : Head) (c : Chain) → declarator_goes by p (unnumbered_head h) (unnumbered c) ≡ declarator_goes by p h c
  declarator_goes_unnumbered p h c = cc (name_goes_unnumbered p p.in_var c, value_unnumbered c)

  import_emptied_unnumbered : (h : Head) (found c : Chain) → import_emptied by (unnumbered_head h) (unnumbered found) (unnumbered c) ≡ import_emptied by h found c
  import_emptied_unnumbered h found c = rw (is_end_unnumbered found, is_end_unnumbered c)

  var_restates_unnumbered : (p : Place) (h : Head) (c : Chain) → var_restates by p (unnumbered_head h) (unnumbered c) ≡ var_restates by p h c
  var_restates_unnumbered p h c = rw (is_end_unnumbered c, all_go_unnumbered p (flagged h) c)

  assignment_yields_unnumbered : (p : Place) (h : Head) (c : Chain) → assignment_yields by p (unnumbered_head h) (unnumbered c) ≡ assignment_yields by p h c
  assignment_yields_unnumbered p h c = cc (first_is_unnumbered name_pattern c, value_unnumbered c, first_name_unnumbered c)

  verdict_unnumbered : (p : Place) (h : Head) (found c : Chain) → verdict by p (unnumbered_head h) (unnumbered found) (unnumbered c) ≡ verdict by p h found c
  verdict_unnumbered p h found c =
      cc (
        class_goes_unnumbered p h c,
        declarator_goes_unnumbered p h c,
        import_emptied_unnumbered h found c,
        var_restates_unnumbered p h c,
        assignment_yields_unnumbered p h c,
        wraps_object_unnumbered c,
        is_end_unnumbered c,
        first_name_unnumbered c,
      )

  treated_unnumbered : (into : Bool) (p : Place) (h : Head) (found : Chain) (inner : Left) → treated into by p (unnumbered_head h) (unnumbered found) (unnumbered_left inner) ≡ unnumbered_left (treated into by p h found inner)
  treated_unnumbered true p h found inner = ap (λ (v : Verdict). done v (unnumbered_head h) (unnumbered_left inner)) (verdict_unnumbered p h found inner.chain) ∙ done_unnumbered (verdict by p h found inner.chain) h inner
  treated_unnumbered false p h found inner = refl

  pub treat_unnumbered : (p : Place) (c : Chain) → treat by p (unnumbered c) ≡ unnumbered_left (treat by p c)
  treat_unnumbered p end = refl
  treat_unnumbered p (link h cs rest) =
      let inner = treat by (place_inside p h) cs in
      let into = entered p h cs (is_end rest) in
      let entry : entered p (unnumbered_head h) (unnumbered cs) (is_end (unnumbered rest)) ≡ into = entered_unnumbered p h cs (is_end (unnumbered rest)) ∙ ap (entered p h cs) (is_end_unnumbered rest) in
      ap₂ both (ap₂ (λ (b : Bool) (l : Left). treated b by p (unnumbered_head h) (unnumbered cs) l) entry (treat_unnumbered (place_inside p h) cs) ∙ treated_unnumbered into p h cs inner) (treat_unnumbered p rest)
      ∙ both_unnumbered (treated into by p h cs inner) (treat by p rest)
