-- The counted references of a tree, place by place, and what moves them: lists of records one after another, swept lists, and
-- expressions, which count alike wherever the same scopes surround them.
--
--   Here, Refers                    an event is a reference of the record itself; of a chain
--   with_role                       the same surroundings with another role of a Name pattern
--   refers_append, refers_swept, refers_after, refers_moved      what moves
--   refers_joined                   the values of a Var's Declarators
use Rattle.std.proofs.Common.{◌≡◌, true, false, ◌⊎◌, sym, refl, subst, inl, inr, ⊎_elim, arith}
use Rattle.std.proofs.lemmas.Bool.{both_ways, eqb-true}
use Rattle.rules.specs.Tree.{Head, Chain, ◌is◌, is_end, after, alone, append}
use Rattle.rules.specs.Tree.Chain.{end, link}
use Rattle.rules.specs.Kinds.{export_declaration, var_declaration, declarator, name_pattern, compound_pattern, default_pattern, expression, only}
use Rattle.rules.specs.Held.{Formed}
use Rattle.rules.specs.Counting.{Event, Role, Around, reading, own, inside}
use Rattle.rules.specs.Counting.Role.{declared_here, written}
use Rattle.rules.specs.Removal.{swept, values, joined}
use Rattle.laws.specs.Law.{In}
use Rattle.laws.proofs.Basics.{swept_both, joined_both}
use Rattle.laws.proofs.Formed.{first_kind, listed, declarator_value}
use Rattle.laws.proofs.KeepsTable.{declarators}
use Rattle.laws.proofs.RefersExported.{Exports, other_kind}

-- the record h refers: for a name that it exports, or by itself
abbrev pub Here : Around → Head → Chain → Event → Type 0
Here a h cs e = ((h is export_declaration ≡ true) × ((g : Head) × Exports g cs × In e (reading a g).events)) ⊎ In e (own a h end).events

-- a record of the chain or below refers
abbrev pub Refers : Around → Chain → Event → Type 0
Refers a end e = ⊥
Refers a (link h cs rest) e = Here a h cs e ⊎ (Refers (inside a h) cs e ⊎ Refers a rest e)

-- the same scopes, another role
abbrev pub with_role : Around → Role → Around
with_role a r = record { cur_fn = a.cur_fn; cur_class = a.cur_class; ast_paths = a.ast_paths; role = r }

own_expression : (a : Around) (h : Head) (r s : Role) → expression h.kind ≡ true → (own (with_role a r) h end).events ≡ (own (with_role a s) h end).events
own_expression a h r s x = rw (other_kind h.kind name_pattern x refl)

inside_expression : (a : Around) (h : Head) (r s : Role) → expression h.kind ≡ true → inside (with_role a r) h ≡ inside (with_role a s) h
inside_expression a h r s x = rw (other_kind h.kind compound_pattern x refl, other_kind h.kind default_pattern x refl)

inside_declarator : (a : Around) (h : Head) → h.kind ≡ declarator → inside a h ≡ with_role a declared_here
inside_declarator a h k = rw k

pub inside_var : (a : Around) (h : Head) → h.kind ≡ var_declaration → inside a h ≡ with_role a written
inside_var a h k = rw k

module _ (e : Event) where
  pub refers_append : (a : Around) (c d : Chain) → Refers a (append c d) e → Refers a c e ⊎ Refers a d e
  refers_append a end d x = inr x
  refers_append a (link h cs rest) d x = grind (arith, refers_append a rest d)

  pub refers_swept : (a : Around) (c : Chain) → Refers a (swept c) e → Refers a c e
  refers_swept a end = λ x. x
  refers_swept a (link h cs rest) =
      swept_both (λ (c : Chain). Refers a c e → Refers a (link h cs rest) e) h cs rest
      (λ _ x. inr (inr (refers_swept a rest x)))
      (λ x. ⊎_elim (λ y. inl y) (λ z. inr (⊎_elim (λ y. inl y) (λ y. inr (refers_swept a rest y)) z)) x)

  pub refers_after : (a : Around) (c : Chain) → Refers a (after c) e → Refers a c e
  refers_after a end x = x
  refers_after a (link h cs rest) x = inr (inr x)

  -- an expression refers alike whatever the role of a Name pattern
  pub refers_moved : (a : Around) (r s : Role) (c : Chain) → (is_end c ≡ true) ⊎ (expression (first_kind c) ≡ true) → Refers (with_role a r) (alone c) e → Refers (with_role a s) c e
  refers_moved a r s end x y = y
  refers_moved a r s (link h cs rest) x y =
      let k : expression h.kind ≡ true = ⊎_elim (λ z. absurd (both_ways false refl z)) (λ z. z) x in
      ⊎_elim
      (λ z. inl (⊎_elim (λ w. absurd (both_ways (h is export_declaration) (other_kind h.kind export_declaration k refl) w.0))
      (λ w. inr (rw (own_expression a h r s k) at w)) z))
      (λ z. inr (⊎_elim (λ w. inl (rw (inside_expression a h r s k) at w)) (λ w. absurd w) z)) y

  refers_values : (a : Around) (c : Chain) → Formed declarators c → Refers (with_role a written) (values c) e → Refers (with_role a written) c e
  refers_values a end s x = x
  refers_values a (link d parts rest) s x =
      let l = listed (only declarator) d parts rest s in
      let k = eqb-true d.kind declarator l.0 in
      ⊎_elim
      (λ y. inr (inl (subst (λ (o : Around). Refers o parts e) (sym (inside_declarator (with_role a written) d k))
      (refers_after (with_role a declared_here) parts (refers_moved a written declared_here (after parts) (declarator_value d parts k s.2) y)))))
      (λ y. inr (inr (refers_values a rest l.1 y)))
      (refers_append (with_role a written) (alone (after parts)) (values rest) x)

  pub refers_joined : (a : Around) (c : Chain) → Formed declarators c → Refers (with_role a written) (joined c) e → Refers (with_role a written) c e
  refers_joined a end s = λ x. x
  refers_joined a (link d parts rest) s =
      let c = link d parts rest in
      joined_both (λ (l : Chain). Refers (with_role a written) l e → Refers (with_role a written) c e) d parts rest
      (λ _ x. refers_values a c s x)
      (λ x. ⊎_elim (λ y. absurd (⊎_elim (λ z. both_ways false refl z.0) (λ z. z) y)) (λ y. ⊎_elim (λ z. refers_values a c s z) (λ z. absurd z) y) x)
