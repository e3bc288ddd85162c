-- Counted references never grow: each reference of the tree that a removal leaves, with its holders and its record, stood in the
-- tree that it found. Rule by rule: what stays refers as before, what moves is an expression, and what a rule makes refers to nothing.
--
--   done_refers, treat_refers      one record; a chain
use Rattle.std.proofs.Common.{◌≡◌, false, List, sym, refl, subst, inl, inr, ⊎_elim, arith}
use Rattle.std.proofs.lemmas.Bool.{both_ways}
use Rattle.rules.specs.Tree.{Head, Chain, is_end, after}
use Rattle.rules.specs.Tree.Chain.{end, link}
use Rattle.rules.specs.Kinds.{assignment}
use Rattle.rules.specs.Grammar.{Way, assigned, children_of, step}
use Rattle.rules.specs.Held.{Formed}
use Rattle.rules.specs.Counting.{Event, Around, role_in, inside}
use Rattle.rules.specs.Removal.{By, Place, place_inside, entered, swept, Verdict, verdict, Left, done, treated, treat}
use Rattle.rules.specs.Removal.Verdict.{stays, sweeps, empties, unlinks, restates, yields, unwraps}
use Rattle.laws.proofs.Formed.{first_formed, assigned_value}
use Rattle.laws.proofs.Verdicts.{Means, means, treated_both}
use Rattle.laws.proofs.KeepsTable.{inner_ways}
use Rattle.laws.proofs.KeepsFormed.{inner_kept}
use Rattle.laws.proofs.RefersExported.{Exports, exports_swept, treat_exports}
use Rattle.laws.proofs.Refers.{Here, Refers, with_role, inside_var, refers_append, refers_swept, refers_after, refers_moved, refers_joined}
use Rattle.laws.proofs.RefersUnwrapped.{refers_unwrapped}

module _ (e : Event) where
  here_kept : (a : Around) (h : Head) (cs bs : Chain) → ((g : Head) → Exports g bs → Exports g cs) → Here a h bs e → Here a h cs e
  here_kept a h cs bs xs y = ⊎_elim (λ z. inl (z.0, (z.1.0, xs z.1.0 z.1.1, z.1.2))) (λ z. inr z) y

  done_refers : (by : By) (p : Place) (a : Around) (h : Head) (found : Chain) (inner : Left) → Formed (inner_ways h) inner.chain
      → ((g : Head) → Exports g inner.chain → Exports g found) → (Refers (inside a h) inner.chain e → Refers (inside a h) found e)
      → (v : Verdict) → Means by p h found inner.chain v → Refers a (done v h inner).chain e → Refers a (link h found end) e
  done_refers by p a h found inner k xs t stays m x = grind (arith, here_kept a h found inner.chain xs, t)
  done_refers by p a h found inner k xs t sweeps m x =
      grind (arith, here_kept a h found (swept inner.chain) (λ g z. xs g (exports_swept g inner.chain z)), t, refers_swept e (inside a h) inner.chain)
  done_refers by p a h found inner k xs t (empties ns) m x = grind arith
  done_refers by p a h found inner k xs t (unlinks n) m x = absurd x
  done_refers by p a h found inner k xs t restates m x = ⊎_elim
      (λ y. absurd (⊎_elim (λ z. both_ways false refl z.0) (λ z. z) y))
      (λ y. inr (⊎_elim
      (λ z. inl (t (subst (λ (o : Around). Refers o inner.chain e) (sym (inside_var a h m.kind))
      (refers_joined e a inner.chain (rw m.kind at k) z))))
      (λ z. absurd z) y)) x
  done_refers by p a h found inner k xs t (yields n) m x =
      inr (inl (t (subst (λ (o : Around). Refers o inner.chain e) (sym (inside_assignment a h m.kind))
      (refers_after e (with_role a (role_in a.role h)) inner.chain (refers_moved e a a.role (role_in a.role h) (after inner.chain) (inr (assigned_value (assigned h) inner.chain (rw m.kind at k))) x)))))
    where
      inside_assignment : (a : Around) (h : Head) → h.kind ≡ assignment → inside a h ≡ with_role a (role_in a.role h)
      inside_assignment a h k = rw k
  done_refers by p a h found inner k xs t unwraps m x = inr (inl (t (refers_unwrapped e a h inner.chain (first_formed (inner_ways h) inner.chain k) m x)))

  pub treat_refers : (by : By) (p : Place) (ways : List Way) (c : Chain) → Formed ways c → (a : Around) → Refers a (treat by p c).chain e → Refers a c e
  treat_refers by p ways end s a x = x
  treat_refers by p ways (link h cs rest) s a x =
      let inner = treat by (place_inside p h) cs in
      let here = treated (entered p h cs (is_end rest)) by p h cs inner in
      let first : Refers a here.chain e → Refers a (link h cs end) e
      = treated_both (entered p h cs (is_end rest)) by p h cs inner (λ (l : Left). Refers a l.chain e → Refers a (link h cs end) e)
      (λ _. done_refers by p a h cs inner (inner_kept by p h cs s.2) (λ g. treat_exports g by (place_inside p h) (children_of h) cs s.2)
      (treat_refers by (place_inside p h) (children_of h) cs s.2 (inside a h)) (verdict by p h cs inner.chain) (means by p h cs inner.chain))
      (λ _ y. y) in
      grind (arith, first, refers_append e a here.chain (treat by p rest).chain, treat_refers by p (step h.kind ways) rest s.3 a)
