-- A counted reference with holders stands inside a declaration of each of them: a name is on a path only below its declaration.
--
--   OnPaths, inside_on      a name on one of the paths; below a record
--   holder_inside           the theorem
use Rattle.std.proofs.Common.{◌≡◌, Bool, true, false, ◌||◌, ◌⊎◌, List, [], ◌∷◌, ap, inl, inr, ⊎_elim, arith}
use Rattle.std.proofs.lemmas.Bool.{cond_both}
use Rattle.rules.specs.Tree.{Head, Chain, Name, ◌is◌, name_of}
use Rattle.rules.specs.Tree.Chain.{end, link}
use Rattle.rules.specs.Kinds.{export_name, fn_declaration, class_declaration, identifier, call_expression, name_pattern, property_name}
use Rattle.rules.specs.Held.{Numbers}
use Rattle.rules.specs.Names.{among}
use Rattle.rules.specs.Counting.{Event, holders, refer, Found, nothing, Role, Around, outermost, put, reference, reading, writing, named_here, own, inside, events_of}
use Rattle.rules.specs.Counting.Role.{declared_here, written, read_and_written}
use Rattle.laws.specs.Law.{In, Reference, Inside}
use Rattle.laws.proofs.Basics.{in_append}
use Rattle.laws.proofs.RefersExported.{Exports}
use Rattle.laws.proofs.Refers.{Here, Refers}
use Rattle.laws.proofs.RefersCounted.{count_refers}

-- a name is on one of the paths
abbrev OnPaths : Name → List (List Name) → Type 0
OnPaths m [] = ⊥
OnPaths m (path ∷ outer) = In m path ⊎ OnPaths m outer

held_on : (m : Name) (paths : List (List Name)) → In m (holders paths) → OnPaths m paths
held_on m [] x = x
held_on m ([] ∷ outer) x = inr (held_on m outer x)
held_on m ((n ∷ path) ∷ outer) x = inl x

put_on : (m n : Name) (paths : List (List Name)) → OnPaths m (put n paths) → OnPaths m paths ⊎ (m ≡ n)
put_on m n [] x = absurd x
put_on m n (path ∷ outer) x = grind (arith, in_append m path (n ∷ []))

inside_on : (m : Name) (a : Around) (h : Head) → OnPaths m (inside a h).ast_paths → OnPaths m a.ast_paths ⊎ (((h is fn_declaration || h is class_declaration) ≡ true) × (m ≡ name_of h))
inside_on m a h x = grind (arith, put_on m (name_of h) a.ast_paths)

module _ (e : Event) where
  -- a reference of the record h
  abbrev Of : Around → Head → Type 0
  Of a h = (e.at ≡ h.number) × (e.holders ≡ holders a.ast_paths)

  reference_of : (a : Around) (w : Bool) (h : Head) → In e (reference a w h).events → Of a h
  reference_of a w h = cond_both (among (name_of h) a.cur_fn || among (name_of h) a.cur_class) [] (refer (name_of h) w (holders a.ast_paths) h.number ∷ [])
      (λ (es : List Event). In e es → Of a h)
      (λ _ y. absurd y)
      (λ _ y. ⊎_elim (λ z. (ap (λ (v : Event). v.at) z, ap (λ (v : Event). v.holders) z)) (λ z. absurd z) y)

  named_of : (a : Around) (r : Role) (h : Head) → In e (named_here a r h).events → Of a h
  named_of a declared_here h x = absurd x
  named_of a written h x = reference_of a true h x
  named_of a read_and_written h x = ⊎_elim (reference_of a false h) (reference_of a true h) (in_append e (reading a h).events (writing a h).events x)

  own_of : (a : Around) (h : Head) → In e (own a h end).events → Of a h
  own_of a h =
      let P = λ (f : Found). In e f.events → Of a h in
      cond_both (h is identifier || h is export_name) _ _ P (λ _. reference_of a false h) (λ _.
      cond_both (h is property_name) _ _ P (λ _. reference_of a true h) (λ _.
      cond_both (h is name_pattern) _ _ P (λ _. named_of a a.role h) (λ _.
      cond_both (h is call_expression) (record { events = []; found_arguments = false; found_direct_eval = false }) nothing P (λ _ x. absurd x) (λ _ x. absurd x))))

  exports_number : (g : Head) (c : Chain) → Exports g c → Numbers g.number c
  exports_number g end x = x
  exports_number g (link h cs rest) x = grind (arith, exports_number g cs, exports_number g rest)

  -- the reference stands in the record's chain, and its holders are the innermost path's
  here_of : (a : Around) (h : Head) (cs : Chain) → Here a h cs e → ((e.at ≡ h.number) ⊎ Numbers e.at cs) × (e.holders ≡ holders a.ast_paths)
  here_of a h cs (inl y) =
      let g = y.1.0 in
      let o = reference_of a false g y.1.2 in
      (inr (rw o.0 (exports_number g cs y.1.1)), o.1)
  here_of a h cs (inr y) = let o = own_of a h y in (inl o.0, o.1)

  refers_stands : (c : Chain) (a : Around) → Refers a c e → Numbers e.at c
  refers_stands end a x = x
  refers_stands (link h cs rest) a x = grind (arith, here_of a h cs, refers_stands cs (inside a h), refers_stands rest a)

  refers_inside : (m : Name) → In m e.holders → (c : Chain) (a : Around) → Refers a c e → OnPaths m a.ast_paths ⊎ Inside m e.at c
  refers_inside m g end a x = absurd x
  refers_inside m g (link h cs rest) a x =
      grind (arith, held_on m a.ast_paths, here_of a h cs, refers_inside m g cs (inside a h), refers_inside m g rest a, inside_on m a h, refers_stands cs (inside a h))

  pub holder_inside : (c : Chain) → Reference e → In e (events_of c) → (m : Name) → In m e.holders → Inside m e.at c
  holder_inside c r x m g = ⊎_elim (λ y. absurd (⊎_elim (λ z. z) (λ z. z) y)) (λ y. y) (refers_inside m g c outermost (count_refers e r c outermost x))
