-- What the filled tables tell of the events: each event's name has a row that grew, each holder has its edge to the name, and a counted
-- row has an event of its name. Each event changes what is observed as `look_entered` and `some_edge_entered` say, and later ones
-- take nothing back.
--
--   event_row, event_edge      by an event
--   counted_only               back
use Rattle.std.proofs.Common.{◌≡◌, Bool, true, false, ◌⊎◌, List, [], ◌∷◌, sym, refl, ◌∙◌, subst, inl, ⊎_elim, arith}
use Rattle.std.proofs.lemmas.Bool.{cond_both, cond-true, both_ways, or_left, or_right}
use Rattle.rules.specs.Tree.{Name}
use Rattle.rules.specs.Names.{same}
use Rattle.rules.specs.Counting.{Event}
use Rattle.rules.specs.Tables.{NameRow, Counts, no_rows, look}
use Rattle.laws.specs.Law.{In, Counted}
use Rattle.rules.proofs.SameNames.{same_eq, same_refl}
use Rattle.laws.proofs.TablesFilled.{adds, entered, filled, look_entered}
use Rattle.laws.proofs.TablesEdges.{some_edge, held_edge, some_edge_entered}

-- ROWS

module _ (pos : NameRow → Type 0) (grows : (e : Event) (r : NameRow) → pos r → pos (adds e r)) where
  row_stays : (n : Name) (es : List Event) (c : Counts) → pos (look n c.names) → pos (look n (filled es c).names)
  row_stays n [] c x = x
  row_stays n (e ∷ es) c x =
      let r = look n c.names in
      row_stays n es (entered e c) (subst pos (sym (look_entered n e c)) (cond_both (same n e.name) (adds e r) r pos (λ _. grows e r x) (λ _. x)))

  -- an event makes its name's row such, and such it stays
  pub event_row : (v : Event) → ((r : NameRow) → pos (adds v r)) → (es : List Event) (c : Counts) → In v es → pos (look v.name (filled es c).names)
  event_row v new [] c x = absurd x
  event_row v new (e ∷ es) c x = ⊎_elim
      (λ y. row_stays v.name es (entered e c) (subst (λ (u : Event). pos (look v.name (entered u c).names)) y
      (subst pos (sym (look_entered v.name v c ∙ cond-true (same v.name v.name) _ _ (same_refl v.name))) (new (look v.name c.names)))))
      (λ y. event_row v new es (entered e c) y) x

-- EDGES

module _ (p : Name → Name → Bool) where
  edge_stays : (es : List Event) (c : Counts) → some_edge p c.edges ≡ true → some_edge p (filled es c).edges ≡ true
  edge_stays [] c x = x
  edge_stays (e ∷ es) c x = edge_stays es (entered e c) (some_edge_entered p e c ∙ or_right (held_edge p e.holders e.name) _ x)

  holder_edge : (m n : Name) (holders : List Name) → In m holders → p m n ≡ true → held_edge p holders n ≡ true
  holder_edge m n [] x y = absurd x
  holder_edge m n (h ∷ hs) x y = grind (arith, holder_edge m n hs)

  -- each holder has its edge: a test that the two names pass is passed by some edge
  pub event_edge : (v : Event) (m : Name) → In m v.holders → p m v.name ≡ true → (es : List Event) (c : Counts) → In v es → some_edge p (filled es c).edges ≡ true
  event_edge v m h y [] c x = absurd x
  event_edge v m h y (e ∷ es) c x = ⊎_elim
      (λ z. edge_stays es (entered e c) (subst (λ (u : Event). some_edge p (entered u c).edges ≡ true) z
      (some_edge_entered p v c ∙ or_left (held_edge p v.holders v.name) _ (holder_edge m v.name v.holders h y))))
      (λ z. event_edge v m h y es (entered e c) z) x

-- BACK

counted_before : (n : Name) (es : List Event) (c : Counts) → (look n (filled es c).names).counted ≡ true → ((look n c.names).counted ≡ true) ⊎ Counted n es
counted_before n [] c x = inl x
counted_before n (e ∷ es) c x = grind (arith, counted_before n es (entered e c), look_entered n e c, same_eq n e.name)

-- a counted row has an event of its name
pub counted_only : (n : Name) (es : List Event) → (look n (filled es no_rows).names).counted ≡ true → Counted n es
counted_only n es x = ⊎_elim (λ y. absurd (both_ways false refl y)) (λ y. y) (counted_before n es no_rows x)
