-- Names set free: the names whose declaration a pass took are unused by its discounted rows, those of which an Assignment gave way are
-- never read. A reference to such a name that was counted has holders, all of its closed ring: outside closed rings the row is
-- as counted, and would not be free; in one, each holder has its edge, and without a holder the name would be an entry.
--
--   HeldInRing, unused_within, unread_within      the references to a free name
--   taken_unused, gave_unread                     the names taken and given
use Rattle.std.specs.Prelude.{if◌then◌else◌}
use Rattle.std.proofs.Common.{◌≡◌, ◌≤◌, Bool, true, false, List, [], ◌∷◌, ◌++◌, sym, refl, ◌∙◌, subst, ⊎_elim, arith}
use Rattle.std.proofs.lemmas.Bool.{or_left, or_right, false_from_ne_true, true_from_ne_false}
use Rattle.std.proofs.lemmas.Bool.Decides.{nat_tests}
use Rattle.rules.specs.Tree.{Head, Chain, Name, flagged, is_end, first_name}
use Rattle.rules.specs.Tree.Chain.{end, link}
use Rattle.rules.specs.Names.{among}
use Rattle.rules.specs.Counting.{Event, unheld}
use Rattle.rules.specs.Tables.{NameRow, Counts, no_rows, look}
use Rattle.rules.specs.Rings.{component, closed, discount}
use Rattle.rules.specs.Removal.{Config, By, Place, place_inside, unused, never_read, entered, all_go, Verdict, verdict, treat, declarator_names, takes, gives, taken, gave}
use Rattle.rules.specs.Removal.Verdict.{stays, sweeps, empties, unlinks, restates, yields, unwraps}
use Rattle.laws.specs.Law.{In, Reference}
use Rattle.laws.proofs.Basics.{in_append, only_if}
use Rattle.laws.proofs.Verdicts.{Unused, Means, can_unused, means}
use Rattle.laws.proofs.TablesFilled.{filled}
use Rattle.laws.proofs.TablesTold.{event_row, event_edge}
use Rattle.laws.proofs.RingsDiscount.{open_row}
use Rattle.laws.proofs.RingsClosed.{closed_edge, closed_entry}

-- ROWS

-- the references to a name that is free: it stands in a closed ring, and its references have holders, all of that ring
pub record HeldInRing (c : Counts) (e : Event) : Type 0 where
  pub ring : closed c e.name ≡ true
  pub held : unheld e.holders ≡ false
  pub shares : (m : Name) → In m e.holders → among m (component c.edges e.name) ≡ true

module _ (es : List Event) (e : Event) (r : Reference e) (x : In e es) where
  -- the tables that the events fill
  abbrev c : Counts
  c = filled es no_rows

  closed_within : closed c e.name ≡ true → HeldInRing c e
  closed_within g = record {
    ring = g;
    held = false_from_ne_true (unheld e.holders)
        (λ u. closed_entry c e.name g (event_row (λ (s : NameRow). s.entry ≡ true) (λ v s y. or_left s.entry v.entry y) e (λ s. or_right s.entry e.entry (r ∙ u)) es no_rows x));
    shares = λ m h. closed_edge c m e.name g (λ p y. event_edge p e m h y es no_rows x);
  }

  is_counted : (look e.name c.names).counted ≡ true
  is_counted = event_row (λ (s : NameRow). s.counted ≡ true) (λ v s y. refl) e (λ s. refl) es no_rows x

  is_read : e.writes ≡ false → 1 ≤ (look e.name c.names).usage
  is_read w = event_row (λ (s : NameRow). 1 ≤ s.usage) (λ v s y. omega arith) e (λ s. rw w (omega arith)) es no_rows x

  is_written : e.writes ≡ true → 1 ≤ (look e.name c.names).assign
  is_written w = event_row (λ (s : NameRow). 1 ≤ s.assign) (λ v s y. omega arith) e (λ s. rw w (omega arith)) es no_rows x

  pub unused_within : unused (look e.name (discount c)) ≡ true → HeldInRing c e
  unused_within h =
      closed_within (true_from_ne_false (closed c e.name) (λ g. grind (arith, nat_tests, open_row c e.name g, is_counted, is_read, is_written)))

  pub unread_within : (k : Config) → e.writes ≡ false → never_read k (look e.name (discount c)) ≡ true → HeldInRing c e
  unread_within k w h = closed_within (true_from_ne_false (closed c e.name) (λ g. grind (arith, nat_tests, open_row c e.name g, is_read w)))

-- NAMES

in_unused : (by : By) (n : Name) (ns : List Name) → Unused by ns → In n ns → unused (by.row n) ≡ true
in_unused by n [] u x = absurd x
in_unused by n (m ∷ ns) u x = grind (arith, in_unused by n ns)

all_unused : (by : By) (p : Place) (v : Bool) (c : Chain) → all_go by p v c ≡ true → Unused by (declarator_names c)
all_unused by p v end g = tt
all_unused by p v (link d parts rest) g = (can_unused by p v (first_name parts) (grind arith), all_unused by p v rest (grind arith))

takes_unused : (by : By) (p : Place) (h : Head) (found children : Chain) (n : Name) (v : Verdict) → Means by p h found children v → In n (takes v children) → unused (by.row n) ≡ true
takes_unused by p h found children n stays m x = absurd x
takes_unused by p h found children n sweeps m x = absurd x
takes_unused by p h found children n (empties ns) m x = in_unused by n ns m.free x
takes_unused by p h found children n (unlinks k) m x = in_unused by n (k ∷ []) (m.free, tt) x
takes_unused by p h found children n restates m x = in_unused by n (declarator_names children) (all_unused by p (flagged h) children m.go) x
takes_unused by p h found children n (yields k) m x = absurd x
takes_unused by p h found children n unwraps m x = absurd x

gives_unread : (by : By) (p : Place) (h : Head) (found children : Chain) (n : Name) (v : Verdict) → Means by p h found children v → In n (gives v) → never_read by.config (by.row n) ≡ true
gives_unread by p h found children n stays m x = absurd x
gives_unread by p h found children n sweeps m x = absurd x
gives_unread by p h found children n (empties ns) m x = absurd x
gives_unread by p h found children n (unlinks k) m x = absurd x
gives_unread by p h found children n restates m x = absurd x
gives_unread by p h found children n (yields k) m x = ⊎_elim (λ y. subst (λ (j : Name). never_read by.config (by.row j) ≡ true) (sym y) m.free) (λ y. absurd y) x
gives_unread by p h found children n unwraps m x = absurd x

-- what holds of each name that a verdict loses holds of each that a removal loses
lost_names : (by : By) (n : Name) (P : Type 0) (lost : Place → Chain → List Name) (mine : Verdict → Chain → List Name) → ((p : Place) → In n (lost p end) → ⊥)
    → ((p : Place) (h : Head) (cs rest : Chain) → let bs = (treat by (place_inside p h) cs).chain in
    lost p (link h cs rest) ≡ (if entered p h cs (is_end rest) then mine (verdict by p h cs bs) bs ++ lost (place_inside p h) cs else []) ++ lost p rest)
    → ((p : Place) (h : Head) (found children : Chain) (v : Verdict) → Means by p h found children v → In n (mine v children) → P)
    → (c : Chain) (p : Place) → In n (lost p c) → P
lost_names by n P lost mine none split each end p x = absurd (none p x)
lost_names by n P lost mine none split each (link h cs rest) p x =
    let bs = (treat by (place_inside p h) cs).chain in
    let v = verdict by p h cs bs in
    let under = lost (place_inside p h) cs in
    let here = if entered p h cs (is_end rest) then mine v bs ++ under else [] in
    ⊎_elim
    (λ y. ⊎_elim (each p h cs bs v (means by p h cs bs)) (lost_names by n P lost mine none split each cs (place_inside p h))
    (in_append n (mine v bs) under (only_if (In n) (entered p h cs (is_end rest)) (mine v bs ++ under) [] (λ z. z) y).1))
    (lost_names by n P lost mine none split each rest p)
    (in_append n here (lost p rest) (subst (In n) (split p h cs rest) x))

pub taken_unused : (by : By) (n : Name) (c : Chain) (p : Place) → In n (taken by p c) → unused (by.row n) ≡ true
taken_unused by n =
    lost_names by n (unused (by.row n) ≡ true) (taken by) takes (λ p x. x) (λ p h cs rest. refl) (λ p h found children v m. takes_unused by p h found children n v m)

pub gave_unread : (by : By) (n : Name) (c : Chain) (p : Place) → In n (gave by p c) → never_read by.config (by.row n) ≡ true
gave_unread by n =
    lost_names by n (never_read by.config (by.row n) ≡ true) (gave by) (λ v cs. gives v) (λ p x. x) (λ p h cs rest. refl)
    (λ p h found children v m. gives_unread by p h found children n v m)
