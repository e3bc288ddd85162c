-- The events of a count that are references are the references of the tree, place by place: what leaving a scope adds are marks.
--
--   count_refers, refers_count      an event of the count is a reference of the tree, and back
use Rattle.std.specs.Prelude.{if◌then◌else◌}
use Rattle.std.proofs.Common.{◌≡◌, ℕ, Bool, List, [], ◌∷◌, ◌++◌, sym, refl, subst, inl, inr, ⊎_elim, arith}
use Rattle.rules.specs.Tree.{Head, Chain, Name, ◌is◌}
use Rattle.rules.specs.Tree.Chain.{end, link}
use Rattle.rules.specs.Kinds.{export_declaration}
use Rattle.rules.specs.Names.{exported}
use Rattle.rules.specs.Counting.{Event, Found, nothing, Around, reading, readings, marks, own, opens, leave, inside, count}
use Rattle.laws.specs.Law.{In, Reference}
use Rattle.laws.proofs.Basics.{in_append, in_left, in_right, only_if}
use Rattle.laws.proofs.RefersExported.{in_exported, exported_in}
use Rattle.laws.proofs.Refers.{Refers}

-- what a record refers to does not hang on its children
own_events : (a : Around) (h : Head) (cs : Chain) → (own a h cs).events ≡ (own a h end).events
own_events a h cs = grind arith

in_readings : (e : Event) (a : Around) (hs : List Head) → In e (readings a hs).events → (g : Head) × In g hs × In e (reading a g).events
in_readings e a [] x = absurd x
in_readings e a (h ∷ hs) x = ⊎_elim (λ y. (h, inl refl, y)) (λ y. let r = in_readings e a hs y in (r.0, inr r.1, r.2)) (in_append e (reading a h).events (readings a hs).events x)

readings_in : (e : Event) (a : Around) (g : Head) (hs : List Head) → In g hs → In e (reading a g).events → In e (readings a hs).events
readings_in e a g [] x y = absurd x
readings_in e a g (h ∷ hs) x y =
    grind (arith, in_left e (reading a h).events (readings a hs).events, in_right e (reading a h).events (readings a hs).events, readings_in e a g hs)

-- what is found below a record, its scope left
abbrev left_of : Head → Chain → Found → Found
left_of h cs f = if opens h then leave h cs f else f

module _ (e : Event) (r : Reference e) where
  no_mark : (at : ℕ) (ns : List Name) → In e (marks at ns) → ⊥
  no_mark at [] x = x
  no_mark at (n ∷ ns) x = grind (arith, no_mark at ns)

  left_in : (b : Bool) (h : Head) (cs : Chain) (f : Found) → In e (if b then leave h cs f else f).events → In e f.events
  left_in b h cs f x = grind (arith, in_append e, no_mark h.number)

  pub count_refers : (c : Chain) (a : Around) → In e (count a c).events → Refers a c e
  count_refers end a x = x
  count_refers (link h cs rest) a x =
      let before = (if h is export_declaration then readings a (exported cs) else nothing).events in
      let inner = count (inside a h) cs in
      let under = (left_of h cs inner).events in
      let mine = (own a h cs).events in
      let onward = (count a rest).events in
      ⊎_elim
      (λ y.
      let z = only_if (λ (f : Found). In e f.events) (h is export_declaration) (readings a (exported cs)) nothing (λ z. z) y in
      let g = in_readings e a (exported cs) z.1 in
      inl (inl (z.0, (g.0, in_exported g.0 cs g.1, g.2))))
      (λ y. grind (arith, in_append e under (mine ++ onward) y, in_append e mine onward, left_in (opens h) h cs inner, count_refers cs (inside a h), count_refers rest a, own_events a h cs))
      (in_append e before (under ++ (mine ++ onward)) x)

in_left_of : (e : Event) (b : Bool) (h : Head) (cs : Chain) (f : Found) → In e f.events → In e (if b then leave h cs f else f).events
in_left_of e b h cs f x = grind (arith, in_left e)

pub refers_count : (e : Event) (c : Chain) (a : Around) → Refers a c e → In e (count a c).events
refers_count e end a x = x
refers_count e (link h cs rest) a x =
    let before = (if h is export_declaration then readings a (exported cs) else nothing).events in
    let inner = count (inside a h) cs in
    let under = (left_of h cs inner).events in
    let mine = (own a h cs).events in
    let onward = (count a rest).events in
    ⊎_elim
    (λ y. ⊎_elim
    (λ z. in_left e before (under ++ (mine ++ onward)) (rw z.0 (readings_in e a z.1.0 (exported cs) (exported_in z.1.0 cs z.1.1) z.1.2)))
    (λ z. in_right e before (under ++ (mine ++ onward)) (in_right e under (mine ++ onward) (in_left e mine onward (subst (λ (es : List Event). In e es) (sym (own_events a h cs)) z)))) y)
    (λ y. in_right e before (under ++ (mine ++ onward)) (⊎_elim
    (λ z. in_left e under (mine ++ onward) (in_left_of e (opens h) h cs inner (refers_count e cs (inside a h) z)))
    (λ z. in_right e under (mine ++ onward) (in_right e mine onward (refers_count e rest a z))) y)) x
