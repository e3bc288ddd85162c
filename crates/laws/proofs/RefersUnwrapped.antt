-- A Call that gives way to the Object it wraps: the Object's Identifiers refer as they did below callee, Function, Block and return,
-- since none of these puts a name on a path or changes the innermost function or class.
--
--   AroundAlike, alike_inside      surroundings in which a reference is counted alike
--   refers_unwrapped               the theorem
use Rattle.std.specs.Prelude.{if◌then◌else◌}
use Rattle.std.proofs.Common.{◌≡◌, ℕ, Bool, true, false, eqb, List, [], ◌∷◌, sym, refl, ◌∙◌, inl, inr, ⊎_elim, arith}
use Rattle.std.proofs.lemmas.Bool.{both_ways}
use Rattle.std.proofs.lemmas.Bool.Decides.{nat_tests}
use Rattle.rules.specs.Tree.{Head, Chain, Name, ◌is◌, is_end, below, alone}
use Rattle.rules.specs.Tree.Chain.{end, link}
use Rattle.rules.specs.Kinds.{export_declaration, block, plain_statement, fn_declaration, class_declaration, function, identifier, function_expression, object, call_expression}
use Rattle.rules.specs.Grammar.{Way, children_of, step}
use Rattle.rules.specs.Held.{Formed}
use Rattle.rules.specs.Counting.{Event, holders, Around, own, inside}
use Rattle.rules.specs.Removal.{only_identifiers, wrapped_object}
use Rattle.laws.proofs.Formed.{first_kind, formed_none, FirstFormed, below_formed, callee_function}
use Rattle.laws.proofs.Verdicts.{Unwrapped, wraps}
use Rattle.laws.proofs.Refers.{Refers}

-- a reference is counted alike in both surroundings
pub record AroundAlike (a o : Around) : Type 0 where
  pub fns : a.cur_fn ≡ o.cur_fn
  pub classes : a.cur_class ≡ o.cur_class
  pub held : holders a.ast_paths ≡ holders o.ast_paths

alike_back : (a o : Around) → AroundAlike a o → AroundAlike o a
alike_back a o h = record { fns = sym h.fns; classes = sym h.classes; held = sym h.held }

alike_then : (a o u : Around) → AroundAlike a o → AroundAlike o u → AroundAlike a u
alike_then a o u h k = record { fns = h.fns ∙ k.fns; classes = h.classes ∙ k.classes; held = h.held ∙ k.held }

held_inside : (b : Bool) (paths : List (List Name)) → holders paths ≡ holders (if b then [] ∷ paths else paths)
held_inside true paths = refl
held_inside false paths = refl

alike_inside : (a : Around) (h : Head) (k : ℕ) → h.kind ≡ k → eqb k fn_declaration ≡ false → eqb k class_declaration ≡ false → AroundAlike a (inside a h)
alike_inside a h k g x y = record { fns = rw (g, x); classes = rw (g, y); held = rw (g, x, y) (held_inside _ a.ast_paths) }

not_kind : (k m : ℕ) (h : Head) → h.kind ≡ k → eqb k m ≡ false → h is m ≡ true → ⊥
not_kind k m h e g x = both_ways (h is m) (rw (e, g)) x

own_identifier : (a o : Around) (h : Head) → h.kind ≡ identifier → AroundAlike a o → (own a h end).events ≡ (own o h end).events
own_identifier a o h k s = rw (k, s.fns, s.classes, s.held)

own_object : (a : Around) (h : Head) → h.kind ≡ object → (own a h end).events ≡ []
own_object a h k = rw k

-- a chain's first record, or another
abbrev first_head : Head → Chain → Head
first_head d end = d
first_head d (link h cs rest) = h

first_head_kind : (k : ℕ) (d : Head) (c : Chain) → first_kind c ≡ k → eqb 0 k ≡ false → (first_head d c).kind ≡ k
first_head_kind k d end e g = absurd (both_ways (eqb 0 k) g (rw (← e)))
first_head_kind k d (link h cs rest) e g = e

module _ (e : Event) where
  refers_below : (a : Around) (d : Head) (c : Chain) → Refers (inside a (first_head d c)) (below c) e → Refers a c e
  refers_below a d end x = x
  refers_below a d (link h cs rest) x = inr (inl x)

  no_children : (a : Around) (c : Chain) → is_end c ≡ true → Refers a c e → ⊥
  no_children a end g x = x
  no_children a (link h cs rest) g x = both_ways false refl g

  refers_identifiers : (a o : Around) (ways : List Way) (c : Chain) → AroundAlike a o → Formed ways c → only_identifiers c ≡ true → Refers a c e → Refers o c e
  refers_identifiers a o ways end s t g x = x
  refers_identifiers a o ways (link h cs rest) s t g x =
      let k : h.kind ≡ identifier = grind (arith, nat_tests) in
      let others : only_identifiers rest ≡ true = grind arith in
      ⊎_elim
      (λ y. inl (⊎_elim (λ z. absurd (not_kind identifier export_declaration h k refl z.0)) (λ z. inr (rw (own_identifier a o h k s) at z)) y))
      (λ y. inr (⊎_elim (λ z. absurd (no_children (inside a h) cs (formed_none cs (rw k at t.2)) z)) (λ z. inr (refers_identifiers a o (step h.kind ways) rest s t.3 others z)) y)) x

  refers_object : (a o : Around) (c : Chain) → AroundAlike a o → FirstFormed c → first_kind c ≡ object → only_identifiers (below c) ≡ true → Refers a (alone c) e → Refers o c e
  refers_object a o end s t k g x = x
  refers_object a o (link h cs rest) s t k g x =
      let i = alike_then (inside a h) a (inside o h) (alike_back a (inside a h) (alike_inside a h object k refl refl))
      (alike_then a o (inside o h) s (alike_inside o h object k refl refl)) in
      ⊎_elim
      (λ y. absurd (⊎_elim (λ z. not_kind object export_declaration h k refl z.0) (λ z. rw (own_object a h k) at z) y))
      (λ y. ⊎_elim (λ z. inr (inl (refers_identifiers (inside a h) (inside o h) (children_of h) cs i t.formed g z))) (λ z. absurd z) y) x

  pub refers_unwrapped : (a : Around) (h : Head) (bs : Chain) → FirstFormed bs → Unwrapped h bs → Refers a (alone (wrapped_object bs)) e → Refers (inside a h) bs e
  refers_unwrapped a h bs t m x =
      let w = wraps bs m.wraps in
      let f = below bs in
      let b = below f in
      let r = below b in
      let o0 = inside a h in
      let o1 = inside o0 (first_head h bs) in
      let o2 = inside o1 (first_head h f) in
      let o3 = inside o2 (first_head h b) in
      let o4 = inside o3 (first_head h r) in
      let s0 = alike_inside a h call_expression m.kind refl refl in
      let s1 = alike_inside o0 (first_head h bs) function_expression (first_head_kind function_expression h bs w.callee refl) refl refl in
      let s2 = alike_inside o1 (first_head h f) function (first_head_kind function h f (callee_function bs t w.callee) refl) refl refl in
      let s3 = alike_inside o2 (first_head h b) block (first_head_kind block h b w.block refl) refl refl in
      let s4 = alike_inside o3 (first_head h r) plain_statement (first_head_kind plain_statement h r w.return refl) refl refl in
      let s = alike_then a o3 o4 (alike_then a o2 o3 (alike_then a o1 o2 (alike_then a o0 o1 s0 s1) s2) s3) s4 in
      let t4 = below_formed r (below_formed b (below_formed f (below_formed bs t))) in
      refers_below o0 h bs (refers_below o1 h f (refers_below o2 h b (refers_below o3 h r
      (refers_object a o4 (wrapped_object bs) s t4 w.object w.names x))))
