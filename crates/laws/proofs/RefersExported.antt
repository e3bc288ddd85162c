-- What a removal leaves to export was exported before: no rule puts a declaration or pattern where an Export declaration looks,
-- since Empty, Expression statements and expressions declare nothing.
--
--   Exports, in_exported, exported_in      the records that an Export declaration exports, place by place
--   treat_exports                          none comes by a removal
use Rattle.std.specs.Prelude.{if◌then◌else◌}
use Rattle.std.proofs.Common.{◌≡◌, ℕ, Bool, true, false, ◌||◌, eqb, ◌⊎◌, List, [], inr, arith}
use Rattle.std.proofs.lemmas.Bool.Decides.{nat_tests}
use Rattle.rules.specs.Tree.{Head, Chain, ◌is◌, is_end, after, alone, append}
use Rattle.rules.specs.Tree.Chain.{end, link}
use Rattle.rules.specs.Kinds.{fn_declaration, class_declaration, var_declaration, declarator, expression}
use Rattle.rules.specs.Grammar.{Way, assigned, children_of, step}
use Rattle.rules.specs.Held.{Formed}
use Rattle.rules.specs.Names.{binds, nests, exported}
use Rattle.rules.specs.Removal.{By, Place, place_inside, entered, swept, wrapped_object, Verdict, verdict, Left, done, treated, treat}
use Rattle.rules.specs.Removal.Verdict.{stays, sweeps, empties, unlinks, restates, yields, unwraps}
use Rattle.laws.specs.Law.{In}
use Rattle.laws.proofs.Basics.{in_append, in_left, in_right}
use Rattle.laws.proofs.Formed.{first_kind, assigned_value}
use Rattle.laws.proofs.Verdicts.{wraps, Means, means, treated_both}
use Rattle.laws.proofs.KeepsTable.{inner_ways}
use Rattle.laws.proofs.KeepsFormed.{inner_kept}

-- a record bears an exported name
abbrev bears : Head → Bool
bears h = h is fn_declaration || h is class_declaration || binds h

-- the names exported by a record's children are its own
abbrev carries : Head → Bool
carries h = h is var_declaration || h is declarator || nests h

-- g is one of the records that bear exported names
abbrev pub Exports : Head → Chain → Type 0
Exports g end = ⊥
Exports g (link h cs rest) = ((bears h ≡ true) × (g ≡ h)) ⊎ (((carries h ≡ true) × Exports g cs) ⊎ Exports g rest)

pub in_exported : (g : Head) (c : Chain) → In g (exported c) → Exports g c
in_exported g end x = x
in_exported g (link h cs rest) x =
    grind (arith, in_append g (if carries h then exported cs else []) (exported rest), in_exported g cs, in_exported g rest)

pub exported_in : (g : Head) (c : Chain) → Exports g c → In g (exported c)
exported_in g end x = x
exported_in g (link h cs rest) x =
    let under = if carries h then exported cs else [] in
    grind (arith, in_left g under (exported rest), in_right g under (exported rest), exported_in g cs, exported_in g rest)

-- an expression is of no other kind
pub other_kind : (k m : ℕ) → expression k ≡ true → expression m ≡ false → eqb k m ≡ false
other_kind k m x y = grind (arith, nat_tests)

expression_bears : (h : Head) → expression h.kind ≡ true → bears h ≡ false
expression_bears h x = grind (arith, nat_tests)

expression_carries : (h : Head) → expression h.kind ≡ true → carries h ≡ false
expression_carries h x = grind (arith, nat_tests)

module _ (g : Head) where
  exports_append : (c d : Chain) → Exports g (append c d) → Exports g c ⊎ Exports g d
  exports_append end d x = inr x
  exports_append (link h cs rest) d x = grind (arith, exports_append rest d)

  pub exports_swept : (c : Chain) → Exports g (swept c) → Exports g c
  exports_swept end x = x
  exports_swept (link h cs rest) x = grind (arith, exports_swept rest)

  -- an expression exports nothing
  expression_exports : (c : Chain) → expression (first_kind c) ≡ true → Exports g (alone c) → ⊥
  expression_exports end x y = y
  expression_exports (link h cs rest) x y = grind (arith, expression_bears h x, expression_carries h x)

  done_exports : (by : By) (p : Place) (h : Head) (found : Chain) (inner : Left) → Formed (inner_ways h) inner.chain → (Exports g inner.chain → Exports g found)
      → (v : Verdict) → Means by p h found inner.chain v → Exports g (done v h inner).chain → Exports g (link h found end)
  done_exports by p h found inner k t stays m x = grind (arith, t)
  done_exports by p h found inner k t sweeps m x = grind (arith, t, exports_swept inner.chain)
  done_exports by p h found inner k t (empties ns) m x = grind arith
  done_exports by p h found inner k t (unlinks n) m x = absurd x
  done_exports by p h found inner k t restates m x = grind arith
  done_exports by p h found inner k t (yields n) m x = absurd (expression_exports (after inner.chain) (assigned_value (assigned h) inner.chain (rw m.kind at k)) x)
  done_exports by p h found inner k t unwraps m x =
      absurd (expression_exports (wrapped_object inner.chain) (rw (wraps inner.chain m.wraps).object) x)

  pub treat_exports : (by : By) (p : Place) (ways : List Way) (c : Chain) → Formed ways c → Exports g (treat by p c).chain → Exports g c
  treat_exports by p ways end s x = x
  treat_exports by p ways (link h cs rest) s x =
      let inner = treat by (place_inside p h) cs in
      let here = treated (entered p h cs (is_end rest)) by p h cs inner in
      let first : Exports g here.chain → Exports g (link h cs end)
      = treated_both (entered p h cs (is_end rest)) by p h cs inner (λ (l : Left). Exports g l.chain → Exports g (link h cs end))
      (λ _. done_exports by p h cs inner (inner_kept by p h cs s.2) (treat_exports by (place_inside p h) (children_of h) cs s.2)
      (verdict by p h cs inner.chain) (means by p h cs inner.chain))
      (λ _ y. y) in
      grind (arith, first, exports_append here.chain (treat by p rest).chain, treat_exports by p (step h.kind ways) rest s.3)
