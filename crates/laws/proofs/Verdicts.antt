-- What a verdict tells of the record that it is about: its kind, and the tests of the rule that it came from.
-- The nest of the rules' tests is opened here; the other pages reason about a verdict by what it tells.
--
--   Emptying, Unlinking                                           the records that become Empty; those that are unlinked
--   Emptied, Unlinked, Restated, Yielded, Unwrapped, Staying      what each verdict tells
--   Means, means                                                  the verdict of a record tells it
--   treated_both                                                  a fact on what is left of a record, by whether the rules enter it
--   Kept, treated_kept                                            a record that is treated without a change
--   with_kind, by_list                                            a fact on a record that has a list, by its kind
--   emptying_kind, emptied_other                                  the kinds that become Empty
--   entered_anywhere                                              outside a For it does not matter whether a record comes last
--   Wraps, wraps                                                  the parts of a Call that wraps an Object
use Rattle.std.specs.List.{list_all}
use Rattle.std.proofs.Common.{◌≡◌, ℕ, Bool, true, false, not, eqb, List, [], ◌∷◌, refl, arith}
use Rattle.std.proofs.lemmas.Bool.{cond_both, both_ways, eqb-true}
use Rattle.std.proofs.lemmas.Bool.Decides.{nat_tests}
use Rattle.rules.specs.Tree.{Head, Chain, Name, flagged, name_of, is_end, below, first_is, first_name}
use Rattle.rules.specs.Tree.Chain.{end, link}
use Rattle.rules.specs.Kinds.{module_root, script_root, import_item, specifier, block, plain_statement, fn_declaration, class_declaration, var_declaration, for_statement, declarator, function_expression, object, call_expression, assignment, member}
use Rattle.rules.specs.Removal.{By, Place, unused, never_read, can_drop_binding, has_list, entered, swept, all_go, only_identifiers, wraps_object, wrapped_object, fn_goes, class_goes, declarator_goes, specifier_goes, import_emptied, var_emptied, var_restates, assignment_yields, call_unwraps, Verdict, verdict, Left, unchanged, done, treated}
use Rattle.rules.specs.Removal.Verdict.{stays, sweeps, empties, unlinks, restates, yields, unwraps}
use Rattle.laws.proofs.Basics.{each_member, all_member}
use Rattle.laws.proofs.Formed.{first_kind}

-- each name of a list is unused
abbrev pub Unused : By → List Name → Type 0
Unused by [] = Unit {0}
Unused by (n ∷ ns) = (unused (by.row n) ≡ true) × Unused by ns

-- the records that become Empty: a declaration that is not exported, an Import that had children, a Var that has none left
pub data Emptying (p : Place) (h : Head) (found children : Chain) : Type 0 where
  fn : h.kind ≡ fn_declaration → p.in_export ≡ false → Emptying p h found children
  class : h.kind ≡ class_declaration → p.in_export ≡ false → Emptying p h found children
  imports : h.kind ≡ import_item → is_end found ≡ false → Emptying p h found children
  var : h.kind ≡ var_declaration → is_end children ≡ true → Emptying p h found children

-- the records that are unlinked: a Declarator that is not exported, a Specifier
pub data Unlinking (p : Place) (h : Head) : Type 0 where
  declares : h.kind ≡ declarator → p.in_export ≡ false → Unlinking p h
  specifies : h.kind ≡ specifier → Unlinking p h

-- a record that becomes Empty, and the names that go with it
pub record Emptied (by : By) (p : Place) (h : Head) (found children : Chain) (names : List Name) : Type 0 where
  pub which : Emptying p h found children
  pub free : Unused by names

-- a record that is unlinked, and its name
pub record Unlinked (by : By) (p : Place) (h : Head) (name : Name) : Type 0 where
  pub which : Unlinking p h
  pub free : unused (by.row name) ≡ true

-- a Var that becomes an Expression statement
pub record Restated (by : By) (p : Place) (h : Head) (children : Chain) : Type 0 where
  pub kind : h.kind ≡ var_declaration
  pub inward : p.in_export ≡ false
  pub filled : is_end children ≡ false
  pub go : all_go by p (flagged h) children ≡ true

-- an Assignment that gives way to its value
pub record Yielded (by : By) (h : Head) (name : Name) : Type 0 where
  pub kind : h.kind ≡ assignment
  pub free : never_read by.config (by.row name) ≡ true

-- a Call that gives way to the Object that it wraps
pub record Unwrapped (h : Head) (children : Chain) : Type 0 where
  pub kind : h.kind ≡ call_expression
  pub wraps : wraps_object children ≡ true

-- a record that stays: no list, no function or Declarator that could go, no emptied Var
pub record Staying (by : By) (p : Place) (h : Head) (children : Chain) : Type 0 where
  pub used : fn_goes by p h ≡ false
  pub bound : declarator_goes by p h children ≡ false
  pub filled : var_emptied h children ≡ false

-- what a verdict tells
abbrev pub Means : By → Place → Head → (found children : Chain) → Verdict → Type 0
Means by p h found children stays = Staying by p h children
Means by p h found children sweeps = has_list h ≡ true
Means by p h found children (empties names) = Emptied by p h found children names
Means by p h found children (unlinks name) = Unlinked by p h name
Means by p h found children restates = Restated by p h children
Means by p h found children (yields name) = Yielded by h name
Means by p h found children unwraps = Unwrapped h children

pub can_unused : (by : By) (p : Place) (v : Bool) (n : Name) → can_drop_binding by p v n ≡ true → unused (by.row n) ≡ true
can_unused by p v n g = grind arith

module _ (by : By) (p : Place) (h : Head) (found children : Chain) where
  fn_means : fn_goes by p h ≡ true → Emptied by p h found children (name_of h ∷ [])
  fn_means g = record { which = fn (grind (arith, nat_tests)) (grind arith); free = (can_unused by p true (name_of h) (grind arith), tt) }

  class_means : class_goes by p h children ≡ true → Emptied by p h found children (name_of h ∷ [])
  class_means g = record { which = class (grind (arith, nat_tests)) (grind arith); free = (can_unused by p false (name_of h) (grind arith), tt) }

  declarator_means : declarator_goes by p h children ≡ true → Unlinked by p h (first_name children)
  declarator_means g = record { which = declares (grind (arith, nat_tests)) (grind arith); free = can_unused by p p.in_var (first_name children) (grind arith) }

  specifier_means : specifier_goes by p h ≡ true → Unlinked by p h (name_of h)
  specifier_means g = record { which = specifies (grind (arith, nat_tests)); free = can_unused by p false (name_of h) (grind arith) }

  import_means : import_emptied by h found children ≡ true → Emptied by p h found children []
  import_means g = record { which = imports (grind (arith, nat_tests)) (grind arith); free = tt }

  var_means : var_emptied h children ≡ true → Emptied by p h found children []
  var_means g = record { which = var (grind (arith, nat_tests)) (grind arith); free = tt }

  restates_means : var_restates by p h children ≡ true → Restated by p h children
  restates_means g = record { kind = grind (arith, nat_tests); inward = grind arith; filled = grind arith; go = grind arith }

  yields_means : assignment_yields by p h children ≡ true → Yielded by h (first_name children)
  yields_means g = record { kind = grind (arith, nat_tests); free = grind arith }

  unwraps_means : call_unwraps h children ≡ true → Unwrapped h children
  unwraps_means g = record { kind = grind (arith, nat_tests); wraps = grind arith }

  pub means : Means by p h found children (verdict by p h found children)
  means =
      let P = λ (v : Verdict). Means by p h found children v in
      cond_both (fn_goes by p h) _ _ P fn_means (λ used.
      cond_both (class_goes by p h children) _ _ P class_means (λ _.
      cond_both (declarator_goes by p h children) _ _ P declarator_means (λ bound.
      cond_both (specifier_goes by p h) _ _ P specifier_means (λ _.
      cond_both (import_emptied by h found children) _ _ P import_means (λ _.
      cond_both (var_emptied h children) _ _ P var_means (λ full.
      cond_both (var_restates by p h children) _ _ P restates_means (λ _.
      cond_both (assignment_yields by p h children) _ _ P yields_means (λ _.
      cond_both (call_unwraps h children) _ _ P unwraps_means (λ _.
      cond_both (has_list h) _ _ P (λ g. g) (λ _. record { used = used; bound = bound; filled = full }))))))))))

-- BY CASES

-- a record that becomes Empty is of one of these kinds
abbrev pub emptying_kinds : List ℕ
emptying_kinds = fn_declaration ∷ class_declaration ∷ import_item ∷ var_declaration ∷ []

pub emptying_kind : (p : Place) (h : Head) (found children : Chain) → Emptying p h found children → member h.kind emptying_kinds ≡ true
emptying_kind p h found children (fn k x) = rw k
emptying_kind p h found children (class k x) = rw k
emptying_kind p h found children (imports k x) = rw k
emptying_kind p h found children (var k x) = rw k

-- a record of a sort that has none of these kinds
pub emptied_other : (sort : ℕ → Bool) → list_all (λ k. not (sort k)) emptying_kinds ≡ true → (p : Place) (h : Head) (found children : Chain) → sort h.kind ≡ true →
    Emptying p h found children → ⊥
emptied_other sort others p h found children e m =
    let other = all_member (λ (k : ℕ). not (sort k)) h.kind emptying_kinds others (emptying_kind p h found children m) in
    grind arith

-- outside a For it does not matter whether a record comes last
pub entered_anywhere : (p : Place) (h : Head) (children : Chain) (a b : Bool) → eqb p.parent for_statement ≡ false → entered p h children a ≡ entered p h children b
entered_anywhere p h children a b g = rw g

-- a fact on what is left of a record, by whether the rules enter it
pub treated_both : (b : Bool) (by : By) (p : Place) (h : Head) (found : Chain) (inner : Left) (P : Left → Type 0)
    → (b ≡ true → P (done (verdict by p h found inner.chain) h inner)) → (b ≡ false → P (unchanged (link h found end))) → P (treated b by p h found inner)
treated_both true by p h found inner P f g = f refl
treated_both false by p h found inner P f g = g refl

-- what is left of a record is that record, with children of which something is said
pub record Kept (h : Head) (says : Chain → Type 0) (l : Left) : Type 0 where
  pub children : Chain
  pub is_link : l.chain ≡ link h children end
  pub said : says children

module _ (by : By) (p : Place) (h : Head) (found : Chain) (inner : Left) (says : Chain → Type 0)
    (stay : Staying by p h inner.chain → inner.changed ≡ false → says inner.chain) (sweep : has_list h ≡ true → inner.changed ≡ false → says (swept inner.chain)) where
  done_kept : (v : Verdict) → Means by p h found inner.chain v → (done v h inner).changed ≡ false → Kept h says (done v h inner)
  done_kept stays m g = record { children = inner.chain; is_link = refl; said = stay m g }
  done_kept sweeps m g = record { children = swept inner.chain; is_link = refl; said = sweep m g }
  done_kept (empties names) m g = absurd (both_ways true g refl)
  done_kept (unlinks name) m g = absurd (both_ways true g refl)
  done_kept restates m g = absurd (both_ways true g refl)
  done_kept (yields name) m g = absurd (both_ways true g refl)
  done_kept unwraps m g = absurd (both_ways true g refl)

  -- a record that is treated without a change is kept
  pub treated_kept : (b : Bool) → (b ≡ false → says found) → (treated b by p h found inner).changed ≡ false → Kept h says (treated b by p h found inner)
  treated_kept true past g = done_kept (verdict by p h found inner.chain) (means by p h found inner.chain) g
  treated_kept false past g = record { children = found; is_link = refl; said = past refl }

-- a record with another kind
abbrev pub with_kind : Head → ℕ → Head
with_kind h k = record { number = h.number; kind = k; flags = h.flags; symbol = h.symbol; mark = h.mark }

-- a fact on a record that has a list, by its kind
pub by_list : (P : Head → Type 0) (h : Head) → has_list h ≡ true → P (with_kind h module_root) → P (with_kind h script_root) → P (with_kind h block) → P h
by_list P h g x y z = each_member (λ (k : ℕ). P (with_kind h k)) h.kind (module_root ∷ script_root ∷ block ∷ []) (x, (y, (z, tt))) (grind arith)

-- WRAPPED OBJECTS

first_is_kind : (k : ℕ) (c : Chain) → first_is k c ≡ true → first_kind c ≡ k
first_is_kind k end g = absurd (both_ways false refl g)
first_is_kind k (link h children rest) g = eqb-true h.kind k g

-- the parts of a Call that wraps an Object, its children given
pub record Wraps (c : Chain) : Type 0 where
  pub callee : first_kind c ≡ function_expression
  pub block : first_kind (below (below c)) ≡ block
  pub return : first_kind (below (below (below c))) ≡ plain_statement
  pub object : first_kind (wrapped_object c) ≡ object
  pub names : only_identifiers (below (wrapped_object c)) ≡ true

pub wraps : (c : Chain) → wraps_object c ≡ true → Wraps c
wraps c g =
    let fn = below c in
    let statements = below (below fn) in
    record {
      callee = first_is_kind function_expression c (grind arith);
      block = first_is_kind block (below fn) (grind arith);
      return = first_is_kind plain_statement statements (grind arith);
      object = first_is_kind object (below statements) (grind arith);
      names = grind arith;
    }
