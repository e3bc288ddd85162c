-- The table of kinds bears a removal: the ways of each record's children are fair, but for two. Where a For begins, a Var may be its
-- head, and is then not entered; a Var that is entered there is the For's last child. In an Export declaration stands one declaration,
-- and none that is exported gives way. The Declarators of a Var may all go before the Var does, so that its children are
-- formed as any number of them.
--
--   moving, declaring, giving_way      the kinds that give way: in an Export declaration too, not there, not at the head of a For either
--   Bears                              ways at a place bear a removal
--   bears_fair                         the ways on from there are fair
--   inner_ways, bears_inside           the ways of a record's children, while they are treated; these do too
--   swap_moving, swap_declaring, swap_var, drop_formed      what gives way to a stand-in, or is unlinked, leaves the chain formed
use Rattle.std.specs.Prelude.{if◌then◌else◌}
use Rattle.std.proofs.Common.{◌≡◌, ℕ, true, false, List, [], ◌∷◌, refl, inl, inr, arith}
use Rattle.std.proofs.lemmas.Bool.{cond_both, cases_Bool, both_ways, or_left, eqb-true}
use Rattle.rules.specs.Tree.{Head, Chain, ◌is◌}
use Rattle.rules.specs.Tree.Chain.{end}
use Rattle.rules.specs.Kinds.{import_item, export_declaration, fn_declaration, class_declaration, var_declaration, for_statement, declarator, call_expression, assignment, member, expression, statement, declaration, for_head, only}
use Rattle.rules.specs.Grammar.{Way, item_children, statement_children, part_children, expression_children, pattern_children, children_of, step, misplaced}
use Rattle.rules.specs.Grammar.Part.{one, maybe, many}
use Rattle.rules.specs.Held.{Formed}
use Rattle.rules.specs.Removal.{Place, place_inside}
use Rattle.laws.proofs.Basics.{each_member}
use Rattle.laws.proofs.KeepsWays.{Within, within_placed, formed_within}
use Rattle.laws.proofs.KeepsFair.{stand_ins, unlinkable, fair_way, fair, fair_step, fair_swap, fair_drop}

-- the kinds that give way, in an Export declaration too
abbrev pub moving : List ℕ
moving = import_item ∷ call_expression ∷ assignment ∷ []

-- and functions and classes, which do not when exported
abbrev pub declaring : List ℕ
declaring = fn_declaration ∷ class_declaration ∷ moving

-- and a Var, which does not at the head of a For either
abbrev pub giving_way : List ℕ
giving_way = var_declaration ∷ declaring

-- what follows the head of a For
abbrev pub for_parts : Way
for_parts = maybe expression ∷ maybe expression ∷ maybe expression ∷ one statement ∷ []

-- the children of a For
abbrev pub for_ways : List Way
for_ways = (maybe for_head ∷ for_parts) ∷ []

-- the child of an Export declaration
abbrev pub export_ways : List Way
export_ways = (one declaration ∷ []) ∷ []

-- any number of Declarators
abbrev pub declarators : List Way
declarators = (many (only declarator) ∷ []) ∷ []

-- ways at a place bear a removal
pub data Bears (p : Place) (ways : List Way) : Type 0 where
  anywhere : fair giving_way ways ≡ true → Bears p ways
  at_for : p.parent ≡ for_statement → ways ≡ for_ways → Bears p ways
  at_export : p.in_export ≡ true → ways ≡ export_ways → Bears p ways

for_fair : (k : ℕ) → fair giving_way (step k for_ways) ≡ true
for_fair k = grind arith

export_fair : (k : ℕ) → fair giving_way (step k export_ways) ≡ true
export_fair k = grind arith

pub bears_fair : (p : Place) (k : ℕ) (ways : List Way) → Bears p ways → fair giving_way (step k ways) ≡ true
bears_fair p k ways (anywhere f) = fair_step giving_way k ways f
bears_fair p k ways (at_for a e) = rw e (for_fair k)
bears_fair p k ways (at_export a e) = rw e (export_fair k)

-- the ways of a record's children, while they are treated
abbrev pub inner_ways : Head → List Way
inner_ways h = if h is var_declaration then declarators else children_of h

-- the children of h, which is no Export declaration, no Var and no For
module _ (h : Head) (no_export : h is export_declaration ≡ false) (no_var : h is var_declaration ≡ false) (no_for : h is for_statement ≡ false) where
  item_fair : fair_way giving_way (item_children h) ≡ true
  item_fair = grind arith

  statement_fair : fair_way giving_way (statement_children h) ≡ true
  statement_fair = grind arith

  part_fair : fair_way giving_way (part_children h) ≡ true
  part_fair = grind arith

  expression_fair : fair_way giving_way (expression_children h) ≡ true
  expression_fair = grind arith

  pattern_fair : fair_way giving_way (pattern_children h) ≡ true
  pattern_fair = grind arith

  children_fair : fair giving_way (children_of h) ≡ true
  children_fair = grind (arith, item_fair, statement_fair, part_fair, expression_fair, pattern_fair)

pub bears_inside : (p : Place) (h : Head) → Bears (place_inside p h) (inner_ways h)
bears_inside p h =
    let P = λ (ways : List Way). Bears (place_inside p h) ways in
    cond_both (h is var_declaration) declarators (children_of h) P (λ _. anywhere refl) (λ no_var.
    elim (cases_Bool (h is export_declaration)) [
      | inl x ↦ at_export (or_left (h is export_declaration) _ x) (rw (eqb-true h.kind export_declaration x))
      | inr no_export ↦ elim (cases_Bool (h is for_statement)) [
        | inl x ↦ at_for (eqb-true h.kind for_statement x) (rw (eqb-true h.kind for_statement x))
        | inr no_for ↦ anywhere (children_fair h no_export no_var no_for)
      ]
    ])

-- a record of kind m stands, and what follows is formed
abbrev pub Stands : List Way → (m : ℕ) → (onward : Chain) → Type 0
Stands ways m onward = (misplaced (step m ways) ≡ false) × Formed (step m ways) onward

stands_within : (ways : List Way) (k m : ℕ) (d : Chain) → Within (step k ways) (step m ways) → Stands ways k d → Stands ways m d
stands_within ways k m d w s = (within_placed w s.0, formed_within d w s.1)

-- stand-ins of m among fair ways
stands_fair : (ks : List ℕ) (ways : List Way) (k m : ℕ) (d : Chain) → member k ks ≡ true → member m (stand_ins k) ≡ true → fair ks ways ≡ true →
    Stands ways k d → Stands ways m d
stands_fair ks ways k m d among stands f = stands_within ways k m d (fair_swap ks k m among stands ways f)

module _ (p : Place) (ways : List Way) (d : Chain) where
  pub swap_moving : (k m : ℕ) → member k moving ≡ true → member m (stand_ins k) ≡ true → Bears p ways → Stands ways k d → Stands ways m d
  swap_moving k m among stands (anywhere f) =
      stands_fair giving_way ways k m d (grind (arith, among)) stands f
  swap_moving k m among stands (at_for a e) =
      stands_fair declaring ways k m d (grind (arith, among)) stands
      (rw e)
  swap_moving k m among stands (at_export a e) =
      stands_fair moving ways k m d among stands (rw e)

  pub swap_declaring : (k m : ℕ) → member k declaring ≡ true → member m (stand_ins k) ≡ true → p.in_export ≡ false → Bears p ways → Stands ways k d → Stands ways m d
  swap_declaring k m among stands x (anywhere f) = stands_fair giving_way ways k m d (grind (arith, among)) stands f
  swap_declaring k m among stands x (at_for a e) = stands_fair declaring ways k m d among stands (rw e)
  swap_declaring k m among stands x (at_export a e) = absurd (both_ways p.in_export x a)

  pub drop_formed : (k : ℕ) → member k unlinkable ≡ true → Bears p ways → Formed (step k ways) d → Formed ways d
  drop_formed k gone (anywhere f) = formed_within d (fair_drop giving_way k gone ways f)
  drop_formed k gone (at_for a e) = formed_within d (fair_drop declaring k gone ways (rw e))
  drop_formed k gone (at_export a e) = formed_within d (fair_drop moving k gone ways (rw e))

-- a For may end with each stand-in of a Var
for_end : (m : ℕ) → member m (stand_ins var_declaration) ≡ true → Stands for_ways m end
for_end m stands = each_member (λ (j : ℕ). Stands for_ways j end) m (stand_ins var_declaration) ((refl, refl), ((refl, refl), tt)) stands

-- a Var that gives way as the last child of a For is its statement
pub swap_var : (p : Place) (ways : List Way) (d : Chain) (m : ℕ) → member m (stand_ins var_declaration) ≡ true → p.in_export ≡ false →
    (p.parent ≡ for_statement → d ≡ end) → Bears p ways → Stands ways var_declaration d → Stands ways m d
swap_var p ways d m stands x last (anywhere f) s = stands_fair giving_way ways var_declaration m d refl stands f s
swap_var p ways d m stands x last (at_for a e) s =
    let l = last a in rw (e, l) (for_end m stands)
swap_var p ways d m stands x last (at_export a e) s = absurd (both_ways p.in_export x a)
