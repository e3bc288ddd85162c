-- Removal of the items of a root: each is treated by itself, so what is left of them stands in the order in which they stood,
-- and something is removed from one order exactly if it is from the other.
--
--   shuffled_after, exchange          chains with the same front; two parts in front of a third
--   top, item_left, remains           the items' place; what is left of one; what is left of all, swept
--   remains_link                      item by item
--   remains_shuffled, changed_shuffled      in another order
--   remains_unnumbered                record numbers apart
--   root_treated                      what is left of a root that does not begin with 'use asm'
use Rattle.std.specs.Prelude.{if◌then◌else◌}
use Rattle.std.proofs.Common.{◌≡◌, Bool, true, false, not, ◌||◌, eqb, sym, refl, ap, ◌∙◌, subst₂, arith}
use Rattle.rules.specs.Tree.{Head, Chain, is_end, append, unnumbered}
use Rattle.rules.specs.Tree.Chain.{end, link}
use Rattle.rules.specs.Kinds.{module_root, script_root, for_statement}
use Rattle.rules.specs.Removal.{By, Place, at_root, place_inside, asm, entered, swept, Left, unchanged, both, treated, treat}
use Rattle.laws.specs.Law.{Shuffled}
use Rattle.laws.specs.Law.Shuffled.{none, past, swap, again}
use Rattle.laws.proofs.Basics.{or_swap}
use Rattle.laws.proofs.Verdicts.{entered_anywhere}
use Rattle.laws.proofs.UnnumberedRemoval.{swept_unnumbered, treat_unnumbered}
use Rattle.laws.proofs.OrderCount.{root_of, shuffled_same}

-- SHUFFLED CHAINS

unmoved : (c : Chain) → Shuffled c c
unmoved end = none
unmoved (link h cs rest) = past (unmoved rest)

shuffled_after : (x : Chain) {a b : Chain} → Shuffled a b → Shuffled (append x a) (append x b)
shuffled_after end s = s
shuffled_after (link h cs x) s = past (shuffled_after x s)

one_past : (h : Head) (cs y r : Chain) → Shuffled (link h cs (append y r)) (append y (link h cs r))
one_past h cs end r = unmoved (link h cs r)
one_past h cs (link g ds y) r = again swap (past (one_past h cs y r))

exchange : (x y r : Chain) → Shuffled (append x (append y r)) (append y (append x r))
exchange end y r = unmoved (append y r)
exchange (link h cs x) y r = again (past (exchange x y r)) (one_past h cs y (append x r))

-- ITEMS

-- the place of a root's items
abbrev pub top : (module_tree : Bool) → Place
top m = record { in_fn = false; in_block_stmt = false; in_var = false; in_export = false; parent = if m then module_root else script_root }

-- they are not below a For
pub not_in_for : (m : Bool) → eqb (top m).parent for_statement ≡ false
not_in_for true = refl
not_in_for false = refl

-- what is left of an item
abbrev pub item_left : By → Place → Head → Chain → Left
item_left by p h cs = treated (entered p h cs true) by p h cs (treat by (place_inside p h) cs)

-- what is left of a list, swept
abbrev pub remains : By → Place → Chain → Chain
remains by p c = swept (treat by p c).chain

swept_append : (c d : Chain) → swept (append c d) ≡ append (swept c) (swept d)
swept_append end d = refl
swept_append (link h cs rest) d = grind (arith, swept_append rest d)

module _ (by : By) (p : Place) (quiet : eqb p.parent for_statement ≡ false) where
  treat_link : (h : Head) (cs rest : Chain) → treat by p (link h cs rest) ≡ both (item_left by p h cs) (treat by p rest)
  treat_link h cs rest = ap (λ (b : Bool). both (treated b by p h cs (treat by (place_inside p h) cs)) (treat by p rest)) (entered_anywhere p h cs (is_end rest) true quiet)

  pub remains_link : (h : Head) (cs rest : Chain) → remains by p (link h cs rest) ≡ append (swept (item_left by p h cs).chain) (remains by p rest)
  remains_link h cs rest = ap (λ (l : Left). swept l.chain) (treat_link h cs rest) ∙ swept_append (item_left by p h cs).chain (treat by p rest).chain

  pub remains_shuffled : {c d : Chain} → Shuffled c d → Shuffled (remains by p c) (remains by p d)
  remains_shuffled none = none
  remains_shuffled (past {h = h} {children = cs} {a = a} {b = b} s) =
      subst₂ Shuffled (sym (remains_link h cs a)) (sym (remains_link h cs b)) (shuffled_after (swept (item_left by p h cs).chain) (remains_shuffled s))
  remains_shuffled (swap {h = h} {g = g} {cs = cs} {ds = ds} {rest = rest}) =
      let x = swept (item_left by p h cs).chain in let y = swept (item_left by p g ds).chain in
      subst₂ Shuffled
      (sym (remains_link h cs (link g ds rest) ∙ ap (append x) (remains_link g ds rest)))
      (sym (remains_link g ds (link h cs rest) ∙ ap (append y) (remains_link h cs rest)))
      (exchange x y (remains by p rest))
  remains_shuffled (again s t) = again (remains_shuffled s) (remains_shuffled t)

  changed_link : (h : Head) (cs rest : Chain) → (treat by p (link h cs rest)).changed ≡ ((item_left by p h cs).changed || (treat by p rest).changed)
  changed_link h cs rest = ap (λ (l : Left). l.changed) (treat_link h cs rest)

  pub changed_shuffled : {c d : Chain} → Shuffled c d → (treat by p c).changed ≡ (treat by p d).changed
  changed_shuffled =
      shuffled_same (λ (c : Chain). (treat by p c).changed) (λ (h : Head) (cs : Chain). (item_left by p h cs).changed)
      (λ (r b : Bool). b || r) (λ x y r. or_swap x y r) changed_link

pub remains_unnumbered : (by : By) → ((c : Chain) → by.config.acts (unnumbered c) ≡ by.config.acts c) → (p : Place) (c : Chain) → unnumbered (remains by p c) ≡ remains by p (unnumbered c)
remains_unnumbered by unseen p c = sym (swept_unnumbered (treat by p c).chain) ∙ ap (λ (l : Left). swept l.chain) (sym (treat_unnumbered by unseen p c))

-- what is left of a root
abbrev pub root_left : By → (module_tree : Bool) → Head → Chain → Left
root_left by m h cs = record { chain = link (root_of m h) (remains by (top m) cs) end; changed = (treat by (top m) cs).changed || false }

-- its list is entered, and swept
pub root_treated : (by : By) (m : Bool) (h : Head) (cs : Chain) → asm cs ≡ false → treat by at_root (link (root_of m h) cs end) ≡ root_left by m h cs
root_treated by true h cs q = ap (λ (b : Bool). both (treated (not b) by at_root (root_of true h) cs (treat by (top true) cs)) (unchanged end)) q
root_treated by false h cs q = ap (λ (b : Bool). both (treated (not b) by at_root (root_of false h) cs (treat by (top false) cs)) (unchanged end)) q
