-- Where a run begins: two trees that the check takes and that differ only in the order of items are twins, by what the check says of each.
--
--   Orderly, orderly_treated      a tree formed by the table of kinds, each record once, without 'use asm'; what is left of it is such
--   Twins                    such trees, roots over the same items in another order
--   rooted_as                a checked tree is one root, of its kind, over its items
--   formed_items, root_items      its items are no expressions, each with its own number
--   reordered_twins          the two trees of the law
use Rattle.std.specs.Prelude.{if◌then◌else◌}
use Rattle.std.proofs.Common.{◌≡◌, ℕ, Bool, true, false, ◌||◌, eqb, List, [], sym, refl, ◌∙◌, subst, subst₂, inl, inr, arith}
use Rattle.std.proofs.lemmas.Bool.{true≢false, false≢true, or_cases, eqb-true}
use Rattle.std.proofs.lemmas.Bool.Decides.{nat_tests}
use Rattle.rules.specs.Tree.{Head, Chain, below, unnumbered}
use Rattle.rules.specs.Tree.Chain.{end, link}
use Rattle.rules.specs.Kinds.{module_root, script_root, expression, statement, item}
use Rattle.rules.specs.Grammar.{root}
use Rattle.rules.specs.Held.{Numbers, Apart, Formed}
use Rattle.rules.specs.Removal.{By, at_root, treat}
use Rattle.laws.specs.Law.{Shuffled, root_kind, WithoutAsm, Reordered, item_at}
use Rattle.rules.proofs.Sounds.{check_sound}
use Rattle.laws.proofs.Formed.{list_of, listed, formed_one}
use Rattle.laws.proofs.KeepsApart.{keeps_apart}
use Rattle.laws.proofs.KeepsFormed.{keeps_formed}
use Rattle.laws.proofs.OrderCount.{root_of, Turned}
use Rattle.laws.proofs.OrderCount.Turned.{roots}
use Rattle.laws.proofs.OrderAsm.{without_treated}
use Rattle.laws.proofs.OrderItems.{Items}

-- a tree formed by the table of kinds, each record once, without 'use asm'
pub record Orderly (c : Chain) : Type 0 where
  pub formed : Formed root c
  pub apart : Apart c
  pub without_asm : WithoutAsm c

-- such trees, roots over the same items in another order
pub record Twins (c d : Chain) : Type 0 where
  pub turned : Turned c d
  pub one : Orderly c
  pub other : Orderly d

pub orderly_treated : (by : By) (c : Chain) → Orderly c → Orderly (treat by at_root c).chain
orderly_treated by c o = record {
  formed = keeps_formed by c o.formed;
  apart = keeps_apart by at_root c o.apart;
  without_asm = without_treated by at_root c o.without_asm;
}

-- THE ROOT

-- the kind of a Module or Script
abbrev kind_of : (module_tree : Bool) → ℕ
kind_of m = if m then module_root else script_root

-- the sort of its items
abbrev items_sort : (module_tree : Bool) → ℕ → Bool
items_sort true = item
items_sort false = statement

root_is : (m : Bool) (h : Head) → h.kind ≡ kind_of m → h ≡ root_of m h
root_is m h q = λ i. record { number = h.number; kind = q i; flags = h.flags; symbol = h.symbol; mark = h.mark }

which_root : (c : Chain) → Formed root c → (m : Bool) × (root_kind c ≡ kind_of m)
which_root end f = absurd (false≢true f)
which_root (link h cs rest) f = elim (or_cases (eqb h.kind module_root) (eqb h.kind script_root) (formed_one (λ k. eqb k module_root || eqb k script_root) [] (link h cs rest) f).0) [
  | inl e ↦ (true, eqb-true h.kind module_root e)
  | inr e ↦ (false, eqb-true h.kind script_root e)
]

-- a root's children, and that nothing follows it
root_parts : (m : Bool) (h : Head) (cs rest : Chain) → Formed root (link (root_of m h) cs rest) → (rest ≡ end) × Formed (list_of (items_sort m)) cs
root_parts true h cs end f = (refl, f.2)
root_parts false h cs end f = (refl, f.2)
root_parts true h cs (link g ds r) f = absurd (true≢false f.3.1)
root_parts false h cs (link g ds r) f = absurd (true≢false f.3.1)

-- a root of its kind over its items
record Rooted (m : Bool) (c : Chain) : Type 0 where
  head : Head
  items : Chain
  whole : c ≡ link (root_of m head) items end

rooted_as : (m : Bool) (c : Chain) → root_kind c ≡ kind_of m → Formed root c → Rooted m c
rooted_as m end q f = absurd (false≢true f)
rooted_as m (link h cs rest) q f =
    let p = root_is m h q in
    let parts = root_parts m h cs rest (subst (λ (g : Head). Formed root (link g cs rest)) p f) in
    record { head = h; items = cs; whole = λ i. link (p i) cs (parts.0 i) }

-- THE ITEMS

item_missing : (n : ℕ) (c : Chain) → (Numbers n c → ⊥) → item_at n c ≡ end
item_missing n end f = refl
item_missing n (link h cs rest) f = grind (arith, nat_tests, item_missing n rest (λ x. f (inr (inr x))))

formed_items : (sort : ℕ → Bool) → ((k : ℕ) → sort k ≡ true → expression k ≡ false) → (c : Chain) → Formed (list_of sort) c → Apart c → Items c
formed_items sort plain end f a = tt
formed_items sort plain (link h cs rest) f a =
    let on = listed sort h cs rest f in
    (plain h.kind on.0, item_missing h.number rest a.1, formed_items sort plain rest on.1 a.4)

statement_plain : (k : ℕ) → statement k ≡ true → expression k ≡ false
statement_plain k h = grind (arith, nat_tests)

item_plain : (k : ℕ) → item k ≡ true → expression k ≡ false
item_plain k h = grind (arith, nat_tests)

sort_plain : (m : Bool) (k : ℕ) → items_sort m k ≡ true → expression k ≡ false
sort_plain true = item_plain
sort_plain false = statement_plain

-- THE TWO TREES

-- the items of a root
pub root_items : (m : Bool) (h : Head) (cs : Chain) → Formed root (link (root_of m h) cs end) → Apart (link (root_of m h) cs end) → Items cs
root_items m h cs f a = formed_items (items_sort m) (sort_plain m) cs (root_parts m h cs end f).1 a.3

pub reordered_twins : (words others : List ℕ) (c d : Chain) → Reordered words others c d → Twins c d
reordered_twins words others c d r =
    let s = check_sound words c r.one in
    let t = check_sound others d r.other in
    let m = which_root c s.formed in
    let x = rooted_as m.0 c m.1 s.formed in
    let y = rooted_as m.0 d (sym r.roots ∙ m.1) t.formed in
    record {
      turned = subst₂ Turned (sym x.whole) (sym y.whole) (roots m.0 x.head y.head
          (subst₂ (λ (a b : Chain). Shuffled (unnumbered (below a)) (unnumbered (below b))) x.whole y.whole r.items));
      one = record { formed = s.formed; apart = s.apart; without_asm = r.without_asm };
      other = record { formed = t.formed; apart = t.apart; without_asm = r.without_asm_too };
    }
