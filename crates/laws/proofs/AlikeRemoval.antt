-- Removal from twins: by the same rows and declared names, each loses what the other loses, twins are left, and either both were changed or none.
-- Rows and declared names enter as functions, so tables that tell the same give equal removals by a path.
--
--   LeftAlike, removed_alike      what is left of twins
--   by_alike                      tables that tell the same
use Rattle.std.proofs.Common.{◌≡◌, ℕ, Bool, false, ◌||◌, sym, ap, ◌∙◌, subst₂}
use Rattle.rules.specs.Tree.{Head, Chain, Name, below, unnumbered}
use Rattle.rules.specs.Tree.Chain.{end, link}
use Rattle.rules.specs.Names.{among}
use Rattle.rules.specs.Removal.{Config, By, at_root, Left, treat}
use Rattle.rules.specs.Calls.{Filled, pass_by}
use Rattle.laws.specs.Law.{Shuffled, item_at, SameLost}
use Rattle.laws.proofs.AlikeTables.{Alike}
use Rattle.laws.proofs.AlikeRings.{rows_alike}
use Rattle.laws.proofs.UnnumberedRemoval.{treat_unnumbered}
use Rattle.laws.proofs.OrderCount.{root_of, Turned}
use Rattle.laws.proofs.OrderCount.Turned.{roots}
use Rattle.laws.proofs.OrderRemoval.{top, not_in_for, remains, remains_shuffled, changed_shuffled, remains_unnumbered, root_treated}
use Rattle.laws.proofs.OrderAsm.{asm_free}
use Rattle.laws.proofs.OrderItems.{Items, remains_at}
use Rattle.laws.proofs.OrderTwins.{Twins, orderly_treated, root_items}

-- what is left of two trees is alike: each lost what the other lost, twins are left, and both were changed or none
pub record LeftAlike (c d : Chain) (x y : Left) : Type 0 where
  pub lost : SameLost c d x.chain y.chain
  pub twins : Twins x.chain y.chain
  pub changed : x.changed ≡ y.changed

module _ (by : By) (unseen : (c : Chain) → by.config.acts (unnumbered c) ≡ by.config.acts c) where
  -- the items of a root: what is left, whether it changed, and what each lost
  module _ (m : Bool) (cs ds : Chain) (s : Shuffled (unnumbered cs) (unnumbered ds)) where
    left_shuffled : Shuffled (unnumbered (remains by (top m) cs)) (unnumbered (remains by (top m) ds))
    left_shuffled = subst₂ Shuffled (sym (remains_unnumbered by unseen (top m) cs)) (sym (remains_unnumbered by unseen (top m) ds)) (remains_shuffled by (top m) (not_in_for m) s)

    changed_alike : (treat by (top m) cs).changed ≡ (treat by (top m) ds).changed
    changed_alike =
        ap (λ (l : Left). l.changed) (sym (treat_unnumbered by unseen (top m) cs))
        ∙ (changed_shuffled by (top m) (not_in_for m) s ∙ ap (λ (l : Left). l.changed) (treat_unnumbered by unseen (top m) ds))

  lost_alike : (m : Bool) (cs ds : Chain) → Items cs → Items ds → (a b : ℕ) → item_at a cs ≡ item_at b ds → item_at a (remains by (top m) cs) ≡ item_at b (remains by (top m) ds)
  lost_alike m cs ds i j a b q =
      remains_at by unseen (top m) (not_in_for m) a cs i ∙ (ap (remains by (top m)) q ∙ sym (remains_at by unseen (top m) (not_in_for m) b ds j))

  roots_alike : (m : Bool) (h g : Head) {cs ds : Chain} → Shuffled (unnumbered cs) (unnumbered ds) → Twins (link (root_of m h) cs end) (link (root_of m g) ds end)
      → LeftAlike (link (root_of m h) cs end) (link (root_of m g) ds end) (treat by at_root (link (root_of m h) cs end)) (treat by at_root (link (root_of m g) ds end))
  roots_alike m h g {cs} {ds} s t =
      let c = link (root_of m h) cs end in
      let d = link (root_of m g) ds end in
      let p = root_treated by m h cs (asm_free cs t.one.without_asm.1) in
      let i = root_items m h cs t.one.formed t.one.apart in
      let j = root_items m g ds t.other.formed t.other.apart in
      let q = root_treated by m g ds (asm_free ds t.other.without_asm.1) in
      record {
        lost = λ a b e. ap (λ (l : Left). item_at a (below l.chain)) p ∙ (lost_alike m cs ds i j a b e ∙ sym (ap (λ (l : Left). item_at b (below l.chain)) q));
        twins = record {
          turned = subst₂ (λ (x y : Left). Turned x.chain y.chain) (sym p) (sym q) (roots m h g (left_shuffled m cs ds s));
          one = orderly_treated by c t.one;
          other = orderly_treated by d t.other;
        };
        changed = ap (λ (l : Left). l.changed) p ∙ (ap (λ (b : Bool). b || false) (changed_alike m cs ds s) ∙ sym (ap (λ (l : Left). l.changed) q));
      }

  turned_alike : {c d : Chain} → Turned c d → Twins c d → LeftAlike c d (treat by at_root c) (treat by at_root d)
  turned_alike (roots m h g s) t = roots_alike m h g s t

  pub removed_alike : (c d : Chain) → Twins c d → LeftAlike c d (treat by at_root c) (treat by at_root d)
  removed_alike c d t = turned_alike t.turned t

pub by_alike : (k : Config) (f g : Filled) → ((n : Name) → among n f.declared ≡ among n g.declared) → Alike f.counts g.counts → pass_by k f ≡ pass_by k g
by_alike k f g declares counts = λ i. record { config = k; row = λ n. rows_alike f.counts g.counts counts n i; declares = λ n. declares n i }
