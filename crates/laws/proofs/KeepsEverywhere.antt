-- A fact on every record of a chain, which may look at the record and at how deep it is nested. Records stay, vanish or move up, and removal
-- makes only Empty and Expression statements and plain expressions: a fact that holds of these wherever it held, and holds further up
-- where it holds, holds of every record that is left.
--
--   Everywhere                          such a fact
--   all_append .. all_wrapped           the pieces that are moved
--   done_all, treat_all                 one record; a chain
use Rattle.std.proofs.Common.{ℕ, suc, Bool, true, false}
use Rattle.rules.specs.Tree.{Head, Chain, is_end, below, after, alone, append}
use Rattle.rules.specs.Tree.Chain.{end, link}
use Rattle.rules.specs.Kinds.{empty_statement, expression_statement, plain_expression}
use Rattle.rules.specs.Removal.{By, Place, place_inside, entered, swept, wrapped_object, Verdict, verdict, become, values, joined, Left, done, treated, treat}
use Rattle.rules.specs.Removal.Verdict.{stays, sweeps, empties, unlinks, restates, yields, unwraps}
use Rattle.laws.proofs.Basics.{swept_both, joined_both}

-- `all n c`: each record of the chain c, which is nested n deep, has the fact
pub record Everywhere (each : ℕ → Head → Type 0) (all : ℕ → Chain → Type 0) : Type 0 where
  pub none : (n : ℕ) → all n end
  pub more : (n : ℕ) (h : Head) (children rest : Chain) → each n h → all (suc n) children → all n rest → all n (link h children rest)
  pub first : (n : ℕ) (h : Head) (children rest : Chain) → all n (link h children rest) → each n h
  pub inner : (n : ℕ) (h : Head) (children rest : Chain) → all n (link h children rest) → all (suc n) children
  pub others : (n : ℕ) (h : Head) (children rest : Chain) → all n (link h children rest) → all n rest
  pub up : (n : ℕ) (c : Chain) → all (suc n) c → all n c
  pub empty : (n : ℕ) (h : Head) → each n h → each n (become empty_statement h)
  pub statement : (n : ℕ) (h : Head) → each n h → each n (become expression_statement h)
  pub plain : (n : ℕ) (h : Head) → each n h → each n (become plain_expression h)

module _ (each : ℕ → Head → Type 0) (all : ℕ → Chain → Type 0) (w : Everywhere each all) where
  all_append : (n : ℕ) (c d : Chain) → all n c → all n d → all n (append c d)
  all_append n end d l m = m
  all_append n (link h children rest) d l m =
      w.more n h children (append rest d) (w.first n h children rest l) (w.inner n h children rest l) (all_append n rest d (w.others n h children rest l) m)

  all_alone : (n : ℕ) (c : Chain) → all n c → all n (alone c)
  all_alone n end l = l
  all_alone n (link h children rest) l = w.more n h children end (w.first n h children rest l) (w.inner n h children rest l) (w.none n)

  all_after : (n : ℕ) (c : Chain) → all n c → all n (after c)
  all_after n end l = l
  all_after n (link h children rest) l = w.others n h children rest l

  all_below : (n : ℕ) (c : Chain) → all n c → all n (below c)
  all_below n end l = l
  all_below n (link h children rest) l = w.up n children (w.inner n h children rest l)

  all_swept : (n : ℕ) (c : Chain) → all n c → all n (swept c)
  all_swept n end l = l
  all_swept n (link h children rest) l =
      let s = all_swept n rest (w.others n h children rest l) in
      swept_both (all n) h children rest (λ _. s) (w.more n h children (swept rest) (w.first n h children rest l) (w.inner n h children rest l) s)

  -- the values of Declarators at n stand at n + 1
  all_values : (n : ℕ) (c : Chain) → all n c → all (suc n) (values c)
  all_values n end l = w.none (suc n)
  all_values n (link d parts rest) l =
      all_append (suc n) (alone (after parts)) (values rest) (all_alone (suc n) (after parts) (all_after (suc n) parts (w.inner n d parts rest l))) (all_values n rest (w.others n d parts rest l))

  all_joined : (n : ℕ) (c : Chain) → all n c → all n (joined c)
  all_joined n end l = l
  all_joined n (link d parts rest) l =
      let together = values (link d parts rest) in
      let m = all_values n (link d parts rest) l in
      joined_both (all n) d parts rest (λ _. w.up n together m) (w.more n (become plain_expression d) together end (w.plain n d (w.first n d parts rest l)) m (w.none n))

  all_wrapped : (n : ℕ) (c : Chain) → all n c → all n (wrapped_object c)
  all_wrapped n c l = all_below n (below (below (below c))) (all_below n (below (below c)) (all_below n (below c) (all_below n c l)))

  done_all : (n : ℕ) (h : Head) (inner : Left) → each n h → all (suc n) inner.chain → (v : Verdict) → all n (done v h inner).chain
  done_all n h inner m l stays = w.more n h inner.chain end m l (w.none n)
  done_all n h inner m l sweeps = w.more n h (swept inner.chain) end m (all_swept (suc n) inner.chain l) (w.none n)
  done_all n h inner m l (empties names) = w.more n (become empty_statement h) end end (w.empty n h m) (w.none (suc n)) (w.none n)
  done_all n h inner m l (unlinks name) = w.none n
  done_all n h inner m l restates = w.more n (become expression_statement h) (joined inner.chain) end (w.statement n h m) (all_joined (suc n) inner.chain l) (w.none n)
  done_all n h inner m l (yields name) = all_alone n (after inner.chain) (all_after n inner.chain (w.up n inner.chain l))
  done_all n h inner m l unwraps = all_alone n (wrapped_object inner.chain) (all_wrapped n inner.chain (w.up n inner.chain l))

  treated_all : (n : ℕ) (b : Bool) (by : By) (p : Place) (h : Head) (children : Chain) (inner : Left) →
      each n h → all (suc n) children → all (suc n) inner.chain → all n (treated b by p h children inner).chain
  treated_all n true by p h children inner m k l = done_all n h inner m l (verdict by p h children inner.chain)
  treated_all n false by p h children inner m k l = w.more n h children end m k (w.none n)

  pub treat_all : (by : By) (p : Place) (n : ℕ) (c : Chain) → all n c → all n (treat by p c).chain
  treat_all by p n end l = l
  treat_all by p n (link h children rest) l =
      let inner = treat by (place_inside p h) children in
      let b = entered p h children (is_end rest) in
      all_append n (treated b by p h children inner).chain (treat by p rest).chain
      (treated_all n b by p h children inner (w.first n h children rest l) (w.inner n h children rest l) (treat_all by (place_inside p h) (suc n) children (w.inner n h children rest l)))
      (treat_all by p n rest (w.others n h children rest l))
