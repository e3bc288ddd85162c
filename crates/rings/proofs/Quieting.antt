-- A label is ruled closed once it has a second node and its chain was followed to the end.
use Rattle.std.proofs.Common.{◌≡◌, ℕ, ◌+◌, ◌<◌, ◌≤◌, Bool, true, false, ◌⊎◌, List, [], ◌∷◌, length, get_or, set, Some, None, Option, sym, ap, ◌∙◌, subst, inl, inr, ⊎_elim, arith, below_more}
use Rattle.std.specs.Prelude.{MatchOption, MatchBool, is_some}
use Rattle.std.specs.Iterator.{Yields, SkipsThenYields}
use Rattle.std.proofs.lemmas.List.{get_or-set_same, get_or-set_other}
use Rattle.std.proofs.lemmas.Bool.{cases_eq, cases_lt, MatchBool-at_true, MatchBool-at_false}
use Rattle.rings.specs.Marking.{Latest, Members, Quiet, Verdict, Ruled}
use Rattle.rings.specs.Walking.{GivesNode}
use Rattle.rings.specs.declared.members.Nodes.{Nodes}

-- A SECOND NODE

-- a chain of less than two nodes
abbrev pub Lone : (nexts : List ℕ) → (link : ℕ) → Type 0
Lone nexts link = (link ≡ 0) ⊎ ((one : ℕ) × (link ≡ one + 1) × (get_or nexts one 0 ≡ 0))

-- a chain of two nodes or more
pub record Paired (nexts : List ℕ) (link : ℕ) : Type 0 where
  pub one : ℕ
  pub other : ℕ
  pub first : link ≡ one + 1
  pub next : get_or nexts one 0 ≡ other + 1

-- which of them it is, a walk tells that passes one node over
told_of : (xs : List ℕ) (s t u : Nodes) (r : Option ℕ) → Yields GivesNode s xs t → GivesNode t r u → MatchOption r (length xs ≤ 1) (λ _. length xs ≡ 1)
    → MatchBool (is_some r) (Paired s.nexts.now s.link) (Lone s.nexts.now s.link)
told_of [] s t u None y p few = inl (ap (λ (n : Nodes). n.link) y ∙ p)
told_of [] s t u (Some v) y p few = absurd (omega arith)
told_of (x ∷ []) s t u None y p few = inr (x, y.1.here, sym y.1.onward ∙ ap (λ (n : Nodes). n.link) y.2 ∙ p)
told_of (x ∷ []) s t u (Some v) y p few = record { one = x; other = v; first = y.1.here; next = sym y.1.onward ∙ ap (λ (n : Nodes). n.link) y.2 ∙ p.here }
told_of (x ∷ z ∷ zs) s t u None y p few = absurd (omega arith)
told_of (x ∷ z ∷ zs) s t u (Some v) y p few = absurd (omega arith)

module _ (nexts : List ℕ) (link : ℕ) (s u : Nodes) (r : Option ℕ) (nexts_are : s.nexts.now ≡ nexts) (link_is : s.link ≡ link) (ran : SkipsThenYields GivesNode s 1 r u) where
  told : MatchBool (is_some r) (Paired nexts link) (Lone nexts link)
  told = subst (λ n. MatchBool (is_some r) (Paired n link) (Lone n link)) nexts_are
      (subst (λ l. MatchBool (is_some r) (Paired s.nexts.now l) (Lone s.nexts.now l)) link_is (told_of ran.0 s ran.1.0 u r ran.1.1 ran.1.2 ran.2))

  pub lone_told : is_some r ≡ false → Lone nexts link
  lone_told none = MatchBool-at_false _ _ none told

  pub paired_told : is_some r ≡ true → Paired nexts link
  paired_told some = MatchBool-at_true _ _ some told

-- A CHAIN THAT IS FOLLOWED

-- what is left of the chain from a link on is labelled, and what is behind holds P
abbrev pub Followed : (P : ℕ → Type 0) → (labels : List ℕ) → (label link : ℕ) → Type 0
Followed P labels label link =
    (link ≤ length labels) × ((v : ℕ) → link ≡ v + 1 → get_or labels v 0 ≡ label) × ((v : ℕ) → link ≤ v → v < length labels → get_or labels v 0 ≡ label → P v)

-- a node that is no entry and not marked
abbrev pub Calm : (entered : ℕ → Bool) → (labels marks : List ℕ) → ℕ → Type 0
Calm entered labels marks v = (entered v ≡ false) × (get_or marks v 0 ≡ 0)

module _ (entered : ℕ → Bool) (labels marks firsts nexts : List ℕ) (m : Members labels (length labels) firsts nexts) (label : ℕ) (within : label < length firsts) where
  abbrev link : ℕ
  link = get_or firsts label 0

  -- the link of a node that has the label
  onward : (one : ℕ) → link ≡ one + 1 → (get_or labels one 0 ≡ label) × Latest labels label one (get_or nexts one 0)
  onward one e =
      let f = m.first label within in
      let low = f.before in
      let is : get_or labels one 0 ≡ label = f.labelled one e in
      (is, subst (λ l. Latest labels l one (get_or nexts one 0)) is (m.next one (omega arith)))

  -- one node is not two
  pub lone_loud : Lone nexts link → Quiet entered labels marks label → ⊥
  lone_loud (inl none) q = (m.first label within).none q.one (omega arith) q.one_within q.one_labelled
  lone_loud (inr (one, e, last)) q = q.apart (only q.one q.one_within q.one_labelled ∙ sym (only q.other q.other_within q.other_labelled))
    where
      only : (v : ℕ) → v < length labels → get_or labels v 0 ≡ label → v ≡ one
      only v h is = ⊎_elim
          (λ (at : v ≡ one). at)
          (λ (off : v ≡ one → ⊥). ⊎_elim
          (λ (below : v < one). absurd ((onward one e).1.none v (omega arith) below is))
          (λ (above : one ≤ v). absurd ((m.first label within).none v (omega arith) h is))
          (cases_lt v one))
          (cases_eq v one)

  -- two, none of which is an entry or marked
  pub paired_quiet : Paired nexts link → Followed (Calm entered labels marks) labels label 0 → Quiet entered labels marks label
  paired_quiet p f =
      let a = onward p.one p.first in
      let b = (m.first label within).before in
      let c = a.1.before in
      let g = p.first in
      let h = p.next in
      record {
        one = p.one;
        other = p.other;
        apart = λ e. omega arith;
        one_within = omega arith;
        other_within = omega arith;
        one_labelled = a.0;
        other_labelled = a.1.labelled p.other p.next;
        calm = λ v h e. f.2 v (omega arith) h e;
      }

-- THE VERDICT

-- one more label is ruled
pub ruled_more : (entered : ℕ → Bool) (labels marks closed : List ℕ) (n mark : ℕ) → n < length closed → Ruled entered labels marks closed n
    → Verdict entered labels marks n mark → Ruled entered labels marks (set closed n mark) (n + 1)
ruled_more entered labels marks closed n mark h old here =
    below_more (λ i. Verdict entered labels marks i (get_or (set closed n mark) i 0)) n
    (λ i l. rw (get_or-set_other closed n i mark 0 (omega arith)) (old i l))
    (rw (get_or-set_same closed n mark 0 h) here)
