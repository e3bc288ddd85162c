-- A walk through a chain by `any` or `all`: what it answers.
--
--   Tests              what a call of the closure says at a node
--   any_is, all_is     a recursion through the chain is what `any` or `all` answers, if it asks of each record what the closure does
use Rattle.std.proofs.Common.{◌≡◌, Bool, true, false, ◌&&◌, ◌||◌, List, [], ◌∷◌, Some, None, Option, sym, ap, ◌∙◌, subst, MatchOption}
use Rattle.std.specs.List.{FoldsTo}
use Rattle.std.specs.Iterator.{YieldsThen, ChecksAll, ChecksAny}
use denote.Param.Members.{Mut, Called}
use Rattle.rules.specs.Tree.{Head, Chain}
use Rattle.rules.specs.Tree.Chain.{end, link}
use Rattle.records.specs.Chains.{as_chain, head_of_node, GivesNode, Steps}
use Rattle.records.specs.declared.children.Children.{Children}
use Rattle.records.specs.declared.children.Node.{Node}

-- what a call of the closure says at a node of the chain: the test of the record, its children and what follows
abbrev pub Tests : {F : Type 0} → Mut F (Node × Unit {0}) Bool → F → (Head → Chain → Chain → Bool) → Type 0
Tests {F} g f test = (s t : Children) (x : Node) (b : Bool) (q : F) → Steps s x t → Called g f (x, tt) b q →
    (q ≡ f) × (b ≡ test (head_of_node x) (as_chain x.below) (as_chain t))

module _ {F : Type 0} (g : Mut F (Node × Unit {0}) Bool) (f : F) (test : Head → Chain → Chain → Bool) (calls : Tests g f test) (walk : Chain → Bool) where
  module _ (none : walk end ≡ false) (some : (h : Head) (ch rest : Chain) → walk (link h ch rest) ≡ (test h ch rest || walk rest)) where
    any_by : (xs : List Node) (o : Option Node) (j : F) (s u : Children) (r : Bool) → YieldsThen GivesNode s xs o u →
        FoldsTo (λ p x q. Called g p (x, tt) false q) f xs j → MatchOption o (r ≡ false) (λ x. (r ≡ true) × ((h : F) × Called g j (x, tt) true h)) →
        r ≡ walk (as_chain s)
    any_by [] None j s u r y k m =
        let e : as_chain s ≡ end = ap as_chain y.1 ∙ y.2.0 in
        m ∙ sym (ap walk e ∙ none)
    any_by [] (Some x) j s u r y k m =
        let st : Steps y.0 x u = y.2 in
        let e : as_chain s ≡ link (head_of_node x) (as_chain x.below) (as_chain u) = ap as_chain y.1 ∙ st.is in
        let c = calls y.0 u x true m.1.0 st (subst (λ p. Called g p (x, tt) true m.1.0) (sym k) m.1.1) in
        m.0 ∙ ap (λ b. b || walk (as_chain u)) c.1 ∙ sym (ap walk e ∙ some (head_of_node x) (as_chain x.below) (as_chain u))
    any_by (x ∷ xs) o j s u r y k m =
        let st : Steps s x y.1.0 = y.1.1 in
        let c = calls s y.1.0 x false k.0 st k.1 in
        any_by xs o j y.1.0 u r (y.0, y.1.2, y.2) (subst (λ p. FoldsTo (λ p x q. Called g p (x, tt) false q) p xs j) c.0 k.2) m
        ∙ ap (λ b. b || walk (as_chain y.1.0)) c.1
        ∙ sym (ap walk st.is ∙ some (head_of_node x) (as_chain x.below) (as_chain y.1.0))

    pub any_is : (s u : Children) (r : Bool) → ChecksAny GivesNode g s f r u → r ≡ walk (as_chain s)
    any_is s u r ran = any_by ran.0 ran.1 ran.2 s u r ran.3 ran.4 ran.5

  module _ (none : walk end ≡ true) (some : (h : Head) (ch rest : Chain) → walk (link h ch rest) ≡ (test h ch rest && walk rest)) where
    all_by : (xs : List Node) (o : Option Node) (j : F) (s u : Children) (r : Bool) → YieldsThen GivesNode s xs o u →
        FoldsTo (λ p x q. Called g p (x, tt) true q) f xs j → MatchOption o (r ≡ true) (λ x. (r ≡ false) × ((h : F) × Called g j (x, tt) false h)) →
        r ≡ walk (as_chain s)
    all_by [] None j s u r y k m =
        let e : as_chain s ≡ end = ap as_chain y.1 ∙ y.2.0 in
        m ∙ sym (ap walk e ∙ none)
    all_by [] (Some x) j s u r y k m =
        let st : Steps y.0 x u = y.2 in
        let e : as_chain s ≡ link (head_of_node x) (as_chain x.below) (as_chain u) = ap as_chain y.1 ∙ st.is in
        let c = calls y.0 u x false m.1.0 st (subst (λ p. Called g p (x, tt) false m.1.0) (sym k) m.1.1) in
        m.0 ∙ ap (λ b. b && walk (as_chain u)) c.1 ∙ sym (ap walk e ∙ some (head_of_node x) (as_chain x.below) (as_chain u))
    all_by (x ∷ xs) o j s u r y k m =
        let st : Steps s x y.1.0 = y.1.1 in
        let c = calls s y.1.0 x true k.0 st k.1 in
        all_by xs o j y.1.0 u r (y.0, y.1.2, y.2) (subst (λ p. FoldsTo (λ p x q. Called g p (x, tt) true q) p xs j) c.0 k.2) m
        ∙ ap (λ b. b && walk (as_chain y.1.0)) c.1
        ∙ sym (ap walk st.is ∙ some (head_of_node x) (as_chain x.below) (as_chain y.1.0))

    pub all_is : (s u : Children) (r : Bool) → ChecksAll GivesNode g s f r u → r ≡ walk (as_chain s)
    all_is s u r ran = all_by ran.0 ran.1 ran.2 s u r ran.3 ran.4 ran.5
