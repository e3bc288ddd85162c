-- One record more of a chain, by the code's walk.
-- The code's scope and path come back as they were, so what surrounds the next record is what surrounded the first.
use Rattle.std.proofs.Common.{◌≡◌, List, take, drop, sym, ap, ◌∙◌}
use Rattle.rules.specs.Tree.{Head, Chain}
use Rattle.rules.specs.Tree.Chain.{link}
use Rattle.rules.specs.Refusals.{Outcome, and_then}
use Rattle.records.specs.declared.children.Children.{Children}
use Rattle.records.specs.declared.children.Node.{Node}
use Rattle.records.specs.declared.id.Id.{Id}
use Rattle.records.specs.Chains.{as_chain, head_of_node, Steps}
use Rattle.records.specs.KindWords.{kind_word}
use Rattle.analyzer.specs.declared.analyzer.Analyzer.{Analyzer}
use Rattle.analyzer.specs.declared.scope.Scope.{Scope}
use Rattle.analyzer.specs.Scopes.{Here, role_of, one, here}
use Rattle.analyzer.specs.Visits.{Kept, here_of}
use Rattle.analyzer.specs.Walk.{State, sort_of, visited, walk}

-- a path that is alike as far as the scope goes
here_same : (scope scope' : Scope) (path path' : List Id) → scope' ≡ scope → take scope.len path' ≡ take scope.len path → here scope' path' ≡ here scope path
here_same scope scope' path path' s e =
    ap (λ (x : Scope). here x path') s
    ∙ ap (λ (p : List Id). record { cur_fn = one scope.cur_fn_id; cur_class = one scope.cur_class_id; held = drop scope.start p; fresh = scope.fresh; role = role_of scope.role }) e

pub here_kept : (x y : Analyzer) → Kept x y → here_of y ≡ here_of x
here_kept x y kept = here_same x.scope y.scope x.path y.path kept.scope kept.path

-- the outcome of the record that comes first decides how the walk goes on
goes_on : (a : Here) (h : Head) (c children rest : Chain) (s : State) (o : Outcome State) → c ≡ link h children rest
    → visited (sort_of h.kind) a h children s ≡ o → walk a c s ≡ and_then o (λ u. walk a rest u)
unfolding walk
goes_on a h c children rest s o e v =
    ap (λ (x : Chain). walk a x s) e ∙ ap (λ (p : Outcome State). and_then p (λ u. walk a rest u)) v

pub walk_on : (x y : Analyzer) (c : Chain) (from to : Children) (n : Node) (s t : State) (o : Outcome State) → Kept x y → Steps from n to
    → walk (here_of x) c s ≡ walk (here_of x) (as_chain from) t
    → visited (sort_of (kind_word n.record.kind)) (here_of y) (head_of_node n) (as_chain n.below) t ≡ o
    → walk (here_of x) c s ≡ and_then o (λ u. walk (here_of x) (as_chain to) u)
walk_on x y c from to n s t o kept steps before v =
    before
    ∙ goes_on (here_of x) (head_of_node n) (as_chain from) (as_chain n.below) (as_chain to) t o steps.is
    (ap (λ (a : Here). visited (sort_of (kind_word n.record.kind)) a (head_of_node n) (as_chain n.below) t) (sym (here_kept x y kept)) ∙ v)
