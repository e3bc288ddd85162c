-- A removal that changes nothing only sweeps lists, and what it leaves counts, declares and binds the same: what is swept is Empty
-- or a Block without children, and neither counts or declares anything.
--
--   ReadsSame, reads_link, reads_swept      the tree left gives the same counts, declared names, bound names and exported names
--   treat_same                              a removal that changes nothing leaves such a tree
use Rattle.std.specs.Prelude.{if◌then◌else◌}
use Rattle.std.proofs.Common.{◌≡◌, ℕ, Bool, true, false, ◌&&◌, ◌||◌, List, [], ◌∷◌, ◌++◌, sym, refl, ap, ◌∙◌, ⊎_elim, arith}
use Rattle.std.proofs.lemmas.Bool.{and_parts, both_ways, or_cases, or_parts, eqb-true}
use Rattle.rules.specs.Tree.{Head, Chain, ◌is◌, is_end, append}
use Rattle.rules.specs.Tree.Chain.{end, link}
use Rattle.rules.specs.Kinds.{export_declaration, export_name, empty_statement, block, fn_declaration, class_declaration, var_declaration, declarator, function, identifier, arrow, call_expression, name_pattern, property_name}
use Rattle.rules.specs.Grammar.{Way, children_of, step}
use Rattle.rules.specs.Held.{Formed}
use Rattle.rules.specs.Names.{names_of, distinct, binds, nests, keep, bound, Under, under_nothing, under, declares, declaring, declared_below, exported}
use Rattle.rules.specs.Counting.{Found, nothing, ◌followed_by◌, Around, reading, writing, readings, marks, named_here, calls_eval, opens, inside, count}
use Rattle.rules.specs.Removal.{By, Place, place_inside, has_list, entered, swept, Left, treated, treat}
use Rattle.laws.proofs.Basics.{swept_both, each_member}
use Rattle.laws.proofs.Formed.{formed_none}
use Rattle.laws.proofs.Verdicts.{Kept, treated_kept, with_kind, by_list}
use Rattle.laws.proofs.KeepsTable.{inner_ways}
use Rattle.laws.proofs.KeepsFormed.{inner_kept}

-- what is found at a record, by what its children export, give, declare and bind, whether its callee is `eval`, and the rest
abbrev found_at : Around → Head → (exports : List Head) → (inner : Found) → (declared bound : List Head) → (evals : Bool) → (rest : Found) → Found
found_at a h exports inner declared bound evals rest =
    (if h is export_declaration then readings a exports else nothing)
    followed_by (if opens h then record {
      events =
          inner.events
          ++ (if inner.found_direct_eval then marks h.number (distinct [] (names_of declared)) else [])
          ++ (if inner.found_arguments && h is function then marks h.number (names_of bound) else []);
      found_arguments = inner.found_arguments && h is arrow;
      found_direct_eval = inner.found_direct_eval;
    } else inner)
    followed_by (
    if h is identifier || h is export_name then reading a h
    else if h is property_name then writing a h
    else if h is name_pattern then named_here a a.role h
    else if h is call_expression then record { events = []; found_arguments = false; found_direct_eval = evals }
    else nothing)
    followed_by rest

-- WHAT IS SWEPT

-- a fact on what is swept
by_swept : (P : Head → Chain → Type 0) (h : Head) (cs : Chain) → Formed (children_of h) cs → (h is empty_statement || (h is block && is_end cs)) ≡ true
    → P (with_kind h empty_statement) end → P (with_kind h block) end → P h cs
by_swept P h end k g x y =
    each_member (λ (j : ℕ). P (with_kind h j) end) h.kind (empty_statement ∷ block ∷ []) (x, (y, tt))
    (grind arith)
by_swept P h (link i ds rest) k g x y = absurd (⊎_elim
    (λ z. both_ways false refl (empty_bare (eqb-true h.kind empty_statement z)))
    (λ z. both_ways false refl (and_parts (h is block) false z).1) (or_cases (h is empty_statement) _ g))
  where
    empty_bare : h.kind ≡ empty_statement → is_end (link i ds rest) ≡ true
    empty_bare e = formed_none (link i ds rest) (rw e at k)

count_swept : (a : Around) (ways : List Way) (c : Chain) → Formed ways c → count a (swept c) ≡ count a c
count_swept a ways end s = refl
count_swept a ways (link h cs rest) s =
    swept_both (λ (d : Chain). count a d ≡ count a (link h cs rest)) h cs rest
    (λ g. count_swept a (step h.kind ways) rest s.3 ∙ by_swept (λ (h : Head) (cs : Chain). count a rest ≡ count a (link h cs rest)) h cs s.2 g refl refl)
    (ap (λ (f : Found). found_at a h (exported cs) (count (inside a h) cs) (declared_below h cs) (bound cs) (calls_eval cs) f) (count_swept a (step h.kind ways) rest s.3))

declares_none : (b d : Bool) (h : Head) → let u : Under = record { binding = b; default = d } in
    (declares u (with_kind h empty_statement) ≡ false) × (declares u (with_kind h block) ≡ false)
declares_none b d h = (grind arith, grind arith)

declaring_none : (u : Under) (h : Head) (rest : Chain) → declares u h ≡ false → declaring u rest ≡ declaring u (link h end rest)
declaring_none u h rest g = rw g

declaring_swept : (u : Under) (ways : List Way) (c : Chain) → Formed ways c → declaring u (swept c) ≡ declaring u c
declaring_swept u ways end s = refl
declaring_swept u ways (link h cs rest) s =
    let none = declares_none u.binding u.default h in
    swept_both (λ (d : Chain). declaring u d ≡ declaring u (link h cs rest)) h cs rest
    (λ g. declaring_swept u (step h.kind ways) rest s.3 ∙ by_swept (λ (h : Head) (cs : Chain). declaring u rest ≡ declaring u (link h cs rest)) h cs s.2 g
    (declaring_none u (with_kind h empty_statement) rest none.0) (declaring_none u (with_kind h block) rest none.1))
    (ap (λ (hs : List Head). keep (declares u h) h (declaring (under u h) cs ++ hs)) (declaring_swept u (step h.kind ways) rest s.3))

-- THE SAME TREE

-- the tree left gives the same
pub record ReadsSame (c left : Chain) : Type 0 where
  pub counts : (a : Around) → count a left ≡ count a c
  pub declarations : (u : Under) → declaring u left ≡ declaring u c
  pub bounds : bound left ≡ bound c
  pub exports : exported left ≡ exported c
  pub evals : calls_eval left ≡ calls_eval c
  pub ends : is_end left ≡ is_end c

reads_refl : (c : Chain) → ReadsSame c c
reads_refl c = record { counts = λ a. refl; declarations = λ u. refl; bounds = refl; exports = refl; evals = refl; ends = refl }

reads_then : (c d e : Chain) → ReadsSame c d → ReadsSame d e → ReadsSame c e
reads_then c d e s t = record {
  counts = λ a. t.counts a ∙ s.counts a;
  declarations = λ u. t.declarations u ∙ s.declarations u;
  bounds = t.bounds ∙ s.bounds;
  exports = t.exports ∙ s.exports;
  evals = t.evals ∙ s.evals;
  ends = t.ends ∙ s.ends;
}

-- a record whose children and rest give the same
reads_link : (h : Head) (cs ds rest onward : Chain) → ReadsSame cs ds → ReadsSame rest onward → ReadsSame (link h cs rest) (link h ds onward)
reads_link h cs ds rest onward s t = record {
  counts = λ a i. found_at a h (s.exports i) (s.counts (inside a h) i) (s.declarations (under under_nothing h) i) (s.bounds i) (s.evals i) (t.counts a i);
  declarations = λ u i. keep (declares u h) h (s.declarations (under u h) i ++ t.declarations u i);
  bounds = λ i. keep (binds h) h ((if nests h then s.bounds i else []) ++ t.bounds i);
  exports = λ i. keep (h is fn_declaration || h is class_declaration || binds h) h ((if h is var_declaration || h is declarator || nests h then s.exports i else []) ++ t.exports i);
  evals = refl;
  ends = refl;
}

list_count : (a : Around) (h : Head) (cs rest : Chain) → has_list h ≡ true → count a (link h cs rest) ≡ (count (inside a h) cs followed_by count a rest)
list_count a h cs rest g = by_list (λ (h : Head). count a (link h cs rest) ≡ (count (inside a h) cs followed_by count a rest)) h g refl refl refl

list_bound : (h : Head) (cs rest : Chain) → has_list h ≡ true → bound (link h cs rest) ≡ bound rest
list_bound h cs rest g = by_list (λ (h : Head). bound (link h cs rest) ≡ bound rest) h g refl refl refl

list_exported : (h : Head) (cs rest : Chain) → has_list h ≡ true → exported (link h cs rest) ≡ exported rest
list_exported h cs rest g = by_list (λ (h : Head). exported (link h cs rest) ≡ exported rest) h g refl refl refl

-- a list that is swept
reads_swept : (h : Head) (cs rest : Chain) → has_list h ≡ true → Formed (inner_ways h) cs → ReadsSame (link h cs rest) (link h (swept cs) rest)
reads_swept h cs rest g s = record {
  counts = λ a. list_count a h (swept cs) rest g ∙ ap (λ (f : Found). f followed_by count a rest) (count_swept (inside a h) (inner_ways h) cs s) ∙ sym (list_count a h cs rest g);
  declarations = λ u. ap (λ (hs : List Head). keep (declares u h) h (hs ++ declaring u rest)) (declaring_swept (under u h) (inner_ways h) cs s);
  bounds = list_bound h (swept cs) rest g ∙ sym (list_bound h cs rest g);
  exports = list_exported h (swept cs) rest g ∙ sym (list_exported h cs rest g);
  evals = refl;
  ends = refl;
}

-- REMOVALS

-- a record with children that give the same
abbrev Gives : Head → (found left : Chain) → Type 0
Gives h cs bs = (rest : Chain) → ReadsSame (link h cs rest) (link h bs rest)

both_same : (h : Head) (cs rest : Chain) (a b : Left) → Kept h (Gives h cs) a → ReadsSame rest b.chain → ReadsSame (link h cs rest) (append a.chain b.chain)
both_same h cs rest a b x s =
    rw x.is_link
    (reads_then (link h cs rest) (link h x.children rest) (link h x.children b.chain) (x.said rest)
    (reads_link h x.children x.children rest b.chain (reads_refl x.children) s))

pub treat_same : (by : By) (p : Place) (ways : List Way) (c : Chain) → Formed ways c → (treat by p c).changed ≡ false → ReadsSame c (treat by p c).chain
treat_same by p ways end s g = reads_refl end
treat_same by p ways (link h cs rest) s g =
    let inner = treat by (place_inside p h) cs in
    let b = entered p h cs (is_end rest) in
    let one = treated b by p h cs inner in
    let q = or_parts one.changed (treat by p rest).changed g in
    let below : inner.changed ≡ false → ReadsSame cs inner.chain = treat_same by (place_inside p h) (children_of h) cs s.2 in
    both_same h cs rest one (treat by p rest)
    (treated_kept by p h cs inner (Gives h cs)
    (λ _ f r. reads_link h cs inner.chain r r (below f) (reads_refl r))
    (λ has f r. reads_then (link h cs r) (link h inner.chain r) (link h (swept inner.chain) r)
    (reads_link h cs inner.chain r r (below f) (reads_refl r)) (reads_swept h inner.chain r has (inner_kept by p h cs s.2)))
    b (λ _ r. reads_refl (link h cs r)) q.0)
    (treat_same by p (step h.kind ways) rest s.3 q.1)
