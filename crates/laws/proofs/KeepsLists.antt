-- Chains of any number of records of one sort: sweeping keeps them so. A Var's children are such a chain that has a record.
--
--   swept_formed                    sweeping
--   inner_formed, children_formed   a record's children as they are treated, and as the table has them
use Rattle.std.proofs.Common.{◌≡◌, ℕ, Bool, true, false, List, [], ◌∷◌, sym, refl, subst, ⊎_elim, arith}
use Rattle.std.proofs.lemmas.Bool.{cond_both, cond-false, both_ways, cases_Bool, eqb-true}
use Rattle.rules.specs.Tree.{Head, Chain, ◌is◌, is_end}
use Rattle.rules.specs.Tree.Chain.{end, link}
use Rattle.rules.specs.Kinds.{var_declaration, declarator, only}
use Rattle.rules.specs.Grammar.{Way, children_of}
use Rattle.rules.specs.Grammar.Part.{one, many}
use Rattle.rules.specs.Held.{Formed}
use Rattle.rules.specs.Removal.{swept, var_emptied}
use Rattle.laws.proofs.Basics.{swept_both}
use Rattle.laws.proofs.Formed.{list_of, listed, list_link, formed_one, one_link}
use Rattle.laws.proofs.KeepsTable.{declarators, inner_ways}

pub swept_formed : (sort : ℕ → Bool) (c : Chain) → Formed (list_of sort) c → Formed (list_of sort) (swept c)
swept_formed sort end f = f
swept_formed sort (link h children rest) f =
    let l = listed sort h children rest f in
    let s = swept_formed sort rest l.1 in
    swept_both (λ (d : Chain). Formed (list_of sort) d) h children rest (λ _. s) (list_link sort h children (swept rest) l.0 f.0 f.2 s)

-- a Var's children as the table has them
abbrev var_ways : List Way
var_ways = (one (only declarator) ∷ many (only declarator) ∷ []) ∷ []

var_list : (c : Chain) → Formed var_ways c → Formed declarators c
var_list end f = refl
var_list (link h children rest) f =
    let p = formed_one (only declarator) (many (only declarator) ∷ []) (link h children rest) f in
    list_link (only declarator) h children rest p.0 f.0 f.2 p.1

list_var : (c : Chain) → is_end c ≡ false → Formed declarators c → Formed var_ways c
list_var end e f = absurd (both_ways true e refl)
list_var (link h children rest) e f =
    let p = listed (only declarator) h children rest f in
    one_link (only declarator) (many (only declarator) ∷ []) h children rest p.0 f.0 f.2 p.1

var_children : (h : Head) → h.kind ≡ var_declaration → children_of h ≡ var_ways
var_children h k = rw k

pub inner_formed : (h : Head) (c : Chain) → Formed (children_of h) c → Formed (inner_ways h) c
inner_formed h c f =
    cond_both (h is var_declaration) declarators (children_of h) (λ (w : List Way). Formed w c)
    (λ x. var_list c (subst (λ (w : List Way). Formed w c) (var_children h (eqb-true h.kind var_declaration x)) f)) (λ _. f)

pub children_formed : (h : Head) (c : Chain) → var_emptied h c ≡ false → Formed (inner_ways h) c → Formed (children_of h) c
children_formed h c e f =
    ⊎_elim
    (λ x.
    let filled : is_end c ≡ false = grind arith in
    subst (λ (w : List Way). Formed w c) (sym (var_children h (eqb-true h.kind var_declaration x))) (list_var c filled (rw x at f)))
    (λ x. subst (λ (w : List Way). Formed w c) (cond-false (h is var_declaration) declarators (children_of h) x) f)
    (cases_Bool (h is var_declaration))
