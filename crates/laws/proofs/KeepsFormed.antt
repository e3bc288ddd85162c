-- What is left of a tree formed by the table of kinds is so formed. By induction over the chain, at ways that bear a removal:
-- a record that stays keeps its place, and its children are formed by induction; one that gives way does so to a stand-in, among
-- whose ways on are its own; one that is unlinked stood where any number may stand.
--
--   expression_stands, children_swept                 an expression is a stand-in; swept children
--   yielded_formed, unwrapped_formed                  what takes the place of an Assignment, and of a wrapped Call
--   done_formed                                       what is left of one record, and what follows
--   entered_last, var_inward                          a Var that is entered in a For, and one that lost its Declarators
--   treat_formed, inner_kept, keeps_formed            a chain; a record's children; the theorem
use Rattle.std.proofs.Common.{◌≡◌, ℕ, Bool, true, false, List, [], ◌∷◌, sym, refl, ◌∙◌, subst, arith}
use Rattle.std.proofs.lemmas.Bool.{both_ways, false_from_ne_true, eqb-false}
use Rattle.std.proofs.lemmas.Bool.Decides.{nat_tests}
use Rattle.rules.specs.Tree.{Head, Chain, is_end, below, after, alone, append}
use Rattle.rules.specs.Tree.Chain.{end, link}
use Rattle.rules.specs.Kinds.{import_item, specifier, empty_statement, expression_statement, fn_declaration, class_declaration, var_declaration, for_statement, declarator, object, call_expression, assignment, member, expression, statement, item}
use Rattle.rules.specs.Grammar.{words_fit, Way, assigned, children_of, step, root}
use Rattle.rules.specs.Grammar.Part.{one}
use Rattle.rules.specs.Held.{Formed}
use Rattle.rules.specs.Removal.{By, Place, at_root, place_inside, has_list, entered, swept, wrapped_object, Verdict, verdict, Left, done, treated, treat}
use Rattle.rules.specs.Removal.Verdict.{stays, sweeps, empties, unlinks, restates, yields, unwraps}
use Rattle.laws.specs.KeepsTree.{KeepsFormed}
use Rattle.laws.proofs.Formed.{first_kind, formed_one, RecordFormed, FirstFormed, first_formed, below_formed}
use Rattle.laws.proofs.Verdicts.{Emptying, Unlinking, wraps, Means, means, by_list}
use Rattle.laws.proofs.Verdicts.Emptying.{fn, class, imports, var}
use Rattle.laws.proofs.Verdicts.Unlinking.{declares, specifies}
use Rattle.laws.proofs.KeepsWays.{formed_filled}
use Rattle.laws.proofs.KeepsFair.{stand_ins}
use Rattle.laws.proofs.KeepsTable.{declarators, Bears, bears_fair, inner_ways, bears_inside, Stands, swap_moving, swap_declaring, drop_formed, swap_var}
use Rattle.laws.proofs.KeepsTable.Bears.{anywhere}
use Rattle.laws.proofs.KeepsLists.{swept_formed, inner_formed, children_formed}
use Rattle.laws.proofs.KeepsDeclarators.{exported_filled, var_inside, FirstKept, first_kept, restated_formed}

-- such a record stands where its kind may
put : (ways : List Way) (h : Head) (children onward : Chain) → RecordFormed h children → Stands ways h.kind onward → Formed ways (link h children onward)
put ways h children onward w s = (w.fit, s.0, w.formed, s.1)

-- an expression stands in for an Assignment
expression_stands : (m : ℕ) → expression m ≡ true → member m (stand_ins assignment) ≡ true
expression_stands m e = grind (arith, nat_tests)

-- a list's children are of one sort, and swept they are
children_swept : (h : Head) (c : Chain) → has_list h ≡ true → Formed (inner_ways h) c → Formed (children_of h) (swept c)
children_swept h c l f =
    by_list (λ (g : Head). Formed (inner_ways g) c → Formed (children_of g) (swept c)) h l (swept_formed item c) (swept_formed statement c) (swept_formed statement c) f

module _ (ways : List Way) (onward : Chain) where
  -- the value of an Assignment takes its place
  yielded_formed : (sort : ℕ → Bool) (c : Chain) → Formed ((one sort ∷ one expression ∷ []) ∷ []) c →
      ((m : ℕ) → expression m ≡ true → Stands ways m onward) → Formed ways (append (alone (after c)) onward)
  yielded_formed sort end f s = absurd (both_ways false refl f)
  yielded_formed sort (link t under end) f s = absurd (both_ways false refl (formed_one sort (one expression ∷ []) (link t under end) f).1)
  yielded_formed sort (link t under (link v inside rest)) f s =
      let p = (formed_one sort (one expression ∷ []) (link t under (link v inside rest)) f).1 in
      put ways v inside onward (record { fit = p.0; formed = p.2 }) (s v.kind (formed_one expression [] (link v inside rest) p).0)

  -- the Object of a wrapped Call takes its place
  unwrapped_formed : (c : Chain) → first_kind c ≡ object → FirstFormed c → Stands ways object onward → Formed ways (append (alone c) onward)
  unwrapped_formed end g w s = absurd (eqb-false 0 object refl g)
  unwrapped_formed (link o inside rest) g w s =
      put ways o inside onward w (subst (λ (k : ℕ). Stands ways k onward) (sym g) s)

-- what is left of one record: its children are left formed, and so is what follows it. Of a Var: it is a For's last child if it stands
-- in one, it is not exported if its Declarators went, and the first that is left was not to go.
module _ (by : By) (p : Place) (ways : List Way) (h : Head) (found : Chain) (ready : Bears p ways) (fit : words_fit h ≡ true)
    (inner : Left) (within : Formed (inner_ways h) inner.chain) (onward : Chain) (stands : Stands ways h.kind onward)
    (last : h.kind ≡ var_declaration → p.parent ≡ for_statement → onward ≡ end)
    (inward : h.kind ≡ var_declaration → is_end inner.chain ≡ true → p.in_export ≡ false)
    (first : h.kind ≡ var_declaration → FirstKept by (place_inside p h) inner.chain) where
  -- the record's kind is known
  stands_as : (k : ℕ) → h.kind ≡ k → Stands ways k onward
  stands_as k e = subst (λ (j : ℕ). Stands ways j onward) e stands

  emptied_stands : Emptying p h found inner.chain → Stands ways empty_statement onward
  emptied_stands (fn k x) = swap_declaring p ways onward fn_declaration empty_statement refl refl x ready (stands_as fn_declaration k)
  emptied_stands (class k x) = swap_declaring p ways onward class_declaration empty_statement refl refl x ready (stands_as class_declaration k)
  emptied_stands (imports k x) = swap_moving p ways onward import_item empty_statement refl refl ready (stands_as import_item k)
  emptied_stands (var k x) = swap_var p ways onward empty_statement refl (inward k x) (last k) ready (stands_as var_declaration k)

  unlinked_formed : Unlinking p h → Formed ways onward
  unlinked_formed (declares k x) = drop_formed p ways onward declarator refl ready (stands_as declarator k).1
  unlinked_formed (specifies k) = drop_formed p ways onward specifier refl ready (stands_as specifier k).1

  done_formed : (v : Verdict) → Means by p h found inner.chain v → Formed ways (append (done v h inner).chain onward)
  done_formed stays m = (fit, stands.0, children_formed h inner.chain m.filled within, stands.1)
  done_formed sweeps m = (fit, stands.0, children_swept h inner.chain m within, stands.1)
  done_formed (empties names) m = let s = emptied_stands m.which in (refl, s.0, refl, s.1)
  done_formed (unlinks name) m = unlinked_formed m.which
  done_formed restates m =
      let k = m.kind in
      let s = swap_var p ways onward expression_statement refl m.inward (last k) ready (stands_as var_declaration k) in
      (refl, s.0, restated_formed by p h inner.chain m (first k) (rw k at within), s.1)
  done_formed (yields name) m =
      let k = m.kind in
      yielded_formed ways onward (assigned h) inner.chain (rw k at within)
      (λ j e. swap_moving p ways onward assignment j refl (expression_stands j e) ready (stands_as assignment k))
  done_formed unwraps m =
      let c = inner.chain in
      let whole = below_formed (below (below (below c))) (below_formed (below (below c)) (below_formed (below c) (below_formed c (first_formed (inner_ways h) c within)))) in
      unwrapped_formed ways onward (wrapped_object c) (wraps c m.wraps).object whole
      (swap_moving p ways onward call_expression object refl refl ready (stands_as call_expression m.kind))

-- a Var in a For that the rules enter is its last child
entered_last : (p : Place) (h : Head) (children : Chain) (last : Bool) → entered p h children last ≡ true → h.kind ≡ var_declaration → p.parent ≡ for_statement → last ≡ true
entered_last p h children last e k f = grind (arith, nat_tests)

end_last : (by : By) (p : Place) (c : Chain) → is_end c ≡ true → (treat by p c).chain ≡ end
end_last by p end e = refl
end_last by p (link h children rest) e = absurd (both_ways false refl e)

-- an exported Var keeps a Declarator
var_inward : (by : By) (p : Place) (h : Head) (children : Chain) → Formed (children_of h) children → h.kind ≡ var_declaration →
    is_end (treat by (place_inside p h) children).chain ≡ true → p.in_export ≡ false
var_inward by p h children f k e =
    let q = place_inside p h in
    let g : Formed declarators children = rw k at (inner_formed h children f) in
    false_from_ne_true p.in_export
    (λ x. both_ways (is_end (treat by q children).chain) (exported_filled by q (var_inside p h k ∙ x) children g (formed_filled (children_of h) children (rw k) f)) e)

treat_formed : (by : By) (p : Place) (ways : List Way) (c : Chain) → Bears p ways → Formed ways c → Formed ways (treat by p c).chain
treat_formed by p ways end ready f = f
treat_formed by p ways (link h children rest) ready f =
    let q = place_inside p h in
    let g = inner_formed h children f.2 in
    go (treat_formed by q (inner_ways h) children (bears_inside p h) g)
    (treat_formed by p (step h.kind ways) rest (anywhere (bears_fair p h.kind ways ready)) f.3)
    (entered p h children (is_end rest)) refl
  where
    go : Formed (inner_ways h) (treat by (place_inside p h) children).chain → Formed (step h.kind ways) (treat by p rest).chain →
        (b : Bool) → entered p h children (is_end rest) ≡ b →
        Formed ways (append (treated b by p h children (treat by (place_inside p h) children)).chain (treat by p rest).chain)
    go w o true e =
        let q = place_inside p h in
        let inner = treat by q children in
        done_formed by p ways h children ready f.0 inner w (treat by p rest).chain (f.1, o)
        (λ k x. end_last by p rest (entered_last p h children (is_end rest) e k x))
        (λ k x. var_inward by p h children f.2 k x)
        (λ k. first_kept by q children (rw k at (inner_formed h children f.2)))
        (verdict by p h children inner.chain) (means by p h children inner.chain)
    go w o false e = (f.0, f.1, f.2, o)

-- what is left of a record's children, before the record itself is treated
pub inner_kept : (by : By) (p : Place) (h : Head) (children : Chain) → Formed (children_of h) children → Formed (inner_ways h) (treat by (place_inside p h) children).chain
inner_kept by p h children f = treat_formed by (place_inside p h) (inner_ways h) children (bears_inside p h) (inner_formed h children f)

pub keeps_formed : KeepsFormed
keeps_formed by c f = treat_formed by at_root root c (anywhere refl) f
