-- Ways that bear a removal. A removal puts few kinds in the place of others, and unlinks two kinds. A computed test on the sorts of
-- ways tells that each such change keeps the chain formed, and it holds of the ways on after any child.
--
--   stand_ins, keeps, spares      the kinds put in the place of a kind; a sort that takes these too; one that takes none unlinked
--   fair_way, fair                        the test
--   fair_step                             the ways on are fair
--   fair_swap                             the ways on after a kind are among those after its stand-in
--   fair_drop                             the ways on after what is unlinked are among those before it
use Rattle.std.specs.Prelude.{if◌then◌else◌}
use Rattle.std.specs.List.{list_all}
use Rattle.std.proofs.Common.{◌≡◌, ℕ, Bool, true, false, cond, not, ◌&&◌, ◌||◌, eqb, List, [], ◌∷◌, ◌++◌, sym, refl, ◌∙◌, subst, ⊎_elim, arith}
use Rattle.std.proofs.lemmas.Bool.{cond_both, and_parts, and_from, both_ways, or_cases}
use Rattle.std.proofs.lemmas.List.Folds.{list_all-append}
use Rattle.rules.specs.Kinds.{specifier, empty_statement, expression_statement, var_declaration, declarator, identifier, literal, function_expression, class_expression, arrow, plain_expression, object, call_expression, delete_expression, assignment, member}
use Rattle.rules.specs.Grammar.{Part, Way, go_on, step}
use Rattle.rules.specs.Grammar.Part.{one, maybe, many}
use Rattle.laws.proofs.Basics.{all_member}
use Rattle.laws.proofs.KeepsWays.{Within, within_none, within_append}
use Rattle.laws.proofs.KeepsWays.Within.{none, both, more}

-- the kinds that a removal may put in the place of a kind: an expression for an Assignment, an Object for a Call, else a statement
abbrev pub stand_ins : ℕ → List ℕ
stand_ins k =
    if eqb k var_declaration then empty_statement ∷ expression_statement ∷ []
    else if eqb k call_expression then object ∷ []
    else if eqb k assignment then
    identifier ∷ literal ∷ function_expression ∷ class_expression ∷ arrow ∷ plain_expression ∷ object ∷ call_expression ∷ delete_expression ∷ assignment ∷ []
    else empty_statement ∷ []

-- the kinds that are unlinked
abbrev pub unlinkable : List ℕ
unlinkable = declarator ∷ specifier ∷ []

-- a sort that takes a kind takes its stand-ins
abbrev pub keeps : (ℕ → Bool) → ℕ → Bool
keeps sort k = not (sort k) || list_all sort (stand_ins k)

-- a sort takes none that may be unlinked
abbrev pub spares : (ℕ → Bool) → Bool
spares sort = list_all (λ k. not (sort k)) unlinkable

-- a part's sort
abbrev pub sort_of : Part → ℕ → Bool
sort_of (one sort) = sort
sort_of (maybe sort) = sort
sort_of (many sort) = sort

-- each sort of a way keeps these kinds
abbrev pub keeps_all : List ℕ → Way → Bool
keeps_all ks way = list_all (λ part. list_all (keeps (sort_of part)) ks) way

-- no sort of a way takes what may be unlinked
abbrev pub spares_all : Way → Bool
spares_all way = list_all (λ part. spares (sort_of part)) way

-- any number of one sort, and nothing else
abbrev pub a_list : Way → Bool
a_list [] = false
a_list (one sort ∷ way) = false
a_list (maybe sort ∷ way) = false
a_list (many sort ∷ []) = true
a_list (many sort ∷ part ∷ way) = false

-- a way bears that records of these kinds give way to stand-ins, and that records are unlinked
abbrev pub fair_way : List ℕ → Way → Bool
fair_way ks way = keeps_all ks way && (spares_all way || a_list way)

-- each way does
abbrev pub fair : List ℕ → List Way → Bool
fair ks ways = list_all (fair_way ks) ways

-- a list of one sort has no part after it
list_last : (part : Part) (way : Way) → a_list (part ∷ way) ≡ true → way ≡ []
list_last (one sort) way e = absurd (both_ways false refl e)
list_last (maybe sort) way e = absurd (both_ways false refl e)
list_last (many sort) [] e = refl
list_last (many sort) (part ∷ way) e = absurd (both_ways false refl e)

tail_spared : (part : Part) (way : Way) → (spares_all (part ∷ way) || a_list (part ∷ way)) ≡ true → (spares_all way || a_list way) ≡ true
tail_spared part way f = grind (arith, list_last part way)

fair_tail : (ks : List ℕ) (part : Part) (way : Way) → fair_way ks (part ∷ way) ≡ true → fair_way ks way ≡ true
fair_tail ks part way f =
    let a = and_parts (keeps_all ks (part ∷ way)) (spares_all (part ∷ way) || a_list (part ∷ way)) f in
    and_from (keeps_all ks way) (spares_all way || a_list way)
    (and_parts (list_all (keeps (sort_of part)) ks) (keeps_all ks way) a.0).1 (tail_spared part way a.1)

pub fair_append : (ks : List ℕ) (a b : List Way) → fair ks a ≡ true → fair ks b ≡ true → fair ks (a ++ b) ≡ true
fair_append ks a b f g = list_all-append (fair_way ks) a b ∙ and_from (fair ks a) (fair ks b) f g

pub fair_on : (ks : List ℕ) (k : ℕ) (way : Way) → fair_way ks way ≡ true → fair ks (go_on k way) ≡ true
fair_on ks k [] f = refl
fair_on ks k (one sort ∷ way) f = grind (arith, fair_tail ks (one sort) way)
fair_on ks k (maybe sort ∷ way) f =
    grind (arith, fair_tail ks (maybe sort) way, fair_append ks (if sort k then way ∷ [] else []) (go_on k way), fair_on ks k way)
fair_on ks k (many sort ∷ way) f =
    grind (arith, fair_tail ks (many sort) way, fair_append ks (if sort k then (many sort ∷ way) ∷ [] else []) (go_on k way), fair_on ks k way)

pub fair_step : (ks : List ℕ) (k : ℕ) (ways : List Way) → fair ks ways ≡ true → fair ks (step k ways) ≡ true
fair_step ks k [] f = refl
fair_step ks k (way ∷ ways) f = grind (arith, fair_append ks (go_on k way) (step k ways), fair_on ks k way, fair_step ks k ways)

cond_within : (a b : Bool) (way : Way) → (a ≡ true → b ≡ true) → Within (cond a (way ∷ []) []) (cond b (way ∷ []) [])
cond_within true true way f = both none
cond_within true false way f = absurd (both_ways false refl (f refl))
cond_within false b way f = within_none (cond b (way ∷ []) [])

module _ (ks : List ℕ) (k m : ℕ) (among : member k ks ≡ true) (stands : member m (stand_ins k) ≡ true) where
  sort_swap : (sort : ℕ → Bool) → list_all (keeps sort) ks ≡ true → sort k ≡ true → sort m ≡ true
  sort_swap sort a e = let b = all_member (keeps sort) k ks a among in all_member sort m (stand_ins k) (grind arith) stands

  on_swap : (way : Way) → keeps_all ks way ≡ true → Within (go_on k way) (go_on m way)
  on_swap [] f = none
  on_swap (one sort ∷ way) f = cond_within (sort k) (sort m) way (sort_swap sort (grind arith))
  on_swap (maybe sort ∷ way) f = within_append (cond_within (sort k) (sort m) way (sort_swap sort (grind arith))) (on_swap way (grind arith))
  on_swap (many sort ∷ way) f = within_append (cond_within (sort k) (sort m) (many sort ∷ way) (sort_swap sort (grind arith))) (on_swap way (grind arith))

  pub fair_swap : (ways : List Way) → fair ks ways ≡ true → Within (step k ways) (step m ways)
  fair_swap [] f = none
  fair_swap (way ∷ ways) f = within_append (on_swap way (grind arith)) (fair_swap ways (grind arith))

module _ (ks : List ℕ) (k : ℕ) (gone : member k unlinkable ≡ true) where
  on_none : (way : Way) → spares_all way ≡ true → go_on k way ≡ []
  on_none [] f = refl
  on_none (one sort ∷ way) f = grind (arith, all_member (λ j. not (sort j)) k unlinkable)
  on_none (maybe sort ∷ way) f = grind (arith, all_member (λ j. not (sort j)) k unlinkable, on_none way)
  on_none (many sort ∷ way) f = grind (arith, all_member (λ j. not (sort j)) k unlinkable, on_none way)

  on_list : (way : Way) → a_list way ≡ true → Within (go_on k way) (way ∷ [])
  on_list [] e = absurd (both_ways false refl e)
  on_list (one sort ∷ way) e = absurd (both_ways false refl e)
  on_list (maybe sort ∷ way) e = absurd (both_ways false refl e)
  on_list (many sort ∷ []) e =
      cond_both (sort k) ((many sort ∷ []) ∷ []) [] (λ (a : List Way). Within (a ++ []) ((many sort ∷ []) ∷ [])) (λ _. both none) (λ _. more none)
  on_list (many sort ∷ part ∷ way) e = absurd (both_ways false refl e)

  on_drop : (way : Way) → fair_way ks way ≡ true → Within (go_on k way) (way ∷ [])
  on_drop way f =
      ⊎_elim (λ x. subst (λ (a : List Way). Within a (way ∷ [])) (sym (on_none way x)) (more none)) (λ x. on_list way x)
      (or_cases (spares_all way) (a_list way) (and_parts (keeps_all ks way) (spares_all way || a_list way) f).1)

  pub fair_drop : (ways : List Way) → fair ks ways ≡ true → Within (step k ways) ways
  fair_drop [] f = none
  fair_drop (way ∷ ways) f = within_append (on_drop way (grind arith)) (fair_drop ways (grind arith))
