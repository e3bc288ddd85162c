-- `leads` decides whether edges lead from one name to another, and `component` who shares a component.
-- Sound: each look adds only the ends of edges that leave what is found. Complete: a look that adds nothing has shut the set, and one
-- that adds something leaves fewer edges whose end is missing, of which there are at most as many as looks.
use Rattle.std.proofs.Common.{◌≡◌, ℕ, ◌+◌, ◌<◌, ◌≤◌, Bool, true, false, not, ◌&&◌, List, [], ◌∷◌, length, sym, refl, ap, ◌∙◌, inl, inr, ⊎_elim, arith}
use Rattle.std.proofs.lemmas.Bool.{cond_both, and_parts, and_from, both_ways, or_cases, or_left, cases_Bool}
use Rattle.std.proofs.lemmas.Map.Views.{any-filter_same}
use Rattle.rules.specs.Tree.{Name}
use Rattle.rules.specs.Names.{same, among}
use Rattle.rules.specs.Tables.{EdgeRow, some_row}
use Rattle.rules.specs.Rings.{Edge, Leads, along, looks, reach, leads, leading_to}
use Rattle.rules.specs.Rings.Leads.{here, onward}
use Rattle.rules.specs.Reaching.{LeadsTold, ComponentTold}
use Rattle.rules.proofs.SameNames.{same_eq, same_refl}
use Rattle.rules.proofs.Sizes.{unless, unless_most, unless_mono}

-- what is found stays found
pub along_keeps : (n : Name) (es : List EdgeRow) (ns : List Name) → among n ns ≡ true → among n (along es ns) ≡ true
along_keeps n [] ns h = h
along_keeps n (e ∷ es) ns h = grind (arith, along_keeps n es (e.to ∷ ns), along_keeps n es ns)

pub looks_keeps : (n : Name) (xs es : List EdgeRow) (ns : List Name) → among n ns ≡ true → among n (looks xs es ns) ≡ true
looks_keeps n [] es ns h = h
looks_keeps n (x ∷ xs) es ns h = looks_keeps n xs es (along es ns) (along_keeps n es ns h)

-- what is found is led to
abbrev All : List EdgeRow → Name → List Name → Type 0
All es a ns = (n : Name) → among n ns ≡ true → Leads es a n

all_cons : (es : List EdgeRow) (a m : Name) (ns : List Name) → Leads es a m → All es a ns → All es a (m ∷ ns)
all_cons es a m ns l f n x = ⊎_elim (λ y. rw (same_eq n m y) l) (f n) (or_cases (same n m) (among n ns) x)

-- `xs` are edges of `es`
abbrev Part : List EdgeRow → List EdgeRow → Type 0
Part es xs = (b c : Name) → Edge xs b c → Edge es b c

along_sound : (es : List EdgeRow) (a : Name) (xs : List EdgeRow) → Part es xs → (ns : List Name) → All es a ns → All es a (along xs ns)
along_sound es a [] p ns f = f
along_sound es a (e ∷ xs) p ns f = cond_both (among e.from ns && not (among e.to ns)) (along xs (e.to ∷ ns)) (along xs ns) (λ (l : List Name). All es a l)
    (λ g. along_sound es a xs (λ b c y. p b c (inr y)) (e.to ∷ ns) (all_cons es a e.to ns (onward (f e.from (and_parts (among e.from ns) _ g).0) (p e.from e.to (inl (refl, refl)))) f))
    (λ _. along_sound es a xs (λ b c y. p b c (inr y)) ns f)

looks_sound : (es : List EdgeRow) (a : Name) (xs : List EdgeRow) (ns : List Name) → All es a ns → All es a (looks xs es ns)
looks_sound es a [] ns f = f
looks_sound es a (x ∷ xs) ns f = looks_sound es a xs (along es ns) (along_sound es a es (λ b c y. y) ns f)

pub leads_sound : (es : List EdgeRow) (a b : Name) → leads es a b ≡ true → Leads es a b
leads_sound es a b = looks_sound es a es (a ∷ []) (all_cons es a a [] here (λ n x. absurd (both_ways false refl x))) b

-- what is led to is found
abbrev Shut : List EdgeRow → List Name → Type 0
Shut es ns = (b c : Name) → Edge es b c → among b ns ≡ true → among c ns ≡ true

abbrev open_edge : List Name → EdgeRow → Bool
open_edge ns e = among e.from ns && not (among e.to ns)

abbrev missing : List EdgeRow → List Name → ℕ
missing [] ns = 0
missing (e ∷ es) ns = unless (among e.to ns) + missing es ns

shut_none : (es : List EdgeRow) (ns : List Name) → some_row (open_edge ns) es ≡ false → Shut es ns
shut_none [] ns g b c x y = absurd x
shut_none (e ∷ es) ns g b c x y = grind (arith, shut_none es ns)

along_none : (xs : List EdgeRow) (ns : List Name) → some_row (open_edge ns) xs ≡ false → along xs ns ≡ ns
along_none [] ns g = refl
along_none (e ∷ xs) ns g = grind (arith, along_none xs ns)

looks_none : (es xs : List EdgeRow) (ns : List Name) → some_row (open_edge ns) es ≡ false → looks xs es ns ≡ ns
looks_none es [] ns g = refl
looks_none es (x ∷ xs) ns g = ap (λ (l : List Name). looks xs es l) (along_none es ns g) ∙ looks_none es xs ns g

-- a round reaches the end of every edge that leaves the set
along_takes : (xs : List EdgeRow) (ns : List Name) (b c : Name) → Edge xs b c → among b ns ≡ true → among c (along xs ns) ≡ true
along_takes [] ns b c x y = absurd x
along_takes (e ∷ xs) ns b c x y =
    grind (arith, along_takes xs (e.to ∷ ns) b c, along_takes xs ns b c, along_keeps c xs (e.to ∷ ns), along_keeps c xs ns, same_refl e.to)

missing_less : (es : List EdgeRow) (ns ms : List Name) → ((n : Name) → among n ns ≡ true → among n ms ≡ true) → missing es ms ≤ missing es ns
missing_less [] ns ms f = omega arith
missing_less (e ∷ es) ns ms f = omega (arith, unless_mono (among e.to ns) (among e.to ms) (f e.to), missing_less es ns ms f)

missing_falls : (es : List EdgeRow) (ns ms : List Name) → ((n : Name) → among n ns ≡ true → among n ms ≡ true) → ((b c : Name) → Edge es b c → among b ns ≡ true → among c ms ≡ true)
    → some_row (open_edge ns) es ≡ true → missing es ms < missing es ns
missing_falls [] ns ms f g x = absurd (both_ways false refl x)
missing_falls (e ∷ es) ns ms f g x = grind (arith, missing_falls es ns ms f (λ b c z. g b c (inr z)), missing_less es ns ms f, unless_mono (among e.to ns) (among e.to ms) (f e.to), g e.from e.to (inl (refl, refl)))

missing_none : (es : List EdgeRow) (ns : List Name) → missing es ns ≤ 0 → (b c : Name) → Edge es b c → among c ns ≡ true
missing_none [] ns h b c x = absurd x
missing_none (e ∷ es) ns h b c x = grind (arith, missing_none es ns (omega arith) b c)

looks_shut : (es xs : List EdgeRow) (ns : List Name) → missing es ns ≤ length xs → Shut es (looks xs es ns)
looks_shut es [] ns h = λ b c x y. missing_none es ns h b c x
looks_shut es (w ∷ xs) ns h = ⊎_elim
    (λ g. looks_shut es xs (along es ns) (omega (arith, missing_falls es ns (along es ns) (λ n. along_keeps n es ns) (along_takes es ns) g)))
    (λ g. rw (looks_none es (w ∷ xs) ns g) (shut_none es ns g))
    (cases_Bool (some_row (open_edge ns) es))

missing_most : (es : List EdgeRow) (ns : List Name) → missing es ns ≤ length es
missing_most [] ns = omega arith
missing_most (e ∷ es) ns = omega (arith, unless_most (among e.to ns), missing_most es ns)

reached_found : (es : List EdgeRow) (a : Name) (ns : List Name) → among a ns ≡ true → Shut es ns → {b : Name} → Leads es a b → among b ns ≡ true
reached_found es a ns g s here = g
reached_found es a ns g s (onward {b} {c} l x) = s b c x (reached_found es a ns g s l)

pub leads_complete : (es : List EdgeRow) (a b : Name) → Leads es a b → leads es a b ≡ true
leads_complete es a b l = reached_found es a (looks es es (a ∷ [])) (looks_keeps a es es (a ∷ []) (or_left (same a a) false (same_refl a))) (looks_shut es es (a ∷ []) (missing_most es (a ∷ []))) l

pub leads_told : LeadsTold
leads_told es a b = (leads_sound es a b, leads_complete es a b)

-- a name is kept among those that lead to n exactly if it does
leading_kept : (es : List EdgeRow) (n b : Name) (ms : List Name) → among b (leading_to es n ms) ≡ (leads es b n && among b ms)
leading_kept es n b = any-filter_same (same b) (λ m. leads es m n) (leads es b n) (λ m y. rw (same_eq b m y))

pub component_told : ComponentTold
component_told es a b =
    let found = leading_kept es a b (reach es a) in (
      (λ h. let r = and_parts (leads es b a) (leads es a b) (sym found ∙ h) in (leads_sound es a b r.1, leads_sound es b a r.0)),
      (λ l. found ∙ and_from (leads es b a) (leads es a b) (leads_complete es b a l.1) (leads_complete es a b l.0)),
    )
