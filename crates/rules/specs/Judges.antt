-- The judges: whether an expression may act. A judge is asked of a chain and speaks of its first record.
--
--   Lawful                     what is asked of every judge
--   plain, cautious            the two that come with the library
use Rattle.std.specs.Prelude.{◌≡◌, ℕ, Bool, false, not, ◌&&◌, ◌||◌, [], ◌∷◌, ◌==◌}
use Rattle.rules.specs.Tree.{Head, Chain, ◌is◌, flagged, alone, unnumbered}
use Rattle.rules.specs.Tree.Chain.{end, link}
use Rattle.rules.specs.Kinds.{member, identifier, literal, function_expression, class_expression, arrow, plain_expression, object, call_expression, delete_expression, assignment}

-- a judge's meaning looks only at the first record and what is under it, record numbers apart
abbrev pub Lawful : (Chain → Bool) → Type 0
Lawful acts = (c d : Chain) → unnumbered (alone c) ≡ unnumbered (alone d) → acts c ≡ acts d

-- the plain judge: what acts by itself
abbrev pub acts_itself : (unresolved : ℕ) → Head → Bool
acts_itself unresolved h =
    member h.kind (class_expression ∷ call_expression ∷ delete_expression ∷ assignment ∷ [])
    || (h is plain_expression && flagged h)
    || (h is identifier && h.mark == unresolved)

-- what acts if a child does
abbrev pub acts_by_child : Head → Bool
acts_by_child h = h is plain_expression || h is object

-- some record of a chain acts
abbrev pub some_acts : (unresolved : ℕ) → Chain → Bool
some_acts unresolved end = false
some_acts unresolved (link h children rest) =
    acts_itself unresolved h || (acts_by_child h && some_acts unresolved children) || some_acts unresolved rest

-- the plain judge, given the mark of unresolved names
abbrev pub plain : (unresolved : ℕ) → Chain → Bool
plain unresolved c = some_acts unresolved (alone c)

-- the cautious judge: all acts but a Literal, a Function expression and an Arrow
abbrev pub cautious : Chain → Bool
cautious end = false
cautious (link h children rest) = not (member h.kind (literal ∷ function_expression ∷ arrow ∷ []))
