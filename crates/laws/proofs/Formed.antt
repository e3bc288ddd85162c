-- What the table of kinds tells of a chain that it forms: the ways at the chain's start say of which sort its first records are, and what
-- may follow. For a record of a known kind these ways compute, so that each line of the table is read off.
--
--   first_kind                                   the kind of a chain's first record
--   list_of, listed, list_link                   any number of a sort: the first record and the others; one more record
--   formed_one, one_link                         one of a sort, then a way: the first record and the others; such a record
--   maybe_taken, formed_maybe, formed_none       at most one of a sort; none
--   RecordFormed, FirstFormed, below_formed      a record as the table has it; the first of a chain, and of its children
--   callee_function, declarator_value, assigned_value      the children of a Function expression, a Declarator and an Assignment
use Rattle.std.proofs.Common.{◌≡◌, ℕ, Bool, true, false, ◌⊎◌, List, [], ◌∷◌, refl, subst, inl, inr, arith}
use Rattle.std.proofs.lemmas.Bool.{both_ways, eqb-true, eqb-false}
use Rattle.rules.specs.Tree.{Head, Chain, is_end, below, after}
use Rattle.rules.specs.Tree.Chain.{end, link}
use Rattle.rules.specs.Kinds.{declarator, function, function_expression, expression, pattern, only}
use Rattle.rules.specs.Grammar.{words_fit, Way, children_of, step, misplaced}
use Rattle.rules.specs.Grammar.Part.{one, maybe, many}
use Rattle.rules.specs.Held.{Formed}

-- the kind of a chain's first record
abbrev pub first_kind : Chain → ℕ
first_kind end = 0
first_kind (link h children rest) = h.kind

-- a record, by the ways on after it
step_link : (ways onward : List Way) (h : Head) (children rest : Chain) → step h.kind ways ≡ onward → misplaced onward ≡ false → words_fit h ≡ true →
    Formed (children_of h) children → Formed onward rest → Formed ways (link h children rest)
step_link ways onward h children rest e m w f r = (w, rw e m, f, rw e r)

-- any number of a sort
abbrev pub list_of : (ℕ → Bool) → List Way
list_of sort = (many sort ∷ []) ∷ []

list_step : (sort : ℕ → Bool) (k : ℕ) → sort k ≡ true → step k (list_of sort) ≡ list_of sort
list_step sort k e = rw e

list_taken : (sort : ℕ → Bool) (k : ℕ) → misplaced (step k (list_of sort)) ≡ false → sort k ≡ true
list_taken sort k e = grind arith

-- the first record is of the sort, and the others are such a chain
pub listed : (sort : ℕ → Bool) (h : Head) (children rest : Chain) → Formed (list_of sort) (link h children rest) → (sort h.kind ≡ true) × Formed (list_of sort) rest
listed sort h children rest f =
    let e = list_taken sort h.kind f.1 in
    (e, rw (list_step sort h.kind e) at f.3)

-- one more record of the sort
pub list_link : (sort : ℕ → Bool) (h : Head) (children rest : Chain) → sort h.kind ≡ true → words_fit h ≡ true → Formed (children_of h) children →
    Formed (list_of sort) rest → Formed (list_of sort) (link h children rest)
list_link sort h children rest e w f r = step_link (list_of sort) (list_of sort) h children rest (list_step sort h.kind e) refl w f r

one_taken : (sort : ℕ → Bool) (way : Way) (k : ℕ) → misplaced (step k ((one sort ∷ way) ∷ [])) ≡ false → sort k ≡ true
one_taken sort way k e = grind arith

one_step : (sort : ℕ → Bool) (way : Way) (k : ℕ) → sort k ≡ true → step k ((one sort ∷ way) ∷ []) ≡ way ∷ []
one_step sort way k e = rw e

-- the first record is of the sort, and the others go the way
pub formed_one : (sort : ℕ → Bool) (way : Way) (c : Chain) → Formed ((one sort ∷ way) ∷ []) c → (sort (first_kind c) ≡ true) × Formed (way ∷ []) (after c)
formed_one sort way end f = absurd (both_ways false refl f)
formed_one sort way (link h children rest) f =
    let e = one_taken sort way h.kind f.1 in
    (e, rw (one_step sort way h.kind e) at f.3)

-- a record of the sort, then the way
pub one_link : (sort : ℕ → Bool) (way : Way) (h : Head) (children rest : Chain) → sort h.kind ≡ true → words_fit h ≡ true → Formed (children_of h) children →
    Formed (way ∷ []) rest → Formed ((one sort ∷ way) ∷ []) (link h children rest)
one_link sort way h children rest e w f r = step_link ((one sort ∷ way) ∷ []) (way ∷ []) h children rest (one_step sort way h.kind e) refl w f r

pub maybe_taken : (sort : ℕ → Bool) (k : ℕ) → misplaced (step k ((maybe sort ∷ []) ∷ [])) ≡ false → sort k ≡ true
maybe_taken sort k e = grind arith

pub formed_maybe : (sort : ℕ → Bool) (c : Chain) → Formed ((maybe sort ∷ []) ∷ []) c → (is_end c ≡ true) ⊎ (sort (first_kind c) ≡ true)
formed_maybe sort end f = inl refl
formed_maybe sort (link h children rest) f = inr (maybe_taken sort h.kind f.1)

pub formed_none : (c : Chain) → Formed ([] ∷ []) c → is_end c ≡ true
formed_none end f = refl
formed_none (link h children rest) f = absurd (both_ways true f.1 refl)

-- a record as the table has it
pub record RecordFormed (h : Head) (children : Chain) : Type 0 where
  pub fit : words_fit h ≡ true
  pub formed : Formed (children_of h) children

-- the first record of a chain
abbrev pub FirstFormed : Chain → Type 0
FirstFormed end = Unit {0}
FirstFormed (link h children rest) = RecordFormed h children

pub first_formed : (ways : List Way) (c : Chain) → Formed ways c → FirstFormed c
first_formed ways end f = tt
first_formed ways (link h children rest) f = record { fit = f.0; formed = f.2 }

pub below_formed : (c : Chain) → FirstFormed c → FirstFormed (below c)
below_formed end w = tt
below_formed (link h children rest) w = first_formed (children_of h) children w.formed

-- the child of a Function expression
pub callee_function : (c : Chain) → FirstFormed c → first_kind c ≡ function_expression → first_kind (below c) ≡ function
callee_function end w k = absurd (eqb-false 0 function_expression refl k)
callee_function (link h children rest) w k = eqb-true (first_kind children) function (formed_one (only function) [] children (rw k at w.formed)).0

-- a Declarator's children
abbrev pub binding_ways : List Way
binding_ways = (one pattern ∷ maybe expression ∷ []) ∷ []

pub declarator_children : (d : Head) → d.kind ≡ declarator → children_of d ≡ binding_ways
declarator_children d k = rw k

-- a Declarator's value, if it has one
pub declarator_value : (d : Head) (parts : Chain) → d.kind ≡ declarator → Formed (children_of d) parts → (is_end (after parts) ≡ true) ⊎ (expression (first_kind (after parts)) ≡ true)
declarator_value d parts k f =
    formed_maybe expression (after parts) (formed_one pattern (maybe expression ∷ []) parts (subst (λ (w : List Way). Formed w parts) (declarator_children d k) f)).1

-- an Assignment's value
pub assigned_value : (sort : ℕ → Bool) (c : Chain) → Formed ((one sort ∷ one expression ∷ []) ∷ []) c → expression (first_kind (after c)) ≡ true
assigned_value sort c f = (formed_one expression [] (after c) (formed_one sort (one expression ∷ []) c f).1).0
