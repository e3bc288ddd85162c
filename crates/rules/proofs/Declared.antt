-- The names that the records of a chain declare: no more than it has records, and in a tree formed by the table of kinds each has a symbol.
-- That table gives each record that bears a name a symbol that is not 0; the child of an Export default declares only if it has one.
--
--   keep_length, few_declared           a record gives one name at most, and a chain no more than it has records
--   Signed, signed-++, signed_keep      records that have a symbol
--   kind_named, binds_signed            a record of a kind that bears a name; one that binds
--   declaring_signed                    those that declare
use Rattle.std.proofs.Common.{◌≡◌, ℕ, ◌+◌, ◌<◌, ◌≤◌, Bool, true, false, not, ◌&&◌, ◌||◌, eqb, List, [], ◌∷◌, ◌++◌, length, sym, refl, ◌∙◌, subst, ⊎_elim, arith, length-append}
use Rattle.std.proofs.lemmas.Bool.{cond-true, and_parts, or_cases, eqb-true, eqb-false, not-true, both_ways}
use Rattle.rules.specs.Tree.{Head, Chain, ◌is◌, reached}
use Rattle.rules.specs.Tree.Chain.{end, link}
use Rattle.rules.specs.Kinds.{member, known, definition_expression, specifier, fn_declaration, class_declaration, property_name, name_pattern}
use Rattle.rules.specs.Names.{binds, keep, Under, under, declares, declaring}
use Rattle.rules.specs.Grammar.{Way, named, name_fits, flags_fit, words_fit, children_of, step}
use Rattle.rules.specs.Held.{Formed}

-- HOW MANY

pub keep_length : (wanted : Bool) (h : Head) (hs : List Head) → length (keep wanted h hs) ≤ 1 + length hs
keep_length true h hs = omega arith
keep_length false h hs = omega arith

pub few_declared : (u : Under) (c : Chain) → length (declaring u c) ≤ reached c
few_declared u end = omega arith
few_declared u (link h children rest) =
    omega (
      arith,
      keep_length (declares u h) h (declaring (under u h) children ++ declaring u rest),
      length-append (declaring (under u h) children) (declaring u rest),
      few_declared (under u h) children,
      few_declared u rest,
    )

-- SYMBOLS

positive : (n : ℕ) → not (eqb n 0) ≡ true → 0 < n
positive n h = let q = eqb-false n 0 (not-true (eqb n 0) h) in omega arith

-- a record of a kind that bears a name has a symbol
symbol_of : (h : Head) → words_fit h ≡ true → named h.kind ≡ true → 0 < h.symbol
symbol_of h w b = positive h.symbol (sym (cond-true (named h.kind) _ _ b) ∙ (and_parts (known h.kind && flags_fit h) (name_fits h) w).1)

pub kind_named : (h : Head) (k : ℕ) → h is k ≡ true → named k ≡ true → words_fit h ≡ true → 0 < h.symbol
kind_named h k e b w = symbol_of h w (subst (λ (x : ℕ). named x ≡ true) (sym (eqb-true h.kind k e)) b)

-- each record has a symbol
abbrev pub Signed : List Head → Type 0
Signed [] = Unit {0}
Signed (h ∷ hs) = (0 < h.symbol) × Signed hs

pub signed-++ : (xs ys : List Head) → Signed xs → Signed ys → Signed (xs ++ ys)
signed-++ [] ys p q = q
signed-++ (x ∷ xs) ys p q = (p.0, signed-++ xs ys p.1 q)

pub signed_keep : (b : Bool) (h : Head) (hs : List Head) → (b ≡ true → 0 < h.symbol) → Signed hs → Signed (keep b h hs)
signed_keep true h hs f s = (f refl, s)
signed_keep false h hs f s = s

pub binds_signed : (h : Head) → words_fit h ≡ true → binds h ≡ true → 0 < h.symbol
binds_signed h w b =
    ⊎_elim (λ e. kind_named h name_pattern e refl w) (λ e. kind_named h property_name e refl w) (or_cases (h is name_pattern) (h is property_name) b)

member_named : (h : Head) (a b c : ℕ) → named a ≡ true → named b ≡ true → named c ≡ true → words_fit h ≡ true → member h.kind (a ∷ b ∷ c ∷ []) ≡ true → 0 < h.symbol
member_named h a b c na nb nc w m =
    ⊎_elim (λ e. kind_named h a e na w)
    (λ m'. ⊎_elim (λ e. kind_named h b e nb w)
    (λ m''. ⊎_elim (λ e. kind_named h c e nc w) (λ z. absurd (both_ways false refl z)) (or_cases (h is c) false m''))
    (or_cases (h is b) (h is c || false) m'))
    (or_cases (h is a) (h is b || (h is c || false)) m)

declares_signed : (u : Under) (h : Head) → words_fit h ≡ true → declares u h ≡ true → 0 < h.symbol
declares_signed u h w d =
    let listed = member h.kind (specifier ∷ fn_declaration ∷ class_declaration ∷ []) in
    let bears = not (eqb h.symbol 0) in
    ⊎_elim
    (λ d'. ⊎_elim
    (λ m. member_named h specifier fn_declaration class_declaration refl refl refl w m)
    (λ b. binds_signed h w (and_parts u.binding (binds h) b).1)
    (or_cases listed (u.binding && binds h) d'))
    (λ b. positive h.symbol (and_parts (u.default && definition_expression h.kind) bears b).1)
    (or_cases (listed || (u.binding && binds h)) (u.default && definition_expression h.kind && bears) d)

pub declaring_signed : (ways : List Way) (u : Under) (c : Chain) → Formed ways c → Signed (declaring u c)
declaring_signed ways u end f = tt
declaring_signed ways u (link h children rest) f =
    signed_keep (declares u h) h (declaring (under u h) children ++ declaring u rest) (declares_signed u h f.0)
    (signed-++ (declaring (under u h) children) (declaring u rest) (declaring_signed (children_of h) (under u h) children f.2) (declaring_signed (step h.kind ways) u rest f.3))
