-- The plain and the cautious judge do not look at record numbers: what they say of a chain they say of the chain without them.
use Rattle.std.specs.Prelude.{ℕ, ◌≡◌, refl, Bool, ◌&&◌, ◌||◌}
use Rattle.std.proofs.Common.{sym, ap, ap₂, ◌∙◌}
use Rattle.rules.specs.Tree.{Chain, alone, unnumbered}
use Rattle.rules.specs.Tree.Chain.{end, link}
use Rattle.rules.specs.Judges.{Lawful, plain, cautious, acts_itself, acts_by_child, some_acts}

some_acts_unnumbered : (unresolved : ℕ) (c : Chain) → some_acts unresolved (unnumbered c) ≡ some_acts unresolved c
some_acts_unnumbered unresolved end = refl
some_acts_unnumbered unresolved (link h children rest) =
    ap₂ (λ (a b : Bool). acts_itself unresolved h || (acts_by_child h && a) || b)
    (some_acts_unnumbered unresolved children) (some_acts_unnumbered unresolved rest)

pub plain_lawful : (unresolved : ℕ) → Lawful (plain unresolved)
plain_lawful unresolved c d e =
    sym (some_acts_unnumbered unresolved (alone c)) ∙ ap (some_acts unresolved) e ∙ some_acts_unnumbered unresolved (alone d)

cautious_unnumbered : (c : Chain) → cautious (unnumbered (alone c)) ≡ cautious c
cautious_unnumbered end = refl
cautious_unnumbered (link h children rest) = refl

pub cautious_lawful : Lawful cautious
cautious_lawful c d e = sym (cautious_unnumbered c) ∙ ap cautious e ∙ cautious_unnumbered d
