-- Edges that lead on: from one end to the next, and down a segment of the stack.
use Rattle.std.proofs.Common.{◌≡◌, ℕ, zero, suc, ◌+◌, ◌-◌, ◌<◌, ◌≤◌, ◌⊎◌, List, length, get_or, refl, subst, inl, inr, ⊎_elim, below_more, arith}
use Rattle.std.proofs.lemmas.Bool.{cases_eq, cases_lt}
use Rattle.graph.specs.Graphs.{source, target, Leads}
use Rattle.graph.specs.Graphs.Leads.{here, onward}
use Rattle.graph.specs.Searching.{Chained, Bordered}

pub leads_then : {es : List (ℕ × ℕ)} {a b c : ℕ} → Leads es a b → Leads es b c → Leads es a c
leads_then r here = r
leads_then r (onward q e) = onward (leads_then r q) e

pub leads_edge : (es : List (ℕ × ℕ)) (k : ℕ) → k < length es → Leads es (source es k) (target es k)
leads_edge es k h = onward here (record { at = k; within = h; leaves = refl; enters = refl })

-- borders are no more than nodes on the stack
pub depth_low : {bs : List ℕ} {top depth : ℕ} → Bordered bs top depth → depth ≤ top
depth_low {bs} {top} {depth} b = grind (arith, b.deep (depth - 1), b.within (depth - 1))

-- the borders do not pass the topmost one
pub border_top : {bs : List ℕ} {top depth : ℕ} → Bordered bs top depth → (t : ℕ) → t < depth → get_or bs t 0 ≤ get_or bs (depth - 1) 0
border_top {bs} {top} {depth} b t h = grind (arith, b.ascending t (depth - 1))

-- above the topmost border each node leads down
descend : {es : List (ℕ × ℕ)} {stack bs : List ℕ} {top depth : ℕ} → Chained es stack bs top depth → Bordered bs top depth
    → (d i : ℕ) → get_or bs (depth - 1) 0 ≤ i → i + d < top → Leads es (get_or stack (i + d) 0) (get_or stack i 0)
descend {es} {stack} c b zero i low h = subst (λ x. Leads es (get_or stack x 0) (get_or stack i 0)) (omega arith) here
descend {es} {stack} c b (suc d) i low h = leads_then
    (subst (λ x. Leads es (get_or stack x 0) (get_or stack (i + d) 0)) (omega arith)
    (c.falling (i + d) (omega arith) (λ t lt e. let m = border_top b t lt in omega arith)))
    (descend c b d i low (omega arith))

-- any two nodes above the topmost border lead to each other
pub segment_leads : {es : List (ℕ × ℕ)} {stack bs : List ℕ} {top depth : ℕ} → Chained es stack bs top depth → Bordered bs top depth
    → (i j : ℕ) → get_or bs (depth - 1) 0 ≤ j → i < top → j < top → Leads es (get_or stack i 0) (get_or stack j 0)
segment_leads {es} {stack} c b i j low hi hj = ⊎_elim
    (λ (lt : i < j). c.rising i j (omega arith) hj)
    (λ (ge : j ≤ i). subst (λ x. Leads es (get_or stack x 0) (get_or stack j 0)) (omega arith) (descend c b (i - j) j low (omega arith)))
    (cases_lt i j)

-- a number stands among the first of a list, or does not
pub find : (xs : List ℕ) (x n : ℕ) → ((t : ℕ) × (t < n) × (get_or xs t 0 ≡ x)) ⊎ ((t : ℕ) → t < n → get_or xs t 0 ≡ x → ⊥)
find xs x zero = inr (λ t h e. omega arith)
find xs x (suc n) = ⊎_elim
    (λ (e : get_or xs n 0 ≡ x). inl (n, omega arith, e))
    (λ (ne : get_or xs n 0 ≡ x → ⊥). ⊎_elim
    (λ (f : (t : ℕ) × (t < n) × (get_or xs t 0 ≡ x)). inl (f.0, omega (arith, f.1), f.2))
    (λ (off : (t : ℕ) → t < n → get_or xs t 0 ≡ x → ⊥). inr (λ t h. below_more (λ t. get_or xs t 0 ≡ x → ⊥) n off ne t (omega arith)))
    (find xs x n))
    (cases_eq (get_or xs n 0) x)
