-- The path as a list: what stands on it between two places, and what one more name leaves.
use Rattle.std.proofs.Common.{◌≡◌, ℕ, ◌+◌, ◌-◌, ◌≤◌, List, take, drop, set, sym, ap, ◌∙◌, arith}
use Rattle.std.proofs.lemmas.List.{drop-take, take-take, take-set}
use Rattle.records.specs.declared.id.Id.{Id}

-- a part of the path, as the code takes it
pub part : (start len : ℕ) (path : List Id) → start ≤ len → take (len - start) (drop start path) ≡ drop start (take len path)
part start len path h = sym (drop-take start (len - start) path) ∙ ap (λ (k : ℕ). drop start (take k path)) (let e : start + (len - start) ≡ len = omega arith in e)

-- paths that are alike with one more name are alike without it
pub shorter : (len : ℕ) (path q : List Id) (id : Id) → take (len + 1) q ≡ take (len + 1) (set path len id) → take len q ≡ take len path
shorter len path q id e =
    sym (take-take len (len + 1) q (omega arith)) ∙ ap (take len) e ∙ take-take len (len + 1) (set path len id) (omega arith) ∙ take-set path len id
