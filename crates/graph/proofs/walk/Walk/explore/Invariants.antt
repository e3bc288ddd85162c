use Rattle.std.proofs.Common.{◌≡◌, ℕ, ◌<◌, get_or}
use Rattle.graph.specs.Searching.{Onward}
use Rattle.graph.proofs.walk.Walk.explore.Given as goal

abbrev pub invariant-loop-root : goal.invariant-loop-root
invariant-loop-root g l = Onward l.fn.self l.self × (l.self.top ≡ 0) × ((v : ℕ) → v < l.root → 0 < get_or l.self.places v 0)
