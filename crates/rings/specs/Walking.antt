-- What a walk through the nodes of a label gives. Its contract cites it.
--
--   GivesNode      a step: the node of the link, and the link to the one before it
use Rattle.std.specs.Prelude.{◌≡◌, ℕ, ◌+◌, ◌<◌, length, Option, MatchOption, slice_index}
use Rattle.rings.specs.declared.members.Nodes.{Nodes}

-- the node that s has a link to, if there is one, and t has its link
pub record Steps (s : Nodes) (v : ℕ) (t : Nodes) : Type 0 where
  pub here : s.link ≡ v + 1
  pub within : v < length s.nexts.now
  pub onward : t.link ≡ slice_index s.nexts.now v
  pub nexts : t.nexts.now ≡ s.nexts.now

abbrev pub GivesNode : Nodes → Option ℕ → Nodes → Type 0
GivesNode s r t = MatchOption r (s.link ≡ 0) (λ v. Steps s v t)
