-- Names noted in work memory. The contracts of what marks each name once cite it.
--
--   name_in, names_in      the name that a pair of words is; those of pairs
--   Noting                 the names noted so far, the last first, and for how many more there is room
--   is_new, note           a name that is to be noted; one more name
use Rattle.std.specs.Prelude.{ℕ, ◌-◌, Bool, not, ◌&&◌, List, ◌∷◌, map, nat_lt, slice_index}
use Rattle.rules.specs.Tree.{Name}
use Rattle.rules.specs.Names.{among}

-- the name that a pair of words is
abbrev pub name_in : List ℕ → Name
name_in pair = record { symbol = slice_index pair 0; mark = slice_index pair 1 }

-- those of pairs
abbrev pub names_in : List (List ℕ) → List Name
names_in pairs = map name_in pairs

-- the names noted so far, the last first, and for how many more there is room
pub record Noting : Type 0 where
  pub names : List Name
  pub room : ℕ

-- a name is not among them, and there is room for it
abbrev pub is_new : Name → Noting → Bool
is_new n s = nat_lt 0 s.room && not (among n s.names)

-- one more
abbrev pub note : Name → Noting → Noting
note n s = record { names = n ∷ s.names; room = s.room - 1 }
