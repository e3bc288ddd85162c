-- What surrounds a place, and what the innermost scope has noted, as the code holds them. The contracts of what counts cite it.
--
--   role_of, one, id_of_head                     the code's role, current name and key as the book's
--   Here, here, held_with, here_inside           what surrounds a place, by the names that hold a reference there
--   IsOutermost                                  what surrounds the root
--   no_notes, with_arguments, with_eval, outward      what the innermost scope has noted
use Rattle.std.specs.Prelude.{◌≡◌, Bool, true, false, ◌&&◌, ◌||◌, List, [], ◌∷◌, ◌++◌, take, drop, Some, None, Option, ◌==◌, if◌then◌else◌}
use Rattle.rules.specs.Tree.{Head, Name, ◌is◌, name_of}
use Rattle.rules.specs.Kinds.{fn_declaration, class_declaration, arrow, arguments_symbol}
use Rattle.rules.specs.Counting.{opens, role_in}
use Rattle.rules.specs.Counting as book
use Rattle.records.specs.declared.id.Id.{Id}
use Rattle.records.specs.Ids.{name_of_id}
use Rattle.analyzer.specs.declared.notes.Notes.{Notes}
use Rattle.analyzer.specs.declared.scope.Role.{Role}
use Rattle.analyzer.specs.declared.scope.Role.TheVariants.{Declared, Written, ReadAndWritten}
use Rattle.analyzer.specs.declared.scope.Scope.{Scope}

-- the role of a Name pattern
abbrev pub role_of : Role → book.Role
role_of Declared = book.declared_here
role_of Written = book.written
role_of ReadAndWritten = book.read_and_written

-- no name, or one
abbrev pub one : Option Id → List Name
one None = []
one (Some id) = name_of_id id ∷ []

-- the key of the name that a record bears
abbrev pub id_of_head : Head → Id
id_of_head h = record { symbol = h.symbol; mark = h.mark }

-- what surrounds a place: the names of the innermost function and class, those that hold a reference,
-- whether the innermost scope has put no name on the path yet, and the role of a Name pattern
pub record Here : Type 0 where
  pub cur_fn : List Name
  pub cur_class : List Name
  pub held : List Id
  pub fresh : Bool
  pub role : book.Role

-- what the code's scope says of that, beside the path
abbrev pub here : Scope → (path : List Id) → Here
here scope path = record {
  cur_fn = one scope.cur_fn_id;
  cur_class = one scope.cur_class_id;
  held = drop scope.start (take scope.len path);
  fresh = scope.fresh;
  role = role_of scope.role;
}

-- what surrounds the root
abbrev pub IsOutermost : Scope → Type 0
IsOutermost s =
    (s.start ≡ 0) × (s.len ≡ 0) × (s.fresh ≡ true) × (s.cur_fn_id ≡ None) × (s.cur_class_id ≡ None) × (s.role ≡ Written)

-- the names that hold a reference, once the innermost scope has put one more on the path
abbrev pub held_with : (fresh : Bool) → List Id → Id → List Id
held_with fresh held id = if fresh then id ∷ [] else held ++ (id ∷ [])

-- what surrounds the children of h
unfoldable pub here_inside : Here → Head → Here
here_inside a h = record {
  cur_fn = if h is fn_declaration then name_of h ∷ [] else a.cur_fn;
  cur_class = if h is class_declaration then name_of h ∷ [] else a.cur_class;
  held = if h is fn_declaration || h is class_declaration then held_with a.fresh a.held (id_of_head h) else a.held;
  fresh = if h is fn_declaration || h is class_declaration then false else if opens h then true else a.fresh;
  role = role_in a.role h;
}

-- nothing is noted
abbrev pub no_notes : Notes
no_notes = record { found_arguments = false; found_direct_eval = false }

-- a reference to the name that h bears is noted if it is `arguments`
abbrev pub with_arguments : Head → Notes → Notes
with_arguments h notes = record {
  found_arguments = notes.found_arguments || (h.symbol == arguments_symbol);
  found_direct_eval = notes.found_direct_eval;
}

-- a direct call of `eval` is noted
abbrev pub with_eval : (found : Bool) → Notes → Notes
with_eval found notes = record {
  found_arguments = notes.found_arguments;
  found_direct_eval = notes.found_direct_eval || found;
}

-- what the outer scope has noted, once the scope that h opens is left with the inner notes
abbrev pub outward : Head → (outer inner : Notes) → Notes
outward h outer inner = record {
  found_arguments = outer.found_arguments || (inner.found_arguments && h is arrow);
  found_direct_eval = outer.found_direct_eval || inner.found_direct_eval;
}
