-- What the discounts leave of a name's row: its own row, discounted where the name stands in a closed ring; of a missing row, nothing.
--
--   name_kept                   a discounted row keeps its name
--   look_discount               a name's row after the rings are discounted
--   open_row, counted_row       outside closed rings it is as counted; it is counted where it was
use Rattle.std.specs.Prelude.{if◌then◌else◌}
use Rattle.std.proofs.Common.{◌≡◌, false, List, [], ◌∷◌, refl, arith}
use Rattle.rules.specs.Tree.{Name}
use Rattle.rules.specs.Names.{same}
use Rattle.rules.specs.Tables.{NameRow, Counts, fresh, look}
use Rattle.rules.specs.Rings.{closed, discount_row, discount_rows, discount}
use Rattle.rules.proofs.SameNames.{look_name, look_none}
use Rattle.laws.proofs.TablesFilled.{some_name}

-- a discounted row keeps its name
pub name_kept : (c : Counts) (r : NameRow) → (discount_row c r).name ≡ r.name
name_kept c r = grind arith

-- a name's discounted row, if it has a row
pub look_discount : (c : Counts) (n : Name) (rs : List NameRow) → look n (discount_rows c rs) ≡ (if some_name (same n) rs then discount_row c (look n rs) else fresh n)
look_discount c n [] = refl
look_discount c n (r ∷ rs) = grind (arith, look_discount c n rs, name_kept c r)

module _ (c : Counts) (n : Name) where
  -- outside closed rings nothing is discounted
  pub open_row : closed c n ≡ false → look n (discount c) ≡ look n c.names
  open_row g = grind (arith, look_discount c n c.names, look_none n c.names, look_name n c.names)

  -- counted is what was counted
  pub counted_row : (look n (discount c)).counted ≡ (look n c.names).counted
  counted_row = grind (arith, look_discount c n c.names, look_none n c.names)
