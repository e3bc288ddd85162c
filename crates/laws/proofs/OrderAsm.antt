-- A tree without the string 'use asm' keeps none: that a record is no such string is a fact on every record, and removal makes no string.
-- So no list of what is left begins with it.
--
--   without_treated      what is left of a tree without the string has none
--   asm_free             a list without the string does not begin with it
use Rattle.std.proofs.Common.{◌≡◌, Bool, false, ◌&&◌, eqb, refl, arith}
use Rattle.rules.specs.Tree.{Head, Chain, ◌is◌}
use Rattle.rules.specs.Tree.Chain.{end, link}
use Rattle.rules.specs.Kinds.{literal, asm_symbol}
use Rattle.rules.specs.Removal.{By, Place, asm, treat}
use Rattle.laws.specs.Law.{WithoutAsm}
use Rattle.laws.proofs.KeepsEverywhere.{Everywhere, treat_all}

-- a string 'use asm'
abbrev asm_string : Head → Bool
asm_string h = h is literal && eqb h.symbol asm_symbol

without_everywhere : Everywhere (λ n h. asm_string h ≡ false) (λ n c. WithoutAsm c)
without_everywhere = record {
  none = λ n. tt;
  more = λ n h children rest a b c. (a, b, c);
  first = λ n h children rest l. l.0;
  inner = λ n h children rest l. l.1;
  others = λ n h children rest l. l.2;
  up = λ n c l. l;
  empty = λ n h a. refl;
  statement = λ n h a. refl;
  plain = λ n h a. refl;
}

pub without_treated : (by : By) (p : Place) (c : Chain) → WithoutAsm c → WithoutAsm (treat by p c).chain
without_treated by p c w = treat_all (λ n h. asm_string h ≡ false) (λ n c. WithoutAsm c) without_everywhere by p 0 c w

pub asm_free : (c : Chain) → WithoutAsm c → asm c ≡ false
asm_free end p = refl
asm_free (link h end rest) p = grind arith
asm_free (link h (link g ds r) rest) p = grind (arith, p.1.0)
