-- A name's row read in the words of names is the row that the book looks at.
--
--   row_read      for words that hold rows
--   by_held       so a removal by the words is a removal by the rows that they hold
use Rattle.std.proofs.Common.{◌≡◌, ℕ, Bool, true, false, not, eqb, List, Some, None, sym, ap, ◌∙◌, ⊎_elim}
use Rattle.std.proofs.lemmas.Bool.{cond-true, cond-false, cases_Bool}
use Rattle.rules.specs.Tree.{Name}
use Rattle.rules.specs.Tables.{NameRow, some_row, look, row_of, bit, row_number, names_width, read_declared}
use Rattle.rules.specs.Removal.{Config, going_by}
use Rattle.rules.proofs.SameNames.{look_name, look_none}
use Rattle.tables.specs.Living.{rows, first_row}
use Rattle.tables.specs.Matching.{NamesHeld, id_keyed, numbered, Present}
use Rattle.tables.proofs.Matched.{names_found, names_numbered, names_read, names_change}
use Rattle.verdicts.specs.Grounds.{row_at, row_in_words, by_words}

-- a flag read from its word
flag_back : (b : Bool) (w : ℕ) → w ≡ bit b → not (eqb w 0) ≡ b
flag_back true w e = ap (λ (x : ℕ). not (eqb x 0)) e
flag_back false w e = ap (λ (x : ℕ). not (eqb x 0)) e

-- rows with equal parts are equal
same_row : (n m : Name) (u v a b : ℕ) (e f k l : Bool) → n ≡ m → u ≡ v → a ≡ b → e ≡ f → k ≡ l →
    ◌≡◌ {A = NameRow} (record { name = n; usage = u; assign = a; entry = e; counted = k }) (record { name = m; usage = v; assign = b; entry = f; counted = l })
same_row n m u v a b e f k l p q r s t = λ i. record { name = p i; usage = q i; assign = r i; entry = s i; counted = t i }

module _ (found : List ℕ) (rs : List NameRow) (words : List ℕ) (held : NamesHeld found rs words) (n : Name) where
  found_at : first_row (id_keyed (record { symbol = n.symbol; mark = n.mark })) (rows names_width words) ≡ numbered n rs
  found_at = names_found found rs words (record { symbol = n.symbol; mark = n.mark }) held

  present : Present rs n → row_at words n (Some (row_number n rs)) ≡ look n rs
  present p =
      let r : NameRow = look n rs in
      let at = names_read found rs words (row_number n rs) r held (names_change rs n (λ q. q) p).0 ((names_numbered rs n).1 p) in
      same_row n r.name _ r.usage _ r.assign _ r.entry _ r.counted
      (sym (look_name n rs)) at.1 at.2 (flag_back r.entry _ at.3) (flag_back r.counted _ at.4)

  pub row_read : row_in_words words n ≡ look n rs
  row_read =
      ap (row_at words n) found_at
      ∙ ⊎_elim
      (λ (e : some_row (row_of n) rs ≡ true).
      ap (row_at words n) (cond-true (some_row (row_of n) rs) (Some (row_number n rs)) None e) ∙ present e)
      (λ (e : some_row (row_of n) rs ≡ false).
      ap (row_at words n) (cond-false (some_row (row_of n) rs) (Some (row_number n rs)) None e) ∙ sym (look_none n rs e))
      (cases_Bool (some_row (row_of n) rs))

pub by_held : (k : Config) (declared names found : List ℕ) (rs : List NameRow) → NamesHeld found rs names →
    by_words k declared names ≡ going_by k (read_declared declared) rs
by_held k declared names found rs held = λ i. record {
  config = k;
  row = λ n. row_read found rs names held n i;
  declares = (by_words k declared names).declares;
}
