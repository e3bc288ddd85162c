-- What discounting leaves are the book's rows, and an edge keeps its words.
use Rattle.std.proofs.Common.{◌≡◌, ℕ, suc, ◌/◌, ◌≤◌, true, false, List, [], ◌∷◌, length, refl, ap, sym, ◌∙◌, subst, ⊎_elim}
use Rattle.std.proofs.lemmas.Bool.{cases_Bool, cond-true, cond-false}
use Rattle.rules.specs.Tables.{NameRow, Counts, names_width, edges_width, edges_in_words, table}
use Rattle.rules.specs.Rings.{component, closed, less, discount_row, discount_rows, discount}
use Rattle.tables.specs.Held.{Proper}
use Rattle.tables.specs.Matching.{name_words, NamesHeld, Named, names_of}
use Rattle.tables.proofs.Matched.{names_words, edges_words, edges_stay}
use Rattle.laws.proofs.RingsDiscount.{name_kept}
use Rattle.laws.proofs.OrderWords.{length_discounted}
use Rattle.rings.specs.Ringed.{Ready}
use Rattle.rings.specs.Spending.{Subtracted}

discount_names : (c : Counts) (rs : List NameRow) → names_of (discount_rows c rs) ≡ names_of rs
discount_names c [] = refl
discount_names c (r ∷ rs) = ap (λ n. n ∷ names_of (discount_rows c rs)) (name_kept c r) ∙ ap (λ ns. r.name ∷ ns) (discount_names c rs)

proper_named : (rs : List NameRow) → Proper names_width name_words rs → Named (names_of rs)
proper_named [] proper = tt
proper_named (r ∷ rs) proper = (proper.1, proper_named rs proper.2)

module _ (c : Counts) (found found' names edges : List ℕ) (ready : Ready c found found' names edges) where
  -- names hold the discounted rows
  pub discounted_held : (after : List ℕ) → Subtracted names edges after → NamesHeld found (discount c) after
  discounted_held after is =
      let named = subst (λ ns. Named ns) (sym (discount_names c c.names)) (proper_named c.names ready.names_held.proper) in
      (names_words found (discount c) after).1 named (subst (λ (n : ℕ). n ≤ length found / names_width) (sym (length_discounted c c.names)) ready.names_held.room) (is c found found' ready)

  -- and the words of edges, which speak of rows by their numbers, are as the book has them beside those
  pub edges_left : edges ≡ table edges_width (edges_in_words (discount c) c.edges) found'
  edges_left =
      let stay = (edges_stay c.names [] (discount c) found' c.edges edges ready.known ready.edges_held).1 (discount_names c c.names) in
      (edges_words (discount c) found' c.edges edges).0 stay.0
