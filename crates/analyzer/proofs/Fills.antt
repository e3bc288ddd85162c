-- What filling leaves is the book's: a table with rows stays, and one without is zeroed and filled, or zeroed again if it is full.
use Rattle.std.proofs.Common.{◌≡◌, ℕ, ◌/◌, true, false, ltb, List, [], ◌∷◌, length, sym, refl, ap, ◌∙◌, subst, arith}
use Rattle.std.proofs.lemmas.Bool.{both_ways, ltb-false}
use Rattle.rules.specs.Tree.{Chain, Name}
use Rattle.rules.specs.Names.{declared}
use Rattle.rules.specs.Refusals.{Outcome}
use Rattle.rules.specs.Refusals.Outcome.{fine, refused}
use Rattle.rules.specs.Tables.{Room, declared_width, declare, declared_in_words, read_declared, table}
use Rattle.rules.specs.Calls.{zeroed, fill_declared, declared_after}
use Rattle.tables.specs.Living.{used}
use Rattle.tables.specs.Matching.{DeclaredHeld}
use Rattle.tables.proofs.Matched.{declared_words, declared_read, declared_back}
use Rattle.analyzer.specs.Declaring.{FilledDeclared, FullDeclared}
use Rattle.analyzer.proofs.Declares.{Agree}

kept : (held : List Name) (tree : Chain) (before : List ℕ) → ltb 0 (length held) ≡ true
    → ((space : Room) → fill_declared space tree held ≡ fine held) × (before ≡ declared_after held held before)
kept [] tree before some = absurd (both_ways false refl some)
kept (n ∷ ns) tree before some = (λ space. refl, refl)

-- a table with rows stays
pub rows_stay : (tree : Chain) (before : List ℕ) → ltb 0 (used declared_width before) ≡ true → FilledDeclared tree before before
rows_stay tree before some =
    let many = (declared_read before (record { symbol = 0; mark = 0 })).0 in
    let stays = kept (read_declared before) tree before (ap (λ n. ltb 0 n) (sym many) ∙ some) in
    (λ space fits. stays.0 space, stays.1)

empty : (held : List Name) → ltb 0 (length held) ≡ false → held ≡ []
empty [] none = refl
empty (n ∷ ns) none = let few = ltb-false 0 (length (n ∷ ns)) none in absurd (omega arith)

-- a table without rows reads as none
pub reads_none : (before : List ℕ) → ltb 0 (used declared_width before) ≡ false → read_declared before ≡ []
reads_none before none =
    let many = (declared_read before (record { symbol = 0; mark = 0 })).0 in
    empty (read_declared before) (ap (λ n. ltb 0 n) (sym many) ∙ none)

-- a zeroed table holds no rows
pub zeroed_holds : (before words : List ℕ) → words ≡ zeroed declared_width before → DeclaredHeld before [] words
zeroed_holds before words e = (declared_words before [] words).1 tt (omega arith) e

fine_by : (found words : List ℕ) (q : Outcome (List Name)) → Agree found (fine words) q → (names : List Name) × (q ≡ fine names) × DeclaredHeld found names words
fine_by found words (fine names) agree = (names, refl, agree)
fine_by found words (refused number at) agree = absurd agree

refused_by : (found : List ℕ) (number at : ℕ) (q : Outcome (List Name)) → Agree found (refused number at) q → q ≡ refused number at
refused_by found number at (fine names) agree = absurd agree
refused_by found number at (refused number' at') agree = ap (λ n. refused n at') (sym agree.0) ∙ ap (λ k. refused number k) (sym agree.1)

-- words that agree with the book's rows are filled
pub agreed_fills : (tree : Chain) (before words : List ℕ) (o : Outcome (List ℕ)) → read_declared before ≡ []
    → Agree before o (declare (length before / declared_width) (declared tree) []) → o ≡ fine words → FilledDeclared tree before words
agreed_fills tree before words o none agree e =
    let q = declare (length before / declared_width) (declared tree) [] in
    let by = fine_by before words q (subst (λ (p : Outcome (List ℕ)). Agree before p q) e agree) in
    let names = by.0 in
    let back = declared_back before names words by.2 in (
      λ space fits.
          ap (fill_declared space tree) none
          ∙ ap (λ n. declare n (declared tree) []) fits
          ∙ by.1
          ∙ ap fine (sym back),
      (declared_words before names words).0 by.2
          ∙ ap (λ rs. table declared_width (declared_in_words rs) before) (sym back)
          ∙ sym (ap (λ held. declared_after held (read_declared words) before) none),
    )

-- words that the book refuses are left without rows
pub agreed_full : (tree : Chain) (number at : ℕ) (before words : List ℕ) (o : Outcome (List ℕ)) → read_declared before ≡ []
    → Agree before o (declare (length before / declared_width) (declared tree) []) → o ≡ refused number at
    → words ≡ zeroed declared_width before → FullDeclared tree number at before words
agreed_full tree number at before words o none agree e zero-words =
    let q = declare (length before / declared_width) (declared tree) [] in
    let by = refused_by before number at q (subst (λ (p : Outcome (List ℕ)). Agree before p q) e agree) in (
      λ space fits.
          ap (fill_declared space tree) none ∙ ap (λ n. declare n (declared tree) []) fits ∙ by,
      zero-words ∙ sym (ap (λ held. declared_after held [] before) none),
    )
