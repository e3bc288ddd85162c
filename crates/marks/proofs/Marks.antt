-- Names marked as they come are the book's marks, entered one after another into the words of names and edges; a mark has no holder, so edges stay.
-- Where memory has room for every name that comes, marking those that were not noted is marking each once.
use Rattle.std.proofs.Common.{◌≡◌, ℕ, ◌-◌, ◌≤◌, true, false, List, [], ◌∷◌, length, Ok, Err, Result, refl, ap, ◌∙◌, ⊎_elim, arith}
use Rattle.std.proofs.lemmas.Bool.{cases_Bool, lt-ltb}
use Rattle.rules.specs.Tree.{Head, Name, name_of}
use Rattle.rules.specs.Names.{among, names_of, distinct}
use Rattle.rules.specs.Counting.{Event, marked, marks}
use Rattle.rules.specs.Refusals.{Outcome, and_then, Says}
use Rattle.rules.specs.Refusals.Outcome.{fine, refused}
use Rattle.names.specs.Sinks.{each}
use Rattle.data.specs.Events.{Tables, tables, entered}
use Rattle.data.specs.Filling.{fill_words}
use Rattle.marks.specs.Marking.{mark_name, marking, mark_each, Once, once, mark_once}

-- one mark, and then the others: as the book goes on, so does what marks
mark_first : {S : Type 0} (n : Name) (at : ℕ) (names edges : List ℕ) (es : List Event) (to : List ℕ → Outcome S) (go : S → Outcome S) (ends : S → Outcome Tables)
    → ((more : List ℕ) → fill_words es (tables more edges) ≡ and_then (and_then (to more) go) ends)
    → fill_words (marked n at ∷ es) (tables names edges) ≡ and_then (and_then (and_then (mark_name n at names) to) go) ends
unfolding entered
mark_first n at names edges es to go ends same =
    elim (mark_name n at names) as (λ (o : Outcome (List ℕ)). and_then (and_then o (λ x. fine (tables x edges))) (λ t. fill_words es t) ≡ and_then (and_then (and_then o to) go) ends) [
      | fine more ↦ same more
      | refused number at' ↦ refl
    ]

-- each name as it comes
pub each_marked : (hs : List Head) (at : ℕ) (names edges : List ℕ)
    → fill_words (marks at (names_of hs)) (tables names edges) ≡ and_then (each mark_each hs (marking names at)) (λ s. fine (tables s.names edges))
each_marked [] at names edges = refl
each_marked (h ∷ hs) at names edges =
    mark_first (name_of h) at names edges (marks at (names_of hs)) (λ more. fine (marking more at)) (λ s. each mark_each hs s) (λ s. fine (tables s.names edges)) (λ more. each_marked hs at more edges)

-- each name that was not noted
pub once_marked : (hs : List Head) (s : Once) (seen : List Name) (edges : List ℕ) → s.seen.names ≡ seen → length hs ≤ s.seen.room
    → fill_words (marks s.at (distinct seen (names_of hs))) (tables s.names edges) ≡ and_then (each mark_once hs s) (λ u. fine (tables u.names edges))
once_marked [] s seen edges noted room = refl
once_marked (h ∷ hs) s seen edges noted room =
    let n = name_of h in
    let free = lt-ltb 0 s.seen.room (omega arith) in
    let more : (names : List ℕ) → Once = λ names. once names (record { names = n ∷ seen; room = s.seen.room - 1 }) s.at in
    ⊎_elim
    (λ (b : among n seen ≡ true). simp (free, noted, b) (once_marked hs s seen edges noted (omega arith)))
    (λ (b : among n seen ≡ false). simp (free, noted, b) (mark_first n s.at s.names edges (marks s.at (distinct (n ∷ seen) (names_of hs)))
    (λ names. fine (more names)) (λ u. each mark_once hs u) (λ u. fine (tables u.names edges))
    (λ names. once_marked hs (more names) (n ∷ seen) edges refl (omega arith))))
    (cases_Bool (among n seen))

-- what the code answers, where an outcome goes on with what it comes to
pub says_on : {A B V E : Type 0} (f : A → B) (o : Outcome A) (p : Outcome B) (a : A) (number at : E → ℕ) (r : Result V E)
    → p ≡ and_then o (λ x. fine (f x)) → Says o (λ _. a) number at r → Says p (λ _. f a) number at r
says_on f o p a number at (Ok v) same said = same ∙ ap (λ q. and_then q (λ x. fine (f x))) said
says_on f o p a number at (Err e) same said = same ∙ ap (λ q. and_then q (λ x. fine (f x))) said
