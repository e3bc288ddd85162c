-- The names of a tree are counted, since it declares no more of them than it has records; so they find room.
use Rattle.std.proofs.Common.{◌≡◌, ℕ, ◌+◌, ◌<◌, ◌≤◌, List, [], ◌∷◌, ◌++◌, length, arith, length-append, append_assoc, append-nil, ap, ◌∙◌}
use Rattle.std.proofs.lemmas.Bool.{lt-ltb}
use Rattle.rules.specs.Names.{declared, under_nothing}
use Rattle.rules.proofs.Declared.{few_declared}
use Rattle.rules.specs.Tree.{Head, Chain, reached}
use Rattle.rules.specs.Refusals.Outcome.{fine, refused}
use Rattle.names.specs.Sinks.{each}
use Rattle.outline.specs.declared.declared.Named.{Named}
use Rattle.outline.specs.Outline.{counted, counts, holds, named_of, names_of, taken}

-- names that there is room for are taken
all_taken : (room : ℕ) (hs : List Head) (names : List Named) → length names + length hs ≤ room
    → each taken hs (holds room names) ≡ fine (holds room (names ++ names_of hs))
all_taken room [] names fits = simp append-nil
all_taken room (h ∷ hs) names fits =
    let less : length names < room = omega arith in
    let more = all_taken room hs (names ++ named_of h ∷ []) (omega (arith, length-append names (named_of h ∷ []))) in
    rw (lt-ltb (length names) room less) (more ∙ ap (λ ns. fine (holds room ns)) (append_assoc names (named_of h ∷ []) (names_of hs)))

-- so those of a tree are, where there is room for as many as it declares
module _ {room : ℕ} {names : List Named} {lent tree : Chain} (none : names ≡ []) (enough : length (declared tree) ≤ room) (same : lent ≡ tree) where
  taken_so : each taken (declared lent) (holds room names) ≡ fine (holds room (names_of (declared tree)))
  taken_so = rw (none, same) (all_taken room (declared tree) [] (omega (arith, enough)))

  pub enough_never_full : {number at : ℕ} → each taken (declared lent) (holds room names) ≡ refused number at → ⊥
  enough_never_full full = let so = taken_so in cc

  pub enough_found_are : {left : ℕ} {found : List Named} → each taken (declared lent) (holds room names) ≡ fine (holds left found) → found ≡ names_of (declared tree)
  enough_found_are {left} {found} is =
      let so = taken_so in
      let same_held : holds left found ≡ holds room (names_of (declared tree)) = cc in
      ap (λ s. s.names) same_held

-- as there is, where there is room for its records
module _ {room : ℕ} {names : List Named} {lent tree : Chain} (none : names ≡ []) (room_is : room ≡ reached tree) (same : lent ≡ tree) where
  records_enough : length (declared tree) ≤ room
  records_enough = omega (arith, room_is, few_declared under_nothing tree)

  pub never_full : {number at : ℕ} → each taken (declared lent) (holds room names) ≡ refused number at → ⊥
  never_full = enough_never_full none records_enough same

  pub found_are : {left : ℕ} {found : List Named} → each taken (declared lent) (holds room names) ≡ fine (holds left found) → found ≡ names_of (declared tree)
  found_are = enough_found_are none records_enough same

-- names are counted, as long as so many may come
all_counted : (most : ℕ) (hs : List Head) (n : ℕ) → n + length hs ≤ most → each counted hs (counts most n) ≡ fine (counts most (n + length hs))
all_counted most [] n fits = ap (λ k. fine (counts most k)) (omega arith)
all_counted most (h ∷ hs) n fits =
    let less : n < most = omega arith in
    let more = all_counted most hs (n + 1) (omega arith) in
    rw (lt-ltb n most less) (more ∙ ap (λ k. fine (counts most k)) (omega arith))

-- so those of a tree are, where as many may come as it has records
module _ {start most : ℕ} {lent tree : Chain} (none : start ≡ 0) (room_is : most ≡ reached tree) (same : lent ≡ tree) where
  counted_so : each counted (declared lent) (counts most start) ≡ fine (counts most (length (declared tree)))
  counted_so =
      rw (none, same) (all_counted most (declared tree) 0 (omega (arith, room_is, few_declared under_nothing tree))
      ∙ ap (λ k. fine (counts most k)) (omega arith))

  pub never_uncounted : {number at : ℕ} → each counted (declared lent) (counts most start) ≡ refused number at → ⊥
  never_uncounted full = let so = counted_so in cc

  pub counted_are : {left count : ℕ} → each counted (declared lent) (counts most start) ≡ fine (counts left count) → count ≡ length (declared tree)
  counted_are {left} {count} is =
      let so = counted_so in
      let same_held : counts left count ≡ counts most (length (declared tree)) = cc in
      ap (λ s. s.count) same_held
