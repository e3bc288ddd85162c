-- The refusals of the check and of the tables have numbers from 1: none is told as 0. Each refusal is one of the named ones, and what is
-- done one after another refuses as its parts do.
--
--   Numbered                               a result, or a refusal with such a number
--   numbered_check, numbered_tables        the check; the tables
use Rattle.std.specs.Prelude.{if◌then◌else◌}
use Rattle.std.proofs.Common.{ℕ, zero, suc, ◌≤◌, Bool, not, ◌||◌, eqb, ltb, List, [], ◌∷◌, length, arith}
use Rattle.std.proofs.lemmas.Bool.{cond_both}
use Rattle.rules.specs.Tree.{Head, Chain, Name, name_of}
use Rattle.rules.specs.Kinds.{member}
use Rattle.rules.specs.Grammar.{words_fit, Way, children_of, step, misplaced, may_end, root}
use Rattle.rules.specs.Refusals.{Outcome, and_then, bad_link, too_deep, bad_record, declared_full, names_full, edges_full}
use Rattle.rules.specs.Refusals.Outcome.{fine, refused}
use Rattle.rules.specs.Words.{first_child, next, head_at, records}
use Rattle.rules.specs.Check.{most_nesting, tree_fits, take, stop, walk, check}
use Rattle.rules.specs.Names.{same, declared}
use Rattle.rules.specs.Counting.{Event, events_of}
use Rattle.rules.specs.Tables.{EdgeRow, Counts, no_rows, Room, some_row, need, declare, fresh, row_of, edge_of, need_name, need_edge, grow_edge, hold, enter, fill}
use Rattle.rules.specs.Calls.{fill_declared, fill_tables}
use Rattle.laws.proofs.Basics.{elim_both}

-- a result, or a refusal with a number from 1
abbrev pub Numbered : {A : Type 0} → Outcome A → Type 0
Numbered (fine a) = Unit {0}
Numbered (refused number at) = 1 ≤ number

numbered_then : {A B : Type 0} (o : Outcome A) (f : A → Outcome B) → Numbered o → ((a : A) → Numbered (f a)) → Numbered (and_then o f)
numbered_then (fine a) f n g = g a
numbered_then (refused number at) f n g = n

numbered_if : {A : Type 0} (b : Bool) (o p : Outcome A) → Numbered o → Numbered p → Numbered (if b then o else p)
numbered_if b o p n m = cond_both b o p Numbered (λ _. n) (λ _. m)

-- THE CHECK

numbered_take : (words : List ℕ) (n nesting : ℕ) (ways : List Way) (before : List ℕ) → Numbered (take words n nesting ways before)
numbered_take words n nesting ways before =
    let h = head_at words n in
    let onward = step h.kind ways in
    numbered_if (ltb (records words) n || member n before) (refused bad_link n) _ (omega arith)
    (numbered_if (ltb most_nesting nesting) (refused too_deep n) _ (omega arith)
    (numbered_if (misplaced onward || not (words_fit h)) (refused bad_record n) (fine onward) (omega arith) tt))

numbered_stop : (ways : List Way) (parent : ℕ) (before : List ℕ) → Numbered (stop ways parent before)
numbered_stop ways parent before = numbered_if (may_end ways) _ _ tt (omega arith)

numbered_walk : (words : List ℕ) (left n nesting : ℕ) (ways : List Way) (parent : ℕ) (before : List ℕ) → Numbered (walk words left n nesting ways parent before)
numbered_walk words zero n nesting ways parent before = numbered_if (eqb n 0) _ _ (numbered_stop ways parent before) (omega arith)
numbered_walk words (suc left) n nesting ways parent before =
    elim_both Numbered (eqb n 0) (stop ways parent before) _ (λ _. numbered_stop ways parent before)
    (λ _. numbered_then (take words n nesting ways before) _ (numbered_take words n nesting ways before) (λ onward.
    numbered_then (walk words left (first_child words n) (suc nesting) (children_of (head_at words n)) n (n ∷ before)) _
    (numbered_walk words left (first_child words n) (suc nesting) (children_of (head_at words n)) n (n ∷ before)) (λ below.
    numbered_then (walk words left (next words n) nesting onward parent below.reached) _
    (numbered_walk words left (next words n) nesting onward parent below.reached) (λ rest. tt))))

pub numbered_check : (words : List ℕ) → Numbered (check words)
numbered_check words = numbered_if (tree_fits (length words)) _ _
    (numbered_if (eqb (next words 1) 0) _ _ (numbered_then (walk words (records words) 1 1 root 0 []) _ (numbered_walk words (records words) 1 1 root 0 []) (λ t. tt)) (omega arith))
    (omega arith)

-- THE TABLES

numbered_need : {Row : Type 0} (is_it : Row → Bool) (new : Row) (space full at : ℕ) (rows : List Row) → 1 ≤ full → Numbered (need is_it new space full at rows)
numbered_need is_it new space full at rows f = numbered_if (some_row is_it rows) _ _ tt (numbered_if (ltb (length rows) space) _ _ tt f)

numbered_declare : (space : ℕ) (hs : List Head) (rows : List Name) → Numbered (declare space hs rows)
numbered_declare space [] rows = tt
numbered_declare space (h ∷ hs) rows =
    numbered_then (need (same (name_of h)) (name_of h) space declared_full h.number rows) _
    (numbered_need (same (name_of h)) (name_of h) space declared_full h.number rows (omega arith)) (λ more. numbered_declare space hs more)

numbered_name : (space : Room) (at : ℕ) (n : Name) (c : Counts) → Numbered (need_name space at n c)
numbered_name space at n c =
    numbered_then (need (row_of n) (fresh n) space.names names_full at c.names) _ (numbered_need (row_of n) (fresh n) space.names names_full at c.names (omega arith)) (λ rows. tt)

numbered_edge : (space : Room) (at : ℕ) (a b : Name) (c : Counts) → Numbered (need_edge space at a b c)
numbered_edge space at a b c =
    let new : EdgeRow = record { from = a; to = b; usage = 0; assign = 0 } in
    numbered_then (need (edge_of a b) new space.edges edges_full at c.edges) _ (numbered_need (edge_of a b) new space.edges edges_full at c.edges (omega arith)) (λ rows. tt)

numbered_hold : (space : Room) (e : Event) (holders : List Name) (c : Counts) → Numbered (hold space e holders c)
numbered_hold space e [] c = tt
numbered_hold space e (m ∷ ms) c =
    numbered_then (need_name space e.at m c) _ (numbered_name space e.at m c) (λ c1.
    numbered_then (need_name space e.at e.name c1) _ (numbered_name space e.at e.name c1) (λ c2.
    numbered_then (need_edge space e.at m e.name c2) _ (numbered_edge space e.at m e.name c2) (λ c3.
    numbered_hold space e ms (grow_edge e m c3))))

numbered_enter : (space : Room) (e : Event) (c : Counts) → Numbered (enter space e c)
numbered_enter space e c =
    numbered_then (hold space e e.holders c) _ (numbered_hold space e e.holders c) (λ held.
    numbered_then (need_name space e.at e.name held) _ (numbered_name space e.at e.name held) (λ ready. tt))

numbered_fill : (space : Room) (es : List Event) (c : Counts) → Numbered (fill space es c)
numbered_fill space [] c = tt
numbered_fill space (e ∷ es) c = numbered_then (enter space e c) _ (numbered_enter space e c) (λ more. numbered_fill space es more)

numbered_declared : (space : Room) (tree : Chain) (held : List Name) → Numbered (fill_declared space tree held)
numbered_declared space tree [] = numbered_declare space.declared (declared tree) []
numbered_declared space tree (n ∷ ns) = tt

pub numbered_tables : (space : Room) (tree : Chain) (held : List Name) → Numbered (fill_tables space tree held)
numbered_tables space tree held =
    numbered_then (fill_declared space tree held) _ (numbered_declared space tree held) (λ rows.
    numbered_then (fill space (events_of tree) no_rows) _ (numbered_fill space (events_of tree) no_rows) (λ counts. tt))
