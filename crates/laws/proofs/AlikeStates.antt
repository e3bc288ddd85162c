-- States that tell the same, and a pass on two of them: both complete, with equal answers, or both are refused for want of rows;
-- what they leave tells the same again.
--
--   tree, held, Even                    states that tell the same
--   handed_even, zeroed_sizes           their lengths fit, or do not; tables of zeros
--   cleared_even, full_even             after a reset; after a table was full
--   Both, Ran                           answers that tell the same; calls that go alike
--   pass_even                           a pass
use Rattle.std.proofs.Common.{◌≡◌, ℕ, ◌/◌, Bool, ◌&&◌, ◌||◌, leb, List, [], length, sym, refl, ap, ◌∙◌, subst, ap₂, subst₂}
use Rattle.std.proofs.lemmas.Bool.{true≢false, false≢true}
use Rattle.rules.specs.Tree.{Chain, Name}
use Rattle.rules.specs.Refusals.{Outcome}
use Rattle.rules.specs.Refusals.Outcome.{fine, refused}
use Rattle.rules.specs.Check.{tree_fits}
use Rattle.rules.specs.Tables.{names_width, edges_width, Room, room, names_in_words, edges_in_words, read_declared}
use Rattle.rules.specs.Rings.{discount}
use Rattle.rules.specs.Judges.{Lawful}
use Rattle.rules.specs.Removal.{Config, By, at_root, treat}
use Rattle.rules.specs.Calls.{State, most_table_words, handed_fit, zeroed, cleared, filled_up, Filled, fill_tables, Pass, pass_by, remove, After, passed, pass_filled, pass_checked, pass_once}
use Rattle.laws.specs.Law.{outcome_tree, SameLost}
use Rattle.laws.proofs.TablesRoom.{Bounded}
use Rattle.laws.proofs.TablesPass.{declared_rows, tables_of, tables_fit, fill_tables_bounded}
use Rattle.laws.proofs.UnnumberedRemoval.{blind}
use Rattle.laws.proofs.OrderCount.{counts_turned}
use Rattle.laws.proofs.OrderWords.{table_sizes, names_words_sizes, edges_words_sizes}
use Rattle.laws.proofs.OrderTwins.{Twins}
use Rattle.laws.proofs.AlikeRemoval.{LeftAlike, removed_alike, by_alike}
use Rattle.laws.proofs.AlikeFilling.{HeldAlike, rows_declared_alike, counts_sizes, fit_alike, read_after, read_full, after_sizes}

-- a state's tree
abbrev pub tree : State → Chain
tree s = outcome_tree s.tree

-- the names that its declared holds
abbrev pub held : State → List Name
held s = read_declared s.declared

-- states that tell the same: twins for trees, tables of one length, the same declared names
pub record Even (s u : State) : Type 0 where
  pub found : s.tree ≡ fine (tree s)
  pub found_too : u.tree ≡ fine (tree u)
  pub twins : Twins (tree s) (tree u)
  pub size : s.size ≡ u.size
  pub declared : length s.declared ≡ length u.declared
  pub names : length s.names ≡ length u.names
  pub edges : length s.edges ≡ length u.edges
  pub holds : HeldAlike (held s) (held u)
  pub changed : s.changed ≡ u.changed

pub handed_even : (k : Config) (s u : State) → Even s u → handed_fit k s ≡ handed_fit k u
handed_even k s u e =
    let few : ℕ → Bool = λ n. leb n most_table_words in
    ap₂ ◌&&◌ (ap tree_fits e.size) (ap₂ ◌&&◌ (ap few e.declared) (ap₂ ◌&&◌ (ap few e.names) (ap (λ (n : ℕ). few n && few (length k.retain)) e.edges)))

pub zeroed_sizes : (width : ℕ) (words words' : List ℕ) → length words ≡ length words' → length (zeroed width words) ≡ length (zeroed width words')
zeroed_sizes width words words' q = table_sizes width [] [] words words' refl q

pub cleared_even : (s u : State) → Even s u → Even (cleared s) (cleared u)
cleared_even s u e = record {
  found = e.found;
  found_too = e.found_too;
  twins = e.twins;
  size = e.size;
  declared = e.declared;
  names = zeroed_sizes names_width s.names u.names e.names;
  edges = zeroed_sizes edges_width s.edges u.edges e.edges;
  holds = e.holds;
  changed = refl;
}

full_even : (s u : State) → Even s u → Even (filled_up s) (filled_up u)
full_even s u e = record {
  found = e.found;
  found_too = e.found_too;
  twins = e.twins;
  size = e.size;
  declared = after_sizes (held s) (held u) [] [] s.declared u.declared e.holds.sizes refl e.declared;
  names = zeroed_sizes names_width s.names u.names e.names;
  edges = zeroed_sizes edges_width s.edges u.edges e.edges;
  holds = subst₂ HeldAlike (sym (read_full s.declared (held s) refl)) (sym (read_full u.declared (held u) refl)) e.holds;
  changed = e.changed;
}

-- answers that tell the same, a refusal's number and record left aside
abbrev pub Both : Outcome Bool → Outcome Bool → Type 0
Both (fine a) (fine b) = a ≡ b
Both (fine a) (refused number at) = ⊥
Both (refused number at) (fine b) = ⊥
Both (refused number at) (refused number' at') = Unit {0}

-- passes that go alike from two trees
pub record Ran (c d : Chain) (x y : After (Outcome Bool)) : Type 0 where
  pub answer : Both x.answer y.answer
  pub made : length x.made ≡ length y.made
  pub lost : SameLost c d (tree x.state) (tree y.state)
  pub even : Even x.state y.state

-- a completed pass on a state: its tree, and the tables that this fills
abbrev pass_of : State → Pass
pass_of s = record { found = tree s; filled = tables_of (tree s) (held s) }

module _ (k : Config) (lawful : Lawful k.acts) where
  left_alike : (s u : State) → Even s u → LeftAlike (tree s) (tree u) (remove k (pass_of s)) (remove k (pass_of u))
  left_alike s u e =
      let f = tables_of (tree s) (held s) in
      let g = tables_of (tree u) (held u) in
      let rows = rows_declared_alike e.twins.turned (held s) (held u) e.holds in
      subst (λ (by : By). LeftAlike (tree s) (tree u) (treat (pass_by k f) at_root (tree s)) (treat by at_root (tree u)))
      (by_alike k f g rows.names (counts_turned e.twins.turned))
      (removed_alike (pass_by k f) (blind k.acts lawful) (tree s) (tree u) e.twins)

  passed_even : (s u : State) → Even s u → Even (passed k s (pass_of s)) (passed k u (pass_of u))
  passed_even s u e =
      let l = left_alike s u e in
      let t = e.twins in
      let rows = rows_declared_alike t.turned (held s) (held u) e.holds in
      let sizes = counts_sizes t.turned in
      let c = (tables_of (tree s) (held s)).counts in
      let d = (tables_of (tree u) (held u)).counts in
      record {
        found = refl;
        found_too = refl;
        twins = l.twins;
        size = e.size;
        declared = after_sizes (held s) (held u) (declared_rows (tree s) (held s)) (declared_rows (tree u) (held u)) s.declared u.declared e.holds.sizes rows.sizes e.declared;
        names = table_sizes names_width (names_in_words (discount c)) (names_in_words (discount d)) s.names u.names (names_words_sizes c d sizes.0) e.names;
        edges = table_sizes edges_width (edges_in_words (discount c) c.edges) (edges_in_words (discount d) d.edges) s.edges u.edges (edges_words_sizes (discount c) (discount d) c.edges d.edges sizes.1) e.edges;
        holds = subst₂ HeldAlike (sym (read_after (tree s) t.one.formed s.declared (held s) refl)) (sym (read_after (tree u) t.other.formed u.declared (held u) refl)) rows;
        changed = ap₂ ◌||◌ e.changed l.changed;
      }

  -- tables that are filled, or full
  filled_even : (s u : State) → Even s u → (o o' : Outcome Filled) (b b' : Bool) → b ≡ b' → Bounded b (tables_of (tree s) (held s)) o → Bounded b' (tables_of (tree u) (held u)) o'
      → Ran (tree s) (tree u) (pass_filled k s (tree s) o) (pass_filled k u (tree u) o')
  filled_even s u e (fine f) (fine g) b b' q p p' =
      subst₂ (λ (x y : Filled). Ran (tree s) (tree u) (pass_filled k s (tree s) (fine x)) (pass_filled k u (tree u) (fine y))) (sym p.1) (sym p'.1)
      (record { answer = (passed_even s u e).changed; made = refl; lost = (left_alike s u e).lost; even = passed_even s u e })
  filled_even s u e (fine f) (refused number at) b b' q p p' = absurd (true≢false (sym p.0 ∙ (q ∙ p')))
  filled_even s u e (refused number at) (fine g) b b' q p p' = absurd (false≢true (sym p ∙ (q ∙ p'.0)))
  filled_even s u e (refused number at) (refused number' at') b b' q p p' = record { answer = tt; made = refl; lost = λ _ _ z. z; even = full_even s u e }

  pub pass_even : (s u : State) → Even s u → Ran (tree s) (tree u) (pass_once k s) (pass_once k u)
  pass_even s u e =
      let space = room s.declared s.names s.edges in
      let space' = room u.declared u.names u.edges in
      let t = e.twins.turned in
      let rooms : space ≡ space' = λ i. record { declared = e.declared i / 2; names = e.names i / 6; edges = e.edges i / 4 } in
      subst₂ (λ (x y : Outcome Chain). Ran (tree s) (tree u) (pass_checked k s x) (pass_checked k u y)) (sym e.found) (sym e.found_too)
      (filled_even s u e (fill_tables space (tree s) (held s)) (fill_tables space' (tree u) (held u)) (tables_fit space (tree s) (held s)) (tables_fit space' (tree u) (held u))
      (fit_alike space t (held s) (held u) e.holds ∙ ap (λ (r : Room). tables_fit r (tree u) (held u)) rooms)
      (fill_tables_bounded space (tree s) (held s)) (fill_tables_bounded space' (tree u) (held u)))
