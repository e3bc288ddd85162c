-- A turn of `treat` and its loop. A record is treated in two steps: first its children, which leaves it halfway, then the record itself.
-- A record with a list is treated in one: its children are treated and swept.
--
--   asked_at                     the chain at a slot may be read
--   list_sweeps                  the verdict on a record with a list
--   done_left, done_changed      what the book leaves of a record without a list is what the verdict leaves
--   here_onto                    what is left of a record stands before what is left of the rest
--   down, has_children           the children; whether there are any
--   half_asked, half_record      the record with its children treated
--   passed, listed, moved        a record that the rules do not enter; one with a list; another
--   Ongoing, Walking             the loop, of a chain, and of each that the first slot may link to
--   some_record, turned          a turn
--   closed                       the end
use Rattle.std.proofs.Common.{◌≡◌, ℕ, ◌-◌, ◌<◌, ◌≤◌, Bool, true, false, not, ◌||◌, ◌==◌, List, length, get_or, sym, refl, ap, ◌∙◌, subst, arith}
use Rattle.std.proofs.Math.Bool.{or_assoc, or-false, or-true}
use Rattle.std.proofs.lemmas.Bool.{both_ways, eq-eqb, ne_eqb}
use Rattle.rules.specs.Tree.{Head, Chain, is_end, below, after, alone, append}
use Rattle.rules.specs.Tree.Chain.{end, link}
use Rattle.rules.specs.Words.{tree_of, Whole}
use Rattle.rules.specs.Opening.{depth}
use Rattle.rules.specs.Removal.{By, Place, Left, has_list, entered, place_inside, swept, wrapped_object, verdict, done, treated, treat}
use Rattle.rules.specs.Removal as book
use Rattle.rules.specs.Removal.Verdict.{stays, sweeps, empties, unlinks, restates, yields, unwraps}
use Rattle.rules.proofs.Reading.{read_back}
use Rattle.laws.proofs.Verdicts.{Means, means, by_list}
use Rattle.edit.specs.Slots.{first_slot, next_slot, slot_after, Linked, Made, onto, Step}
use Rattle.edit.proofs.Moves.{Going, to_go, turn, again, then, same, number_at, positive_at, child_by, beneath_by, ended}
use Rattle.records.specs.Chains.{as_chain}
use Rattle.records.specs.declared.children.Children.{Children}
use Rattle.shaker.specs.Verdicts.{verdict_of, left_of, removes}
use Rattle.shaker.specs.Treating.{listed_first, entered_first, place_below, choice, Nested}
use Rattle.shaker.specs.declared.perform.Verdict.{Verdict}
use Rattle.shaker.proofs.Deeps.{treat_deep}
use Rattle.removal.specs.Turns.{here, Treats}

read_at : (w : List ℕ) (i d : ℕ) (c : Chain) → Nested w i d c → tree_of w (get_or w i 0) ≡ c
read_at w i d c nested = (read_back w (get_or w i 0) c nested.at.holds nested.at.apart).0

pub asked_at : (w : List ℕ) (i d : ℕ) (c : Chain) → Nested w i d c → Whole w (get_or w i 0) × (depth (tree_of w (get_or w i 0)) ≤ d)
asked_at w i d c nested = (
  (read_back w (get_or w i 0) c nested.at.holds nested.at.apart).1,
  subst (λ (k : Chain). depth k ≤ d) (sym (read_at w i d c nested)) nested.deep,
)

-- children made of the link there are that chain
chain_at : (w : List ℕ) (i d : ℕ) (c : Chain) (k : Children) → k.words.now ≡ w → k.at ≡ get_or w i 0 → Nested w i d c → as_chain k ≡ c
chain_at w i d c k ew en nested = (λ j. tree_of (ew j) (en j)) ∙ read_at w i d c nested

-- a slot is 0 where its chain has no record
links_nothing : (w : List ℕ) (i d : ℕ) (c : Chain) → Nested w i d c → (get_or w i 0 == 0) ≡ is_end c
links_nothing w i d end nested = eq-eqb (get_or w i 0) 0 nested.at.holds
links_nothing w i d (link h ch rest) nested =
    let some = positive_at w i h ch rest nested.at in
    ne_eqb (get_or w i 0) 0 (λ none. absurd (omega (arith, some)))

-- what the book leaves of a chain
abbrev pub treats : By → Place → Chain → Chain
treats by p c = (treat by p c).chain

module _ (by : By) (p : Place) (h : Head) (found : Chain) where
  pub list_sweeps : (children : Chain) → has_list h ≡ true → verdict by p h found children ≡ sweeps
  list_sweeps children is = by_list (λ (g : Head). verdict by p g found children ≡ sweeps) h is refl refl refl

  done_left : (v : book.Verdict) (inner : Left) → has_list h ≡ false → Means by p h found inner.chain v →
      (done v h inner).chain ≡ alone (left_of (verdict_of v) h inner.chain)
  done_left stays inner none told = refl
  done_left sweeps inner none told = absurd (both_ways (has_list h) none told)
  done_left (empties names) inner none told = refl
  done_left (unlinks name) inner none told = refl
  done_left restates inner none told = refl
  done_left (yields name) inner none told = refl
  done_left unwraps inner none told = refl

done_changed : (v : book.Verdict) (h : Head) (inner : Left) → (done v h inner).changed ≡ (inner.changed || removes (verdict_of v))
done_changed stays h inner = sym (or-false inner.changed)
done_changed sweeps h inner = sym (or-false inner.changed)
done_changed (empties names) h inner = sym (or-true inner.changed)
done_changed (unlinks name) h inner = sym (or-true inner.changed)
done_changed restates h inner = sym (or-true inner.changed)
done_changed (yields name) h inner = sym (or-true inner.changed)
done_changed unwraps h inner = sym (or-true inner.changed)

alone_twice : (c : Chain) → alone (alone c) ≡ alone c
alone_twice end = refl
alone_twice (link h ch rest) = refl

done_alone : (v : book.Verdict) (h : Head) (inner : Left) → alone (done v h inner).chain ≡ (done v h inner).chain
done_alone stays h inner = refl
done_alone sweeps h inner = refl
done_alone (empties names) h inner = refl
done_alone (unlinks name) h inner = refl
done_alone restates h inner = refl
done_alone (yields name) h inner = alone_twice (after inner.chain)
done_alone unwraps h inner = alone_twice (wrapped_object inner.chain)

slot_alone : (i : ℕ) (c : Chain) → slot_after i (alone c) ≡ slot_after i c
slot_alone i end = refl
slot_alone i (link h ch rest) = refl

module _ (by : By) (p : Place) (h : Head) (ch rest : Chain) where
  alone_treated : (b : Bool) (inner : Left) → alone (treated b by p h ch inner).chain ≡ (treated b by p h ch inner).chain
  alone_treated true inner = done_alone (verdict by p h ch inner.chain) h inner
  alone_treated false inner = refl

  -- so the book puts what it leaves of the record onto what it leaves of the rest
  here_onto : treats by p (link h ch rest) ≡ onto (here by p h ch rest).chain (treats by p rest)
  here_onto = ap (λ (c : Chain). append c (treats by p rest)) (sym (alone_treated (entered p h ch (is_end rest)) (treat by (place_inside p h) ch)))

  -- the record with its children treated
  abbrev halfway : Chain
  halfway = link h (treats by (place_inside p h) ch) rest

  module _ (w : List ℕ) (i d : ℕ) (nested : Nested w i d (link h ch rest)) where
    -- what the call for the children requires
    pub down : (s : ℕ) → s ≡ first_slot (get_or w i 0) → Nested w s (d - 1) ch
    down s e = record { at = child_by w i h ch rest nested.at s e; deep = omega (arith, nested.deep) }

    -- the chain that is read there
    module _ (k : Children) (kw : k.words.now ≡ w) (kn : k.at ≡ get_or w i 0) where
      is : as_chain k ≡ link h ch rest
      is = chain_at w i d (link h ch rest) k kw kn nested

      -- it has children where their slot links to a record
      pub has_children : (s : ℕ) → s ≡ first_slot (get_or w i 0) → not (get_or w s 0 == 0) ≡ not (is_end (below (as_chain k)))
      has_children s es = ap not (links_nothing w s (d - 1) ch (down s es) ∙ ap (λ (c : Chain). is_end (below c)) (sym is))

      -- a record that is not entered
      pub passed : (r : ℕ) → r ≡ next_slot (get_or w i 0) → false ≡ entered_first p (as_chain k) → Treats by p w w i h ch rest r false
      passed r er out =
          let e : here by p h ch rest ≡ treated false by p h ch (treat by (place_inside p h) ch)
          = ap (λ (b : Bool). treated b by p h ch (treat by (place_inside p h) ch)) (sym (out ∙ ap (entered_first p) is)) in
          let step : Step w w i (link h ch rest) (link h ch end) r
          = record { made = same w i (link h ch rest) nested.at; next = er ∙ ap next_slot (sym (number_at w i h ch rest nested.at)) } in
          record { step = subst (λ (x : Left). Step w w i (link h ch rest) x.chain r) (sym e) step; flag = ap (λ (x : Left). x.changed) (sym e) }

      -- a record with a list, which is entered
      pub listed : (w2 : List ℕ) (s : ℕ) (z : Place) (b : Bool) (r : ℕ) → s ≡ first_slot (get_or w i 0) → z ≡ place_below p (as_chain k) → r ≡ next_slot (get_or w i 0) →
          true ≡ entered_first p (as_chain k) → true ≡ listed_first (as_chain k) →
          ((c : Chain) → Nested w s (d - 1) c → Made w w2 s c (swept (treats by z c))) → ((c : Chain) → Nested w s (d - 1) c → b ≡ (treat by z c).changed) →
          Treats by p w w2 i h ch rest r b
      listed w2 s z b r es ez er into has made changed =
          let inner : Left = treat by (place_inside p h) ch in
          let inside : z ≡ place_inside p h = ez ∙ ap (place_below p) is in
          let e : here by p h ch rest ≡ done sweeps h inner
          = ap (λ (b : Bool). treated b by p h ch inner) (sym (into ∙ ap (entered_first p) is))
          ∙ ap (λ (v : book.Verdict). done v h inner) (list_sweeps by p h ch inner.chain (sym (has ∙ ap listed_first is))) in
          let below : Made w w2 s ch (swept inner.chain)
          = subst (λ (q : Place). Made w w2 s ch (swept (treats by q ch))) inside (made ch (down s es)) in
          let step : Step w w2 i (link h ch rest) (link h (swept inner.chain) end) r
          = record {
            made = beneath_by w w2 i s h ch rest (swept inner.chain) es nested.at below;
            next = er ∙ ap next_slot (sym (number_at w i h ch rest nested.at));
          } in
          record {
            step = subst (λ (x : Left). Step w w2 i (link h ch rest) x.chain r) (sym e) step;
            flag = changed ch (down s es) ∙ ap (λ (q : Place). (treat by q ch).changed) inside ∙ ap (λ (x : Left). x.changed) (sym e);
          }

      module _ (w1 : List ℕ) (s : ℕ) (es : s ≡ first_slot (get_or w i 0)) (z : Place) (ez : z ≡ place_below p (as_chain k)) (made : (c : Chain) → Nested w s (d - 1) c → Made w w1 s c (treats by z c)) where
        inside : z ≡ place_inside p h
        inside = ez ∙ ap (place_below p) is

        half_made : Made w w1 i (link h ch rest) halfway
        half_made = beneath_by w w1 i s h ch rest (treats by (place_inside p h) ch) es nested.at
            (subst (λ (q : Place). Made w w1 s ch (treats by q ch)) inside (made ch (down s es)))

        half : Nested w1 i d halfway
        half = record { at = again w w1 i (link h ch rest) halfway nested.at half_made; deep = omega (arith, nested.deep, treat_deep by (place_inside p h) ch) }

        -- the slot links to the same record
        half_word : get_or w1 i 0 ≡ get_or w i 0
        half_word = sym (number_at w1 i h (treats by (place_inside p h) ch) rest half.at) ∙ number_at w i h ch rest nested.at

        -- what the chain that is asked about requires, and what it is
        pub half_asked : Whole w1 (get_or w i 0) × (depth (tree_of w1 (get_or w i 0)) ≤ d)
        half_asked = subst (λ (n : ℕ). Whole w1 n × (depth (tree_of w1 n) ≤ d)) half_word (asked_at w1 i d halfway half)

        half_read : (k1 : Children) → k1.words.now ≡ w1 → k1.at ≡ get_or w i 0 → as_chain k1 ≡ halfway
        half_read k1 ew en = chain_at w1 i d halfway k1 ew (en ∙ sym half_word) half

        -- what `perform` requires
        pub half_record : (h : Head) × (ch : Chain) × (rest : Chain) × Linked w1 i (link h ch rest)
        half_record = (h, treats by (place_inside p h) ch, rest, half.at)

        -- a record without a list, which is entered
        pub moved : (w2 : List ℕ) (a b had : Bool) (what : Verdict) (r : ℕ) (k1 : Children) → k1.words.now ≡ w1 → k1.at ≡ get_or w i 0 →
            true ≡ entered_first p (as_chain k) → false ≡ listed_first (as_chain k) → ((c : Chain) → Nested w s (d - 1) c → a ≡ (treat by z c).changed) → had ≡ not (is_end (below (as_chain k))) →
            ((found : Chain) → had ≡ not (is_end found) → what ≡ choice by p found (as_chain k1)) →
            ((h : Head) (ch rest : Chain) → Linked w1 i (link h ch rest) → Step w1 w2 i (link h ch rest) (left_of what h ch) r) →
            b ≡ (a || removes what) → Treats by p w w2 i h ch rest r b
        moved w2 a b had what r k1 ew en into none changed eh asked does eb =
            let inner : Left = treat by (place_inside p h) ch in
            let v : book.Verdict = verdict by p h ch inner.chain in
            let e : here by p h ch rest ≡ done v h inner
            = ap (λ (b : Bool). treated b by p h ch inner) (sym (into ∙ ap (entered_first p) is)) in
            let ew : what ≡ verdict_of v
            = asked ch (eh ∙ ap (λ (c : Chain). not (is_end (below c))) is) ∙ ap (choice by p ch) (half_read k1 ew en) in
            let ea : a ≡ inner.changed = changed ch (down s es) ∙ ap (λ (q : Place). (treat by q ch).changed) inside in
            let st : Step w1 w2 i halfway (left_of what h inner.chain) r = does h inner.chain rest half.at in
            let left : (here by p h ch rest).chain ≡ alone (left_of what h inner.chain)
            = ap (λ (x : Left). x.chain) e ∙ done_left by p h ch v inner (sym (none ∙ ap listed_first is)) (means by p h ch inner.chain) ∙ ap (λ (y : Verdict). alone (left_of y h inner.chain)) (sym ew) in
            let step : Step w w2 i (link h ch rest) (alone (left_of what h inner.chain)) r
            = record {
              made = subst (λ (c : Chain). Made w w2 i (link h ch rest) (append c rest)) (sym (alone_twice (left_of what h inner.chain)))
                  (then w w1 w2 i (link h ch rest) halfway (onto (left_of what h inner.chain) rest) half_made st.made);
              next = st.next ∙ sym (slot_alone i (left_of what h inner.chain));
            } in
            record {
              step = subst (λ (c : Chain). Step w w2 i (link h ch rest) c r) (sym left) step;
              flag = eb ∙ ap (λ (x : Bool). x || removes what) ea ∙ ap (λ (y : Verdict). inner.changed || removes y) ew
                  ∙ sym (done_changed v h inner) ∙ ap (λ (x : Left). x.changed) (sym e);
            }

-- the loop: what is left to go decides what the whole comes to, and whether something is removed
pub record Ongoing (by : By) (p : Place) (w0 : List ℕ) (i0 : ℕ) (c : Chain) (w : List ℕ) (i d : ℕ) (g : Bool) (todo : Chain) : Type 0 where
  pub going : Going (treats by p) w0 i0 c w i todo
  pub deep : depth todo ≤ d
  pub flag : (g || (treat by p todo).changed) ≡ (treat by p c).changed

-- the same of each chain that the first slot may link to
abbrev pub Walking : (by : By) (p : Place) (w0 : List ℕ) (i0 : ℕ) (w : List ℕ) (i d : ℕ) (g : Bool) → Type 0
Walking by p w0 i0 w i d g = (i < length w) × ((c : Chain) → Nested w0 i0 d c → (todo : Chain) × Ongoing by p w0 i0 c w i d g todo)

module _ (by : By) (p : Place) (w0 : List ℕ) (i0 d : ℕ) (first : (c : Chain) × Nested w0 i0 d c) (w : List ℕ) (i : ℕ) (g : Bool) (walk : Walking by p w0 i0 w i d g) (ne : get_or w i 0 ≡ 0 → ⊥) where
  nested_at : (c todo : Chain) → Ongoing by p w0 i0 c w i d g todo → Nested w i d todo
  nested_at c todo go = record { at = go.going.at; deep = go.deep }

  -- what a turn requires
  record_at : (c todo : Chain) → Ongoing by p w0 i0 c w i d g todo → (h : Head) × (ch : Chain) × (rest : Chain) × Nested w i d (link h ch rest)
  record_at c end go = absurd (ne go.going.at.holds)
  record_at c (link h ch rest) go = (h, ch, rest, nested_at c (link h ch rest) go)

  pub some_record : (h : Head) × (ch : Chain) × (rest : Chain) × Nested w i d (link h ch rest)
  some_record = let go = walk.1 first.0 first.1 in record_at first.0 go.0 go.1

  -- a turn, which leaves less to go
  module _ (v : List ℕ) (r : ℕ) (a : Bool) (does : (h : Head) (ch rest : Chain) → Nested w i d (link h ch rest) → Treats by p w v i h ch rest r a) where
    turn_at : (c todo : Chain) → Ongoing by p w0 i0 c w i d g todo → ((todo : Chain) × Ongoing by p w0 i0 c v r d (g || a) todo) × (to_go v r < to_go w i)
    turn_at c end go = absurd (ne go.going.at.holds)
    turn_at c (link h ch rest) go =
        let t = does h ch rest (nested_at c (link h ch rest) go) in
        let x = turn (treats by p) w0 i0 c w v i h ch rest (here by p h ch rest).chain (here_onto by p h ch rest) t.step.made go.going in
        let flag : ((g || a) || (treat by p rest).changed) ≡ (treat by p c).changed
        = or_assoc g a (treat by p rest).changed ∙ ap (λ (b : Bool). g || (b || (treat by p rest).changed)) t.flag ∙ go.flag in
        subst (λ (j : ℕ). ((todo : Chain) × Ongoing by p w0 i0 c v j d (g || a) todo) × (to_go v j < to_go w i)) (sym t.step.next)
        ((rest, record { going = x.0; deep = omega (arith, go.deep); flag = flag }), x.1)

    turned_at : (c : Chain) → Nested w0 i0 d c → ((todo : Chain) × Ongoing by p w0 i0 c v r d (g || a) todo) × (to_go v r < to_go w i)
    turned_at c nested = let go = walk.1 c nested in turn_at c go.0 go.1

    pub turned : Walking by p w0 i0 v r d (g || a) × (to_go v r < to_go w i)
    turned = let t = turned_at first.0 first.1 in ((t.0.1.going.at.room, λ c nested. (turned_at c nested).0), t.1)

module _ (by : By) (p : Place) (w0 : List ℕ) (i0 d : ℕ) (w : List ℕ) (i : ℕ) (g : Bool) (walk : Walking by p w0 i0 w i d g) (e : get_or w i 0 ≡ 0) where
  close_at : (c todo : Chain) → Ongoing by p w0 i0 c w i d g todo → Made w0 w i0 c (treats by p c) × (g ≡ (treat by p c).changed)
  close_at c end go = (ended (treats by p) refl w0 i0 c w i e end go.going, sym (or-false g) ∙ go.flag)
  close_at c (link h ch rest) go = absurd (omega (arith, positive_at w i h ch rest go.going.at))

  pub closed : (c : Chain) → Nested w0 i0 d c → Made w0 w i0 c (treats by p c) × (g ≡ (treat by p c).changed)
  closed c nested = let go = walk.1 c nested in close_at c go.0 go.1
