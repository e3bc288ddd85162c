-- The turns of the loop along a chain whose records stay or give way, and what they do for `sweep` and for `gather`.
use Rattle.std.specs.Borrow.{Bor}
use Rattle.std.specs.Prelude.{Option, Some, None}
use Rattle.std.proofs.Common.{◌≡◌, ℕ, ◌<◌, false, List, length, get_or, sym, ap, ◌∙◌, subst}
use Rattle.rules.specs.Tree.{Head, Chain, is_end}
use Rattle.rules.specs.Tree.Chain.{end, link}
use Rattle.edit.specs.Slots.{next_slot, Linked, onto, Lift, Step, Heir, Thins}
use Rattle.edit.proofs.Frames.{other_goes_on}
use Rattle.edit.proofs.Moves.{Going, to_go, turn, same, number_at}

-- a loop that does F, at a slot
abbrev pub At : (F : Chain → Chain) (w0 : List ℕ) (i0 : ℕ) (c : Chain) (w : List ℕ) (i : ℕ) → Type 0
At F w0 i0 c w i = (todo : Chain) × Going F w0 i0 c w i todo

-- and after a turn, which has less to go
abbrev pub Turned : (F : Chain → Chain) (w0 : List ℕ) (i0 : ℕ) (c : Chain) (w : List ℕ) (i : ℕ) (v : List ℕ) (j : ℕ) → Type 0
Turned F w0 i0 c w i v j = At F w0 i0 c v j × (to_go v j < to_go w i)

-- a turn by a step, for a function that leaves p of the first record
pub stepped : (F : Chain → Chain) (w0 : List ℕ) (i0 : ℕ) (c : Chain) (w v : List ℕ) (i r : ℕ) (h : Head) (ch rest p : Chain) →
    F (link h ch rest) ≡ onto p (F rest) → Step w v i (link h ch rest) p r → Going F w0 i0 c w i (link h ch rest) → Turned F w0 i0 c w i v r
stepped F w0 i0 c w v i r h ch rest p how st going =
    let q = turn F w0 i0 c w v i h ch rest p how st.made going in
    subst (λ (j : ℕ). Turned F w0 i0 c w i v j) (sym st.next) ((rest, q.0), q.1)

-- the slot links to a record
pub some_at : (w : List ℕ) (i : ℕ) (c : Chain) → (get_or w i 0 ≡ 0 → ⊥) → Linked w i c → is_end c ≡ false
some_at w i c ne at = other_goes_on w (get_or w i 0) c at.holds ne

-- a loop whose answers are these, at a slot: it does what each `left` that they leave says, of each chain at the first slot
abbrev pub Thinning : (answers : Bor (List ℕ) → ℕ → Option ℕ → Type 0) (w0 : List ℕ) (i0 : ℕ) (w : List ℕ) (i : ℕ) → Type 0
Thinning answers w0 i0 w i = (i < length w) × ((left : Chain → Chain) → Thins answers left → (c : Chain) → Linked w0 i0 c → At left w0 i0 c w i)

-- a turn of it: the record at the slot gives way, or stays
module _ {answers : Bor (List ℕ) → ℕ → Option ℕ → Type 0} {w0 : List ℕ} {i0 : ℕ} (some : (left : Chain → Chain) × Thins answers left) (first : (c : Chain) × Linked w0 i0 c)
    (w : Bor (List ℕ)) (i : ℕ) (ne : get_or w.now i 0 ≡ 0 → ⊥) (loop : Thinning answers w0 i0 w.now i) where
  heir : (left : Chain → Chain) → Thins answers left → (todo : Chain) {r : Option ℕ} → Linked w.now i todo → answers w (get_or w.now i 0) r → Heir left w.now todo r
  heir left rule todo at a = rule.each w (get_or w.now i 0) _ a todo at.holds at.apart (some_at w.now i todo ne at)

  lift : {v : ℕ} (left : Chain → Chain) (todo : Chain) → Linked w.now i todo → (e : Heir left w.now todo (Some v)) → Lift w.now i v todo e.0
  lift left todo at e = record { at = at; some = some_at w.now i todo ne at; holds = e.1; part = e.2 }

  pub may_lift : {v : ℕ} → answers w (get_or w.now i 0) (Some v) → (d : Chain) × (p : Chain) × Lift w.now i v d p
  may_lift a =
      let s = loop.1 some.0 some.1 first.0 first.1 in
      let e = heir some.0 some.1 s.0 s.1.at a in
      (s.0, e.0, lift some.0 s.0 s.1.at e)

  -- a turn for each that goes for one
  each : {u : List ℕ} {r : ℕ} → ((left : Chain → Chain) → Thins answers left → (c : Chain) → Linked w0 i0 c → Turned left w0 i0 c w.now i u r) →
      Thinning answers w0 i0 u r × (to_go u r < to_go w.now i)
  each one =
      let t = one some.0 some.1 first.0 first.1 in
      ((t.0.1.at.room, λ left rule c at. (one left rule c at).0), t.1)

  pub lifted : {u : List ℕ} {v r : ℕ} → answers w (get_or w.now i 0) (Some v) → ((d p : Chain) → Lift w.now i v d p → Step w.now u i d p r) →
      Thinning answers w0 i0 u r × (to_go u r < to_go w.now i)
  lifted {u} {v} {r} a does = each (λ left rule c at. here left rule c (loop.1 left rule c at))
    where
      here : (left : Chain → Chain) → Thins answers left → (c : Chain) → At left w0 i0 c w.now i → Turned left w0 i0 c w.now i u r
      here left rule c (end, going) = absurd (ne going.at.holds)
      here left rule c (link h ch rest, going) =
          let e = heir left rule (link h ch rest) going.at a in
          stepped left w0 i0 c w.now u i r h ch rest e.0 e.3 (does (link h ch rest) e.0 (lift left (link h ch rest) going.at e)) going

  pub stayed : {r : ℕ} → answers w (get_or w.now i 0) None → r ≡ next_slot (get_or w.now i 0) → Thinning answers w0 i0 w.now r × (to_go w.now r < to_go w.now i)
  stayed {r} a er = each (λ left rule c at. here left rule c (loop.1 left rule c at))
    where
      here : (left : Chain → Chain) → Thins answers left → (c : Chain) → At left w0 i0 c w.now i → Turned left w0 i0 c w.now i w.now r
      here left rule c (end, going) = absurd (ne going.at.holds)
      here left rule c (link h ch rest, going) =
          stepped left w0 i0 c w.now w.now i r h ch rest (link h ch end) (heir left rule (link h ch rest) going.at a)
          (record { made = same w.now i (link h ch rest) going.at; next = er ∙ ap next_slot (sym (number_at w.now i h ch rest going.at)) })
          going
