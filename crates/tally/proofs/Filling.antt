-- One event after another, in words and in the book. An event takes from what can still be added one for each holder and one for its name,
-- and the events of a tree have together less weight than 2^32: so no count wraps, and the words hold the book's rows to the end.
--
--   hold_told, enter_told, fill_told      the holders of an event; an event; all events
--   filled_told                           the events of a tree
use Rattle.std.proofs.Common.{◌≡◌, ℕ, suc, ◌+◌, ◌/◌, ◌<◌, List, [], ◌∷◌, length, sym, ◌∙◌, arith}
use Rattle.rules.specs.Tree.{Name}
use Rattle.rules.specs.Refusals.{Outcome}
use Rattle.rules.specs.Refusals.Outcome.{fine, refused}
use Rattle.rules.specs.Counting.{Event, events_of}
use Rattle.rules.specs.Tables.{Counts, Room, no_rows, reads, writes, need_name, need_edge, grow_edge, hold, enter, fill, names_width, edges_width}
use Rattle.rules.specs.Calls.{zeroed}
use Rattle.rules.proofs.Outcomes.{Alike, then_alike, then_alike_within}
use Rattle.tables.specs.Matching.{Named, name_words, edge_words}
use Rattle.tables.proofs.Holding.{zeroed_holds}
use Rattle.data.specs.Events.{name_placed, edge_placed, Tables, tables, joined, joined_all, counted, entered}
use Rattle.data.specs.Filling.{id_of, ids_of, enter_words, fill_words}
use Rattle.tally.specs.Tallies.{weight, Told, FilledTold}
use Rattle.tally.proofs.Naming.{AllNamed, events_named}
use Rattle.tally.proofs.Rows.{light_small}
use Rattle.tally.proofs.Steps.{Rowed, rowed_less, RowOfName, RowOfEdge, name_step, edge_step, edge_grows, name_grows}
use Rattle.tally.proofs.Weights.{counts_fit}

module _ (found found' : List ℕ) (space : Room) (en : space.names ≡ length found / names_width) (ee : space.edges ≡ length found' / edges_width) where
  pub hold_told : (k : ℕ) (e : Event) (hs : List Name) (t : Tables) (c : Counts) → 0 < e.name.symbol → Named hs → Rowed (length hs + k) found found' t c
      → Alike (Rowed k found found') (joined_all (id_of e.name) (reads e) (writes e) e.at (ids_of hs) t) (hold space e hs c)
  unfolding joined
  hold_told k e [] t c z ns s = rowed_less k (0 + k) found found' t c (omega arith) s
  hold_told k e (h ∷ hs) t c z ns s =
      let n = e.name in
      let j = length hs + k in
      let start : Rowed (suc j) found found' t c = rowed_less (suc j) (suc (length hs) + k) found found' t c (omega arith) s in
      then_alike_within (RowOfName found found' (suc j) h t c) (Rowed k found found') (name_placed (id_of h) e.at t.names) (need_name space e.at h c) _ _ _
      (name_step found found' space en ee (suc j) e.at h t c ns.0 start)
      (λ from c₁ r₁.
      let t₁ = tables from.words t.edges in
      then_alike_within (RowOfName found found' (suc j) n t₁ c₁) (Rowed k found found') (name_placed (id_of n) e.at from.words) (need_name space e.at n c₁) _ _ _
      (name_step found found' space en ee (suc j) e.at n t₁ c₁ z r₁.rowed)
      (λ to c₂ r₂.
      let t₂ = tables to.words t.edges in
      then_alike_within (RowOfEdge found found' (suc j) h n t₂) (Rowed k found found')
      (edge_placed (record { from = from.row; to = to.row }) e.at t.edges) (need_edge space e.at h n c₂) _ _ _
      (edge_step found found' space en ee (suc j) e.at h n (record { from = from.row; to = to.row }) t₂ c₂
      (r₁.row ∙ sym (r₂.numbers h r₁.there)) r₂.row (r₂.keeps h r₁.there) r₂.there r₂.rowed)
      (λ edge c₃ r₃.
      hold_told k e hs _ (grow_edge e h c₃) z ns.1 (edge_grows found found' j e h edge.row (tables to.words edge.words) c₃ r₃.rowed r₃.first))))

  pub enter_told : (k : ℕ) (e : Event) (t : Tables) (c : Counts) → 0 < e.name.symbol → Named e.holders → Rowed (1 + length e.holders + k) found found' t c
      → Alike (Rowed k found found') (enter_words e t) (enter space e c)
  unfolding entered counted
  enter_told k e t c z ns s =
      then_alike (Rowed (suc k) found found') (Rowed k found found') (joined_all (id_of e.name) (reads e) (writes e) e.at (ids_of e.holders) t) (hold space e e.holders c) _ _
      (hold_told (suc k) e e.holders t c z ns (rowed_less (length e.holders + suc k) (1 + length e.holders + k) found found' t c (omega arith) s))
      (λ u held r.
      then_alike_within (RowOfName found found' (suc k) e.name u held) (Rowed k found found') (name_placed (id_of e.name) e.at u.names) (need_name space e.at e.name held) _ _ _
      (name_step found found' space en ee (suc k) e.at e.name u held z r)
      (λ p ready q. name_grows found found' k e p.row (tables p.words u.edges) ready q.rowed q.there q.row))

  pub fill_told : (es : List Event) (t : Tables) (c : Counts) → AllNamed es → Rowed (weight es) found found' t c
      → Alike (Rowed 0 found found') (fill_words es t) (fill space es c)
  fill_told [] t c ns s = s
  fill_told (e ∷ es) t c ns s =
      then_alike (Rowed (weight es) found found') (Rowed 0 found found') (enter_words e t) (enter space e c) _ _
      (enter_told (weight es) e t c ns.0 ns.1 s)
      (λ u d r. fill_told es u d ns.2 r)

-- what is told of rows to which nothing is still to be added
told_of : (found found' : List ℕ) (o : Outcome Tables) (o' : Outcome Counts) → Alike (Rowed 0 found found') o o' → Told found found' o o'
told_of found found' (fine t) (fine c) s =
    record { distinct = s.distinct; small = light_small 0 c.names s.light; known = s.known; names_held = s.names_held; edges_held = s.edges_held }
told_of found found' (refused n a) (refused m b) s = s
told_of found found' (fine t) (refused m b) s = absurd s
told_of found found' (refused n a) (fine c) s = absurd s

pub filled_told : FilledTold
filled_told words tree t names edges space en ee =
    let es = events_of tree in
    let zeros = tables (zeroed names_width names) (zeroed edges_width edges) in
    told_of names edges (fill_words es zeros) (fill space es no_rows)
    (fill_told names edges space en ee es zeros no_rows (events_named words tree t)
    (record {
      fits = counts_fit words tree t;
      distinct = tt;
      light = tt;
      known = tt;
      light_edges = tt;
      names_held = zeroed_holds names_width name_words (omega arith) names;
      edges_held = zeroed_holds edges_width (edge_words []) (omega arith) edges;
    }))
