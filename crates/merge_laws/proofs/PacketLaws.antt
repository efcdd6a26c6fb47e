-- R15.8: a packet recorded on the first area before a merge or after it.
-- Assumes nothing.
use Prim.Native.Nat.{ℕ, ◌<◌}
use mathlib.Core.Path.{◌≡◌, sym, ap, ap₂, ◌∙◌}
use mathlib.Core.Bool.{cond}
use mathlib.Core.List.{List}
use mathlib.Core.Option.{some}
use native.Mathlib.Omega.{arith}
use native.Mathlib.Decide.{ℕ_discrete}
use Rattle.runs.specs.Runs.{Run, Canonical}
use Rattle.run_union.specs.Union.{union}
use Rattle.run_union.proofs.SetLaws.{union_insert}
use Rattle.transfer.specs.declared.Key.{Key}
use Rattle.transfer.specs.declared.Reached.{Reached}
use Rattle.transfer.specs.declared.Receipt.{Receipt}
use Rattle.transfer.specs.Transfers.{Transfer, reached}
use Rattle.transfer.specs.Record.{stamp_in, receipt}
use Rattle.table.specs.Tables.{Valid, keys, find, runs_of, set_runs}
use Rattle.table.specs.Record.{grown, absorbed_in, adds_in, record_packet, record_accepted}
use Rattle.table.specs.Outcome.{Outcome}
use Rattle.table.proofs.TableLaws.{runs_set_same}
use Rattle.table.proofs.FineLaws.{runs_canonical, table_unique}
use Rattle.table.proofs.RecordLaws.{record_cases}
use Rattle.table.proofs.ValidLaws.{record_valid}
use Rattle.table_merge.specs.Merge.{joined_runs, merge_table}
use Rattle.table_merge.proofs.MergeLaws.{Mergeable, merge_taken, merge_keys, merge_other, merge_stamp, merge_runs, merge_valid}
use Rattle.area.specs.Judge.{table_of}
use Rattle.area.specs.Operations.{OnArea, leaves, record_area}
use Rattle.area.proofs.JudgeLaws.{held_valid}
use Rattle.area.proofs.OperationLaws.{record_held_lem, record_leaves}
use Rattle.area_merge.specs.Merge.{merge_area}
use Rattle.area_merge.proofs.OperationLaws.{merge_held_tables, merge_leaves}
use Rattle.any_order.specs.Order.{Packet, id_in, offset_in, stop_in, stamp_octets, stamps}
use Rattle.any_order.proofs.FillLaws.{one, one_same, one_other}
use Rattle.any_order.proofs.CallLaws.{recorded, Records, fit_filled, id_is, rec_keys, rec_runs, rec_stamp, rec_fit}
use Rattle.merge_laws.specs.Laws.{recorded_before, recorded_after, BeforeOrAfter, MergeBeforeOrAfter}
use Rattle.merge_laws.proofs.AcceptedLaws.{Tables, held_mergeable, accepted_tables}
use Rattle.merge_laws.proofs.ReceivedLaws.{received_alike}
use Rattle.std.specs.Prelude.{Result, Ok}
use Rattle.refusals.specs.declared.Refusal.{Refusal}

-- ---- on tables

one_union : (i : ℕ) (p : Packet) (xs ys : List Run) → offset_in p < stop_in p → Canonical xs → Canonical ys → union (one i p xs) ys ≡ one i p (union xs ys)
one_union i p xs ys h c d = go (ℕ_discrete (id_in p) i)
  where
    go : Dec (id_in p ≡ i) → union (one i p xs) ys ≡ one i p (union xs ys)
    go (yes e) =
        ap (λ (l : List Run). union l ys) (one_same i p xs e) ∙ union_insert (offset_in p) (stop_in p) xs ys h c d ∙ sym (one_same i p (union xs ys) e)
    go (no n) = ap (λ (l : List Run). union l ys) (one_other i p xs n) ∙ sym (one_other i p (union xs ys) n)

-- an accepted recording tells of the runs that it leaves
rec_reached : (t : List Transfer) (p : Packet) (y : Receipt) → (record_packet t p.octets).answer ≡ Ok y
    → (k : Key) × (find (id_in p) (keys t) ≡ some k) × (y.reached ≡ reached k (runs_of (recorded t p) (id_in p)))
rec_reached t p y =
    record_cases
    (λ (o : Outcome (Result Receipt Refusal)). o.answer ≡ Ok y → (k : Key) × (find (id_in p) (keys t) ≡ some k) × (y.reached ≡ reached k (runs_of o.table (id_in p))))
    t p.octets (λ r e. absurd (let z : ◌≡◌ {A = ℕ} 0 1 = cc in omega arith))
    (λ d k e f j l a.
    let is : receipt k (grown t d) (absorbed_in t d) (adds_in t d) ≡ y = cc in
    let at : id_in p ≡ d.id = id_is p d e in
    let has : runs_of (set_runs d.id (grown t d) (stamp_in p.octets d) t) d.id ≡ grown t d = runs_set_same d.id (grown t d) (stamp_in p.octets d) t k f in (
      k,
      ap (λ (i : ℕ). find i (keys t)) at ∙ f,
      rw (at, has) (sym (ap (λ (x : Receipt). x.reached) is)),
    ))

module _ (t u : List Transfer) (id : ℕ) (p : Packet) (v : Valid t) (w : Valid u) (first : Records t p) (then : Mergeable (recorded t p) u id)
    (m : Mergeable t u id) (last : Records (merge_table t u id).table p) where
  abbrev before : List Transfer
  before = (merge_table (recorded t p) u id).table

  abbrev merged : List Transfer
  merged = (merge_table t u id).table

  abbrev after : List Transfer
  after = recorded merged p

  some_octets : offset_in p < stop_in p
  some_octets = fit_filled (keys t) p (rec_fit t p first)

  recorded_valid : (x : List Transfer) → Valid x → Valid (recorded x p)
  recorded_valid x = record_valid x p.octets p.are_octets

  same_runs : (i : ℕ) → Dec (id ≡ i) → runs_of before i ≡ runs_of after i
  unfolding joined_runs
  same_runs i (yes e) =
      rw (← e)
      (merge_runs (recorded t p) u id then
      ∙ ap (λ (l : List Run). union l (runs_of u id)) (rec_runs t p id first)
      ∙ one_union id p (runs_of t id) (runs_of u id) some_octets (runs_canonical id t v) (runs_canonical id u w)
      ∙ ap (one id p) (sym (merge_runs t u id m))
      ∙ sym (rec_runs merged p id last))
  same_runs i (no n) =
      merge_other (recorded t p) u id i n ∙ rec_runs t p i first ∙ ap (one i p) (sym (merge_other t u id i n)) ∙ sym (rec_runs merged p i last)

  same_table : before ≡ after
  same_table =
      table_unique before after (merge_valid (recorded t p) u id (recorded_valid t v) w) (recorded_valid merged (merge_valid t u id v w))
      (λ i. ap (find i) (merge_keys (recorded t p) u id ∙ rec_keys t p ∙ sym (merge_keys t u id) ∙ sym (rec_keys merged p)))
      (λ i. same_runs i (ℕ_discrete id i))
      (λ i.
      merge_stamp (recorded t p) u id i ∙ rec_stamp t p i first
      ∙ ap (λ (s : List ℕ). cond (stamps i p) (stamp_octets p) s) (sym (merge_stamp t u id i)) ∙ sym (rec_stamp merged p i last))

  same_reached : id_in p ≡ id → (x : Reached) (y : Receipt) → (merge_table (recorded t p) u id).answer ≡ Ok x
      → (record_packet merged p.octets).answer ≡ Ok y → x ≡ y.reached
  same_reached e x y a b =
      let r = rec_reached merged p y b in
      let is : reached then.key (joined_runs (recorded t p) u id) ≡ x =
      joined (sym (ap (λ (o : Outcome (Result Reached Refusal)). o.answer) (merge_taken (recorded t p) u id then)) ∙ a) in
      let key : then.key ≡ r.0 =
      keyed (sym then.first ∙ ap (find id) (rec_keys t p ∙ sym (merge_keys t u id)) ∙ ap (λ (i : ℕ). find i (keys merged)) (sym e) ∙ r.1) in
      sym is
      ∙ ap₂ reached key (sym (merge_runs (recorded t p) u id then) ∙ ap (λ (z : List Transfer). runs_of z id) same_table ∙ ap (runs_of after) (sym e))
      ∙ sym r.2
    where
      joined : {q z : Reached} → ◌≡◌ {A = Result Reached Refusal} (Ok q) (Ok z) → q ≡ z
      joined h = cc

      keyed : {j k : Key} → some j ≡ some k → j ≡ k
      keyed h = cc

-- ---- on areas

pub merge_before_or_after : MergeBeforeOrAfter
merge_before_or_after a b id p n = go (accepted_tables a b id n.merged_first)
  where
    go : Tables a b id → BeforeOrAfter a b id p
    go q =
        let t = q.first in
        let u = q.second in
        let h = q.first_held in
        let g = q.second_held in
        let v : Valid t = held_valid a t h in
        let w : Valid u = held_valid b u g in
        let merged : List Transfer = (merge_table t u id).table in
        -- what the areas hold on the way
        let on_first : record_area a p.octets ≡ leaves a (record_packet t p.octets) = record_held_lem a p.octets t h in
        let first_left : table_of (record_area a p.octets).area ≡ some (recorded t p) = record_leaves a t h p.octets p.are_octets in
        let merged_left : table_of (merge_area a b id).area ≡ some merged = merge_leaves a b t u id h g in
        let on_merged : record_area (merge_area a b id).area p.octets ≡ leaves (merge_area a b id).area (record_packet merged p.octets) =
        record_held_lem (merge_area a b id).area p.octets merged merged_left in
        let on-recorded = merge_held_tables (record_area a p.octets).area b (recorded t p) u id first_left g in
        -- every step is accepted
        let first : Records t p = ap (λ (o : OnArea (Result Receipt Refusal)). record_accepted o.answer) (sym on_first) ∙ n.recorded_first in
        let then : Mergeable (recorded t p) u id = held_mergeable (record_area a p.octets).area b id (recorded t p) u first_left g n.merged_then in
        let last : Records merged p = ap (λ (o : OnArea (Result Receipt Refusal)). record_accepted o.answer) (sym on_merged) ∙ n.recorded_then in
        let table : table_of (recorded_before a b id p) ≡ table_of (recorded_after a b id p) =
        merge_leaves (record_area a p.octets).area b (recorded t p) u id first_left g
        ∙ ap some (same_table t u id p v w first then q.mergeable last)
        ∙ sym (record_leaves (merge_area a b id).area merged merged_left p.octets p.are_octets) in
        record {
          same_received = received_alike (recorded_before a b id p) (recorded_after a b id p) id table;
          same_table = table;
          same_reached = λ e x y k l.
              same_reached t u id p v w first then q.mergeable last e x y
              (ap (λ (o : OnArea (Result Reached Refusal)). o.answer) (sym on-recorded) ∙ k) (ap (λ (o : OnArea (Result Receipt Refusal)). o.answer) (sym on_merged) ∙ l);
        }
