-- The sum of the absorbed runs: each call keeps it, so every list of calls does.
-- Assumes nothing.
use Prim.Native.Nat.{ℕ, suc, ◌+◌}
use mathlib.Core.Path.{◌≡◌, refl, sym, ap, ◌∙◌}
use mathlib.Core.Bool.{Bool, true, false, cond}
use mathlib.Core.List.{List, [], ◌∷◌}
use mathlib.Core.Option.{some}
use native.Mathlib.Omega.{arith}
use native.Mathlib.Decide.{ℕ_discrete}
use borrow.Author.Tests.{eq-eqb, ne_eqb}
use lib.ListN.{length}
use lib.Dec.{eqb}
use Rattle.refusals.specs.Refusals.{refusal_of}
use Rattle.packet_metadata.specs.Metadata.{read_metadata}
use Rattle.packet_metadata.specs.declared.Metadata.{Metadata}
use Rattle.packet_data.specs.Data.{read_data}
use Rattle.packet_data.specs.declared.Data.{Data}
use Rattle.transfer.specs.declared.Key.{Key}
use Rattle.transfer.specs.declared.Reached.{Reached}
use Rattle.transfer.specs.declared.Receipt.{Receipt}
use Rattle.transfer.specs.Transfers.{Transfer, key_of}
use Rattle.transfer.specs.Record.{stamp_in}
use Rattle.transfer.proofs.FieldLaws.{data_some}
use Rattle.table.specs.Tables.{Valid, keys, find, runs_of}
use Rattle.table.specs.Outcome.{Outcome}
use Rattle.table.specs.Open.{open_packet}
use Rattle.table.specs.Record.{grown, record_packet}
use Rattle.table.specs.Close.{close_id}
use Rattle.table.specs.declared.Opened.{Opened}
use Rattle.table.specs.declared.Opened.TheVariants as opened
use Rattle.table.proofs.TableLaws.{runs_add_same, runs_set_same, runs_set_other}
use Rattle.table.proofs.FineLaws.{runs_canonical}
use Rattle.table.proofs.OpenLaws.{open_cases}
use Rattle.table.proofs.RecordLaws.{record_cases, recorded_as, grown_count}
use Rattle.table.proofs.OtherLaws.{close_other}
use Rattle.table.proofs.ValidLaws.{open_valid, record_valid, close_valid}
use Rattle.area.specs.Operations.{OnArea, on_table, open_area, record_area, close_area, runs_held}
use Rattle.area.proofs.JudgeLaws.{held_valid}
use Rattle.area.proofs.StoredLaws.{stored_held}
use Rattle.area.proofs.OperationLaws.{on_cases, runs_held_lem}
use Rattle.any_order.specs.Order.{Packet, opening, recording, id_in}
use Rattle.any_order.specs.Demand3.{call_area}
use Rattle.any_order.specs.Absorbed.{AnyCall, call, closing, left_by, after_all, counted, counted_by, counted_over, recordings_taken, absorbed_sum, KeptOpen, SumOverStretch, SumFromOpening}
use Rattle.any_order.proofs.CallLaws.{open_runs, id_is, left}
use Rattle.std.specs.Prelude.{Result, Ok, Err}
use Rattle.refusals.specs.declared.Refusal.{Refusal}

-- ---- a recording, on a table

-- the number f of what an answer tells, where the Id of the packet is i
abbrev counts : ℕ → (Receipt → ℕ) → Packet → Result Receipt Refusal → ℕ
counts i f p r = cond (eqb (id_in p) i) (counted i f r) 0

abbrev Balanced : ℕ → Packet → Result Receipt Refusal → ℕ → ℕ → Type 0
Balanced i p r after before = counts i (λ x. x.absorbed) p r + after ≡ counts i (λ x. 1) p r + before

balanced_none : (i : ℕ) (p : Packet) (r : Result Receipt Refusal) (n : ℕ) → (id_in p ≡ i → ⊥) → Balanced i p r n n
balanced_none i p r n other = rw (ne_eqb (id_in p) i other)

refused_balanced : (i : ℕ) (p : Packet) (r : Result Receipt Refusal) (n : ℕ) → counted i (λ x. x.absorbed) r ≡ 0 → counted i (λ x. 1) r ≡ 0 → Balanced i p r n n
refused_balanced i p r n e f = go (eqb (id_in p) i)
  where
    go : (b : Bool) → cond b (counted i (λ x. x.absorbed) r) 0 + n ≡ cond b (counted i (λ x. 1) r) 0 + n
    go true = rw (e, f)
    go false = refl

record_balanced : (t : List Transfer) (p : Packet) (i : ℕ) → Valid t
    → Balanced i p (record_packet t p.octets).answer (length (runs_of (record_packet t p.octets).table i)) (length (runs_of t i))
unfolding counted
record_balanced t p i v =
    record_cases (λ (o : Outcome (Result Receipt Refusal)). Balanced i p o.answer (length (runs_of o.table i)) (length (runs_of t i))) t p.octets
    (λ n. refused_balanced i p (Err (refusal_of (suc n))) (length (runs_of t i)) refl refl)
    (λ d k e f j l. taken d k e f (ℕ_discrete d.id i))
  where
    taken : (d : Data) (k : Key) → read_data p.octets ≡ Ok d → find d.id (keys t) ≡ some k → Dec (d.id ≡ i)
        → Balanced i p (recorded_as t p.octets d k).answer (length (runs_of (left t p d) i)) (length (runs_of t i))
    taken d k e f (yes q) =
        let same : id_in p ≡ i = id_is p d e ∙ q in
        let has : runs_of (left t p d) i ≡ grown t d =
        ap (runs_of (left t p d)) (sym q) ∙ runs_set_same d.id (grown t d) (stamp_in p.octets d) t k f in
        let count = grown_count t d (data_some p.octets d e) (runs_canonical d.id t v) in
        let here : length (runs_of t d.id) ≡ length (runs_of t i) = ap (λ (j : ℕ). length (runs_of t j)) q in
        rw (eq-eqb (id_in p) i same, has) (omega arith)
    taken d k e f (no n) =
        rw (runs_set_other d.id i (grown t d) (stamp_in p.octets d) t n)
        (balanced_none i p (recorded_as t p.octets d k).answer (length (runs_of t i)) (λ z. n (sym (id_is p d e) ∙ z)))

-- ---- each call, on an area

-- an operation that keeps the runs of the Id on every table
held_kept : {A : Type 0} (refused : A) (operation : List Transfer → Outcome A) (a : List ℕ) (i : ℕ)
    → ((t : List Transfer) → Valid t → Valid (operation t).table) → ((t : List Transfer) → runs_of (operation t).table i ≡ runs_of t i)
    → runs_held (on_table refused operation a).area i ≡ runs_held a i
held_kept {A} refused operation a i valid same =
    on_cases refused operation a (λ (o : OnArea A). runs_held o.area i ≡ runs_held a i) refl
    (λ t h.
    runs_held_lem _ (operation t).table i (stored_held a (operation t).table (valid t (held_valid a t h)))
    ∙ ap length (same t) ∙ sym (runs_held_lem a t i h))

open_held : (a : List ℕ) (p : Packet) (i : ℕ) → runs_held (open_area a p.octets).area i ≡ runs_held a i
unfolding open_area
open_held a p i =
    held_kept (Err (refusal_of 22)) (λ t. open_packet t p.octets) a i (λ t v. open_valid t p.octets p.are_octets v) (λ t. open_runs t p i)

close_held : (a : List ℕ) (j i : ℕ) → (j ≡ i → ⊥) → runs_held (close_area a j).area i ≡ runs_held a i
unfolding close_area
close_held a j i other =
    held_kept (Err (refusal_of 22)) (λ t. close_id t j) a i (λ t v. close_valid t j v) (λ t. (close_other t j i other).runs)

record_held_balanced : (a : List ℕ) (p : Packet) (i : ℕ)
    → Balanced i p (record_area a p.octets).answer (runs_held (record_area a p.octets).area i) (runs_held a i)
unfolding record_area counted
record_held_balanced a p i =
    on_cases (Err (refusal_of 22)) (λ t. record_packet t p.octets) a
    (λ (o : OnArea (Result Receipt Refusal)). Balanced i p o.answer (runs_held o.area i) (runs_held a i))
    (refused_balanced i p (Err (refusal_of 22)) (runs_held a i) refl refl)
    (λ t h.
    let v = held_valid a t h in
    let u = (record_packet t p.octets).table in
    rw (runs_held_lem _ u i (stored_held a u (record_valid t p.octets p.are_octets v)), runs_held_lem a t i h) (record_balanced t p i v))

-- ---- any list of calls

call_adds : (i : ℕ) (a : List ℕ) (c : AnyCall) (cs : List AnyCall) → KeptOpen i (c ∷ cs)
    → counted_by i (λ x. x.absorbed) a c + runs_held (left_by a c) i ≡ counted_by i (λ x. 1) a c + runs_held a i
unfolding counted_by left_by call_area
call_adds i a (call (opening p)) cs k = ap (λ (n : ℕ). 0 + n) (open_held a p i)
call_adds i a (call (recording p)) cs k = record_held_balanced a p i
call_adds i a (closing j) cs k = ap (λ (n : ℕ). 0 + n) (close_held a j i k.0)

rest_open : (i : ℕ) (c : AnyCall) (cs : List AnyCall) → KeptOpen i (c ∷ cs) → KeptOpen i cs
rest_open i (call c) cs k = k
rest_open i (closing j) cs k = k.1

pub sum_over_stretch : SumOverStretch
unfolding counted_over after_all
sum_over_stretch i a [] k = refl
sum_over_stretch i a (c ∷ cs) k =
    let one : counted_by i (λ x. x.absorbed) a c + runs_held (left_by a c) i ≡ counted_by i (λ x. 1) a c + runs_held a i = call_adds i a c cs k in
    let rest : absorbed_sum i (left_by a c) cs + runs_held (after_all (left_by a c) cs) i ≡ recordings_taken i (left_by a c) cs + runs_held (left_by a c) i =
    sum_over_stretch i (left_by a c) cs (rest_open i c cs k) in
    omega arith

-- ---- from an opening as new: it holds no run

new_table : (t : List Transfer) (packet : List ℕ) (m : Metadata) (x : Reached) → read_metadata packet ≡ Ok m
    → (open_packet t packet).answer ≡ Ok (opened.New x) → runs_of (open_packet t packet).table m.id ≡ []
new_table t packet m x r =
    open_cases (λ (o : Outcome (Result Opened Refusal)). o.answer ≡ Ok (opened.New x) → runs_of o.table m.id ≡ []) t packet
    (λ z q. absurd (let y : ◌≡◌ {A = ℕ} 0 1 = cc in omega arith))
    (λ n e f q. absurd (let y : ◌≡◌ {A = ℕ} 0 1 = cc in omega arith))
    (λ n e f w l q. let y : n ≡ m = cc in rw (← y) (runs_add_same (key_of n) t f))

new_held : (a : List ℕ) (p : Packet) (m : Metadata) (x : Reached) → read_metadata p.octets ≡ Ok m
    → (open_area a p.octets).answer ≡ Ok (opened.New x) → runs_held (open_area a p.octets).area m.id ≡ 0
unfolding open_area
new_held a p m x r =
    on_cases (Err (refusal_of 22)) (λ t. open_packet t p.octets) a
    (λ (o : OnArea (Result Opened Refusal)). o.answer ≡ Ok (opened.New x) → runs_held o.area m.id ≡ 0)
    (λ q. absurd (let y : ◌≡◌ {A = ℕ} 0 1 = cc in omega arith))
    (λ t h q.
    let u = (open_packet t p.octets).table in
    runs_held_lem _ u m.id (stored_held a u (open_valid t p.octets p.are_octets (held_valid a t h))) ∙ ap length (new_table t p.octets m x r q))

pub sum_from_opening : SumFromOpening
sum_from_opening a p m x r new cs k =
    let b : List ℕ = (open_area a p.octets).area in
    let none : runs_held b m.id ≡ 0 = new_held a p m x r new in
    let all : absorbed_sum m.id b cs + runs_held (after_all b cs) m.id ≡ recordings_taken m.id b cs + runs_held b m.id = sum_over_stretch m.id b cs k in
    record { adds_up = omega arith; runs_most = omega arith; never_more = omega arith }
