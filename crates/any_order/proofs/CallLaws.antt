-- One opening or recording on a table: what it leaves of the keys, the runs and the timestamps.
-- Assumes nothing.
use Prim.Native.Nat.{ℕ, ◌≤◌, ◌<◌}
use mathlib.Core.Path.{◌≡◌, refl, sym, ap, ap₂, subst, ◌∙◌}
use mathlib.Core.Bool.{Bool, true, false, cond, ◌||◌}
use mathlib.Core.List.{List}
use mathlib.Core.Logic.{◌⊎◌, inl, inr}
use mathlib.Core.Option.{none, some}
use native.Mathlib.Omega.{arith}
use native.Mathlib.Decide.{ℕ_discrete}
use lib.ListN.{length}
use Rattle.packet_metadata.specs.Metadata.{read_metadata}
use Rattle.packet_metadata.specs.declared.Metadata.{Metadata}
use Rattle.packet_data.specs.Data.{read_data}
use Rattle.packet_data.specs.declared.Data.{Data}
use Rattle.runs.specs.Runs.{insert}
use Rattle.transfer.specs.declared.Key.{Key}
use Rattle.timestamp.specs.Timestamps.{stamped, renewed}
use Rattle.transfer.specs.Transfers.{Transfer, key_of}
use Rattle.transfer.specs.Record.{stamp_in, extended}
use Rattle.table.specs.Tables.{Valid, keys, find, runs_of, stamp_of, add, set_runs}
use Rattle.table.specs.Open.{open_packet, open_accepted}
use Rattle.table.specs.Record.{data_judged, grown, record_packet, record_accepted}
use Rattle.any_order.specs.Order.{Packet, Call, opening, recording, id_read, offset_read, stop_read, id_in, offset_in, stop_in, stamp_octets, stamps, Brings}
use Rattle.any_order.specs.TableDemand3.{call_table}
use Rattle.table.proofs.TableLaws.{find_add_same, find_add_other, keys_set, runs_add, runs_set_same, runs_set_other, stamp_add, stamp_set_same, stamp_set_other}
use Rattle.table.proofs.OpenLaws.{open_cases}
use Rattle.table.proofs.RecordLaws.{record_cases, record_taken}
use Rattle.table.proofs.OtherLaws.{open_kept, record_kept}
use Rattle.transfer.proofs.FieldLaws.{data_some}
use Rattle.timestamp.proofs.StampLaws.{renewed_stamped}
use Rattle.transfer.proofs.StampLaws.{stamp_bit, renewed_by}
use Rattle.table.proofs.ValidLaws.{open_valid, record_valid}
use Rattle.any_order.proofs.FillLaws.{one, one_same, one_other}
use Rattle.any_order.proofs.LastLaws.{stamps_same, stamps_other}
use Rattle.table.specs.Outcome.{Outcome}
use Rattle.table.specs.declared.Opened.{Opened}
use Rattle.std.specs.Prelude.{Result, Ok}
use Rattle.refusals.specs.declared.Refusal.{Refusal}
use Rattle.transfer.specs.declared.Receipt.{Receipt}

abbrev pub opened : List Transfer → Packet → List Transfer
opened t p = (open_packet t p.octets).table

abbrev pub recorded : List Transfer → Packet → List Transfer
recorded t p = (record_packet t p.octets).table

abbrev Opens : List Transfer → Packet → Type 0
Opens t p = open_accepted (open_packet t p.octets).answer ≡ true

abbrev pub Records : List Transfer → Packet → Type 0
Records t p = record_accepted (record_packet t p.octets).answer ≡ true

pub call_kept : (t : List Transfer) (c : Call) → (call_table t c).0 ≡ false → (call_table t c).1 ≡ t
unfolding call_table
call_kept t (opening p) e = open_kept t p.octets e
call_kept t (recording p) e = record_kept t p.octets e

pub call_valid : (t : List Transfer) (c : Call) → Valid t → Valid (call_table t c).1
unfolding call_table
call_valid t (opening p) v = open_valid t p.octets p.are_octets v
call_valid t (recording p) v = record_valid t p.octets p.are_octets v

-- an opening: no runs change, what was open stays so, and what it brings is open
pub open_runs : (t : List Transfer) (p : Packet) (i : ℕ) → runs_of (opened t p) i ≡ runs_of t i
open_runs t p i =
    open_cases (λ (o : Outcome (Result Opened Refusal)). runs_of o.table i ≡ runs_of t i) t p.octets (λ r. refl) (λ m e f. refl)
    (λ m e f w l. runs_add i (key_of m) t f)

-- nor does a timestamp
pub open_stamp : (t : List Transfer) (p : Packet) (i : ℕ) → stamp_of (opened t p) i ≡ stamp_of t i
open_stamp t p i =
    open_cases (λ (o : Outcome (Result Opened Refusal)). stamp_of o.table i ≡ stamp_of t i) t p.octets (λ r. refl) (λ m e f. refl)
    (λ m e f w l. stamp_add i (key_of m) t f)

find_later : (t : List Transfer) (j k : Key) (i : ℕ) → find j.id (keys t) ≡ none → find i (keys t) ≡ some k → find i (keys (add j t)) ≡ some k
find_later t j k i n e = find_add_other i j t (λ q. absent (ap (λ (x : ℕ). find x (keys t)) (sym q) ∙ n)) ∙ e
  where
    absent : find i (keys t) ≡ none → ⊥
    absent z = let y : ◌≡◌ {A = ℕ} 0 1 = cc in omega arith

pub open_finds : (t : List Transfer) (p : Packet) (i : ℕ) (k : Key) → find i (keys t) ≡ some k → find i (keys (opened t p)) ≡ some k
open_finds t p i k e =
    open_cases (λ (o : Outcome (Result Opened Refusal)). find i (keys o.table) ≡ some k) t p.octets (λ r. e) (λ m q f. e) (λ m q f w l. find_later t (key_of m) k i f e)

pub open_brings : (t : List Transfer) (p : Packet) (k : Key) → Opens t p → Brings p k → find k.id (keys (opened t p)) ≡ some k
open_brings t p k a (m, e, q) =
    rw (← q)
    (open_cases (λ (o : Outcome (Result Opened Refusal)). open_accepted o.answer ≡ true → find m.id (keys o.table) ≡ some (key_of m)) t p.octets
    (λ r z. absurd (let y : ◌≡◌ {A = ℕ} 0 1 = cc in omega arith))
    (λ n f g z. let y : n ≡ m = cc in rw y at g)
    (λ n f g w l z. let y : n ≡ m = cc in
    subst (λ (x : Metadata). find x.id (keys (add (key_of n) t)) ≡ some (key_of x)) y (find_add_same (key_of n) t g))
    a)

pub open_only : (t : List Transfer) (p : Packet) (k : Key) → find k.id (keys (opened t p)) ≡ some k → (find k.id (keys t) ≡ some k) ⊎ Brings p k
open_only t p k =
    open_cases (λ (o : Outcome (Result Opened Refusal)). find k.id (keys o.table) ≡ some k → (find k.id (keys t) ≡ some k) ⊎ Brings p k) t p.octets
    (λ r z. inl z) (λ m e f z. inl z) (λ m e f w l z. go m e f z (ℕ_discrete m.id k.id))
  where
    go : (m : Metadata) → read_metadata p.octets ≡ Ok m → find m.id (keys t) ≡ none
        → find k.id (keys (add (key_of m) t)) ≡ some k → Dec (m.id ≡ k.id) → (find k.id (keys t) ≡ some k) ⊎ Brings p k
    go m e f z (yes q) =
        let y : find k.id (keys (add (key_of m) t)) ≡ some (key_of m) =
        ap (λ (x : ℕ). find x (keys (add (key_of m) t))) (sym q) ∙ find_add_same (key_of m) t f in
        inr (m, e, cc)
    go m e f z (no q) = inl (sym (find_add_other k.id (key_of m) t q) ∙ z)

-- a recording: judged by the keys and by room alone, it keeps the keys and adds its run
abbrev pub Fit : List Key → Packet → Type 0
Fit ks p = (d : Data) × (k : Key) × (read_data p.octets ≡ Ok d) × (find d.id ks ≡ some k) × (data_judged (some k) d ≡ 0)

grown_is : (t : List Transfer) (p : Packet) (d : Data) → read_data p.octets ≡ Ok d
    → insert (offset_in p) (stop_in p) (runs_of t (id_in p)) ≡ grown t d
unfolding grown extended id_read offset_read stop_read
grown_is t p d e = ap (λ (r : Result Data Refusal). insert (offset_read r) (stop_read r) (runs_of t (id_read r))) e

pub id_is : (p : Packet) (d : Data) → read_data p.octets ≡ Ok d → id_in p ≡ d.id
unfolding id_read
id_is p d e = ap id_read e

pub fit_filled : (ks : List Key) (p : Packet) → Fit ks p → offset_in p < stop_in p
unfolding offset_read stop_read
fit_filled ks p (d, k, e, f, j) = rw e (let h : 0 < d.length = data_some p.octets d e in omega arith)

pub fit_later : (t : List Transfer) (o p : Packet) → Fit (keys t) p → Fit (keys (opened t o)) p
fit_later t o p (d, k, e, f, j) = (d, k, e, open_finds t o d.id k f, j)

pub rec_keys : (t : List Transfer) (p : Packet) → keys (recorded t p) ≡ keys t
rec_keys t p = record_cases (λ (o : Outcome (Result Receipt Refusal)). keys o.table ≡ keys t) t p.octets (λ r. refl) (λ d k e f j l. keys_set d.id (grown t d) (stamp_in p.octets d) t)

-- an accepted recording leaves a table that has what is asked of the Id i, where that is the packet's own Id, and where it is another
abbrev pub left : List Transfer → Packet → Data → List Transfer
left t p d = set_runs d.id (grown t d) (stamp_in p.octets d) t

rec_left : (P : List Transfer → Type 0) (t : List Transfer) (p : Packet) (i : ℕ) → Records t p
    → ((d : Data) (k : Key) → read_data p.octets ≡ Ok d → find d.id (keys t) ≡ some k → id_in p ≡ i → d.id ≡ i → P (left t p d))
    → ((d : Data) → (id_in p ≡ i → ⊥) → (d.id ≡ i → ⊥) → P (left t p d)) → P (recorded t p)
rec_left P t p i a own other =
    record_cases (λ (o : Outcome (Result Receipt Refusal)). record_accepted o.answer ≡ true → P o.table) t p.octets
    (λ r z. absurd (let y : ◌≡◌ {A = ℕ} 0 1 = cc in omega arith)) (λ d k e f j l z. go d k e f (ℕ_discrete d.id i)) a
  where
    go : (d : Data) (k : Key) → read_data p.octets ≡ Ok d → find d.id (keys t) ≡ some k → Dec (d.id ≡ i) → P (left t p d)
    go d k e f (yes q) = own d k e f (id_is p d e ∙ q) q
    go d k e f (no n) = other d (λ q. n (sym (id_is p d e) ∙ q)) n

pub rec_runs : (t : List Transfer) (p : Packet) (i : ℕ) → Records t p → runs_of (recorded t p) i ≡ one i p (runs_of t i)
rec_runs t p i a =
    rec_left (λ (u : List Transfer). runs_of u i ≡ one i p (runs_of t i)) t p i a
    (λ d k e f same q.
    ap (runs_of (left t p d)) (sym q)
    ∙ runs_set_same d.id (grown t d) (stamp_in p.octets d) t k f
    ∙ sym (grown_is t p d e)
    ∙ ap (λ (x : ℕ). insert (offset_in p) (stop_in p) (runs_of t x)) same
    ∙ sym (one_same i p (runs_of t i) same))
    (λ d other n. runs_set_other d.id i (grown t d) (stamp_in p.octets d) t n ∙ sym (one_other i p (runs_of t i) other))

-- the timestamp of the Id: where bit 12 is set the packet's, and else the one that was kept
pub rec_stamp : (t : List Transfer) (p : Packet) (i : ℕ) → Records t p → stamp_of (recorded t p) i ≡ cond (stamps i p) (stamp_octets p) (stamp_of t i)
rec_stamp t p i a =
    rec_left (λ (u : List Transfer). stamp_of u i ≡ cond (stamps i p) (stamp_octets p) (stamp_of t i)) t p i a
    (λ d k e f same q.
    ap (stamp_of (left t p d)) (sym q)
    ∙ stamp_set_same d.id (grown t d) (stamp_in p.octets d) t k f
    ∙ ap (λ (x : ℕ). renewed (stamp_in p.octets d) (stamp_of t x)) q
    ∙ renewed_by p.octets d (stamp_of t i) e
    ∙ ap (λ (b : Bool). cond b (stamp_octets p) (stamp_of t i)) (sym (stamps_same i p same)))
    (λ d other n.
    stamp_set_other d.id i (grown t d) (stamp_in p.octets d) t n
    ∙ ap (λ (b : Bool). cond b (stamp_octets p) (stamp_of t i)) (sym (stamps_other i p other)))

pub rec_stamped : (t : List Transfer) (p : Packet) (i : ℕ) → Records t p → stamped (stamp_of (recorded t p) i) ≡ (stamps i p || stamped (stamp_of t i))
rec_stamped t p i a =
    rec_left (λ (u : List Transfer). stamped (stamp_of u i) ≡ (stamps i p || stamped (stamp_of t i))) t p i a
    (λ d k e f same q.
    ap (λ (x : ℕ). stamped (stamp_of (left t p d) x)) (sym q)
    ∙ ap stamped (stamp_set_same d.id (grown t d) (stamp_in p.octets d) t k f)
    ∙ renewed_stamped (stamp_in p.octets d) (stamp_of t d.id)
    ∙ ap₂ (λ (b : Bool) (x : ℕ). b || stamped (stamp_of t x)) (stamp_bit p.octets d e ∙ sym (stamps_same i p same)) q)
    (λ d other n.
    ap stamped (stamp_set_other d.id i (grown t d) (stamp_in p.octets d) t n)
    ∙ ap (λ (b : Bool). b || stamped (stamp_of t i)) (sym (stamps_other i p other)))

pub rec_fit : (t : List Transfer) (p : Packet) → Records t p → Fit (keys t) p
rec_fit t p =
    record_cases (λ (o : Outcome (Result Receipt Refusal)). record_accepted o.answer ≡ true → Fit (keys t) p) t p.octets
    (λ r z. absurd (let y : ◌≡◌ {A = ℕ} 0 1 = cc in omega arith)) (λ d k e f j l z. (d, k, e, f, j))

pub rec_room : (t : List Transfer) (p : Packet) → Records t p → length (insert (offset_in p) (stop_in p) (runs_of t (id_in p))) ≤ 64
rec_room t p =
    record_cases (λ (o : Outcome (Result Receipt Refusal)). record_accepted o.answer ≡ true → length (insert (offset_in p) (stop_in p) (runs_of t (id_in p))) ≤ 64)
    t p.octets (λ r z. absurd (let y : ◌≡◌ {A = ℕ} 0 1 = cc in omega arith)) (λ d k e f j l z. rw (grown_is t p d e) l)

pub rec_takes : (t : List Transfer) (p : Packet) → Fit (keys t) p → length (insert (offset_in p) (stop_in p) (runs_of t (id_in p))) ≤ 64 → Records t p
rec_takes t p (d, k, e, f, j) n =
    ap (λ (o : Outcome (Result Receipt Refusal)). record_accepted o.answer) (record_taken t p.octets d k e f j (rw (grown_is t p d e) at n))
