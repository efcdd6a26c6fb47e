-- What recording does, case by case, and when it is accepted.
-- Assumes nothing.
use Prim.Native.Nat.{ℕ, zero, suc, ◌+◌, ◌<◌, ◌≤◌}
use mathlib.Core.Path.{◌≡◌, refl, ap, ◌∙◌}
use mathlib.Core.List.{List}
use mathlib.Core.Option.{Option, none, some}
use lib.ListN.{length}
use Rattle.refusals.specs.Refusals.{◌▹◌, refusal_of, answered}
use Rattle.refusals.proofs.RefusalLaws.{first_none, rest_none}
use Rattle.transfer.proofs.ExtendLaws.{extended_canonical, extended_count, key_stop, runs_few, few_runs}
use Rattle.packet_data.specs.Data.{data_refusal, data_of, read_data}
use Rattle.packet_data.specs.declared.Data.{Data}
use Rattle.transfer.specs.declared.Key.{Key}
use Rattle.transfer.specs.Transfers.{Transfer}
use Rattle.runs.specs.Runs.{Canonical}
use Rattle.table.specs.Tables.{keys, find, runs_of, set_runs}
use Rattle.table.specs.Record.{data_judged, record_refusal, grown, absorbed_in, adds_in, record_as, record_data, record_read, record_packet}
use Rattle.transfer.specs.Record.{stop_of, stamp_in, receipt, runs_refusal}
use Rattle.table.specs.Outcome.{Outcome}
use Rattle.std.specs.Prelude.{Result, Ok, Err}
use Rattle.refusals.specs.declared.Refusal.{Refusal}
use Rattle.transfer.specs.declared.Receipt.{Receipt}

-- accepted, with the runs grown, and the timestamp that the packet brings
abbrev pub recorded_as : List Transfer → List ℕ → Data → Key → Outcome (Result Receipt Refusal)
recorded_as t packet d k =
    record { answer = Ok (receipt k (grown t d) (absorbed_in t d) (adds_in t d)); table = set_runs d.id (grown t d) (stamp_in packet d) t }

-- refused, with a number that is not 0 (R1.5), and the table stays; or the Id is open with k, nothing of 12 to 15 is given, and there
-- is room
pub record_cases : (P : Outcome (Result Receipt Refusal) → Type 0) (t : List Transfer) (packet : List ℕ)
    → ((n : ℕ) → P (record { answer = Err (refusal_of (suc n)); table = t }))
    → ((d : Data) (k : Key) → read_data packet ≡ Ok d → find d.id (keys t) ≡ some k → data_judged (some k) d ≡ 0
    → length (grown t d) ≤ 64 → P (recorded_as t packet d k))
    → P (record_packet t packet)
unfolding record_packet record_read record_data record_as record_refusal read_data
record_cases P t packet refused taken = go (data_refusal packet) refl
  where
    judged : (d : Data) (o : Option Key) (n : ℕ) → read_data packet ≡ Ok d → find d.id (keys t) ≡ o
        → record_refusal o (grown t d) d ≡ n → P (record_as n o (grown t d) t d (stamp_in packet d))
    judged d none zero e q z = refused 11
    judged d (some k) zero e q z =
        taken d k e q (first_none (data_judged (some k) d) _ z)
        (runs_few (grown t d) (rest_none (data_judged (some k) d) _ z))
    judged d o (suc n) e q z = refused n

    go : (n : ℕ) → data_refusal packet ≡ n → P (record_read t packet (answered Err n (Ok (data_of packet))))
    go zero e = judged (data_of packet) (find (data_of packet).id (keys t)) _ (rw e) refl refl
    go (suc n) e = refused n

-- and then it is accepted
pub record_taken : (t : List Transfer) (packet : List ℕ) (d : Data) (k : Key) → read_data packet ≡ Ok d
    → find d.id (keys t) ≡ some k → data_judged (some k) d ≡ 0 → length (grown t d) ≤ 64 → record_packet t packet ≡ recorded_as t packet d k
unfolding record_packet record_read record_data record_as record_refusal
record_taken t packet d k e q j n =
    ap (record_read t packet) e
    ∙ ap (λ (o : Option Key). record_as (record_refusal o (grown t d) d) o (grown t d) t d (stamp_in packet d)) q
    ∙ ap (λ (x : ℕ). record_as (x ▹ runs_refusal (grown t d)) (some k) (grown t d) t d (stamp_in packet d)) j
    ∙ ap (λ (x : ℕ). record_as x (some k) (grown t d) t d (stamp_in packet d)) (few_runs (grown t d) n)

-- refusal 14 not given
pub judged_stop : (k : Key) (d : Data) → data_judged (some k) d ≡ 0 → stop_of d ≤ k.length
unfolding data_judged
judged_stop k d e = key_stop k d e

-- the received offsets stay canonical
pub grown_canonical : (t : List Transfer) (d : Data) → 0 < d.length → Canonical (runs_of t d.id) → Canonical (grown t d)
unfolding grown
grown_canonical t d p c = extended_canonical (runs_of t d.id) d p c

-- and are counted by what the packet absorbs
pub grown_count : (t : List Transfer) (d : Data) → 0 < d.length → Canonical (runs_of t d.id)
    → length (grown t d) + absorbed_in t d ≡ length (runs_of t d.id) + 1
unfolding grown absorbed_in
grown_count t d p c = extended_count (runs_of t d.id) d p c
