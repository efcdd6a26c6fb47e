-- R6.2, R1.6: a call for one Id changes nothing held for another, and a refusal changes nothing.
-- Assumes nothing.
use Prim.Native.Nat.{ℕ}
use mathlib.Core.Path.{◌≡◌, refl, ap}
use mathlib.Core.Bool.{false}
use mathlib.Core.List.{List}
use mathlib.Core.Option.{Option, none, some}
use native.Mathlib.Omega.{arith}
use Rattle.refusals.specs.Refusals.{refusal_of}
use Rattle.refusals.specs.declared.Refusal.{Refusal}
use Rattle.packet_metadata.specs.Metadata.{read_metadata}
use Rattle.packet_metadata.specs.declared.Metadata.{Metadata}
use Rattle.packet_data.specs.Data.{read_data}
use Rattle.packet_data.specs.declared.Data.{Data}
use Rattle.transfer.specs.declared.Key.{Key}
use Rattle.transfer.specs.Transfers.{Transfer, key_of}
use Rattle.transfer.specs.Record.{stamp_in}
use Rattle.table.specs.Tables.{keys, find, runs_of, stamp_of, remove}
use Rattle.table.specs.Open.{open_packet, open_accepted}
use Rattle.table.specs.Record.{grown, record_packet, record_accepted}
use Rattle.table.specs.Close.{close_found, close_id}
use Rattle.table.specs.declared.Opened.TheVariants as opened
use Rattle.table.proofs.TableLaws.{find_add_other, runs_add_other, stamp_add_other, keys_set, runs_set_other, stamp_set_other, find_remove_other, runs_remove_other, stamp_remove_other}
use Rattle.table.proofs.OpenLaws.{open_cases}
use Rattle.table.proofs.RecordLaws.{record_cases}
use Rattle.table.specs.Outcome.{Outcome}
use Rattle.table.specs.declared.Opened.{Opened}
use Rattle.std.specs.Prelude.{Result, Ok, Err, ⊤}
use Rattle.transfer.specs.declared.Receipt.{Receipt}

-- what u holds for an Id is what t holds for it: open or not, width, length, the received offsets, and the timestamp
pub record Kept (t u : List Transfer) (i : ℕ) : Type 0 where
  pub key : find i (keys u) ≡ find i (keys t)
  pub runs : runs_of u i ≡ runs_of t i
  pub stamp : stamp_of u i ≡ stamp_of t i

kept : (t : List Transfer) (i : ℕ) → Kept t t i
kept t i = record { key = refl; runs = refl; stamp = refl }

-- ---- another Id

-- i is not the Id of the METADATA
pub open_other : (t : List Transfer) (packet : List ℕ) (i : ℕ) → ((m : Metadata) → read_metadata packet ≡ Ok m → m.id ≡ i → ⊥)
    → Kept t (open_packet t packet).table i
open_other t packet i n =
    open_cases (λ (o : Outcome (Result Opened Refusal)). Kept t o.table i) t packet (λ r. kept t i) (λ m e f. kept t i)
    (λ m e f w l.
    record {
      key = find_add_other i (key_of m) t (n m e);
      runs = runs_add_other i (key_of m) t (n m e);
      stamp = stamp_add_other i (key_of m) t (n m e);
    })

-- i is not the Id of the DATA
pub record_other : (t : List Transfer) (packet : List ℕ) (i : ℕ) → ((d : Data) → read_data packet ≡ Ok d → d.id ≡ i → ⊥)
    → Kept t (record_packet t packet).table i
record_other t packet i n =
    record_cases (λ (o : Outcome (Result Receipt Refusal)). Kept t o.table i) t packet (λ r. kept t i)
    (λ d k e f j l.
    record {
      key = ap (find i) (keys_set d.id (grown t d) (stamp_in packet d) t);
      runs = runs_set_other d.id i (grown t d) (stamp_in packet d) t (n d e);
      stamp = stamp_set_other d.id i (grown t d) (stamp_in packet d) t (n d e);
    })

-- refused, and the table stays; or the Id is open, and it is removed
pub close_cases : (P : Outcome (Result ⊤ Refusal) → Type 0) (t : List Transfer) (id : ℕ)
    → P (record { answer = Err (refusal_of 12); table = t })
    → ((k : Key) → find id (keys t) ≡ some k → P (record { answer = Ok tt; table = remove id t }))
    → P (close_id t id)
unfolding close_id close_found
close_cases P t id refused done = go (find id (keys t)) refl
  where
    go : (o : Option Key) → find id (keys t) ≡ o → P (close_found o t id)
    go none e = refused
    go (some k) e = done k e

pub close_other : (t : List Transfer) (id i : ℕ) → (id ≡ i → ⊥) → Kept t (close_id t id).table i
close_other t id i n =
    close_cases (λ (o : Outcome (Result ⊤ Refusal)). Kept t o.table i) t id (kept t i)
    (λ k e. record { key = find_remove_other id i t n; runs = runs_remove_other id i t n; stamp = stamp_remove_other id i t n })

-- ---- a refusal

pub open_kept : (t : List Transfer) (packet : List ℕ) → open_accepted (open_packet t packet).answer ≡ false → (open_packet t packet).table ≡ t
open_kept t packet =
    open_cases (λ (o : Outcome (Result Opened Refusal)). open_accepted o.answer ≡ false → o.table ≡ t) t packet (λ r e. refl) (λ m q f e. refl)
    (λ m q f w l e. absurd (let z : ◌≡◌ {A = ℕ} 0 1 = cc in omega arith))

pub open_refused : (t : List Transfer) (packet : List ℕ) (r : Refusal) → (open_packet t packet).answer ≡ Err r → (open_packet t packet).table ≡ t
open_refused t packet r e = open_kept t packet (ap open_accepted e)

pub record_kept : (t : List Transfer) (packet : List ℕ) → record_accepted (record_packet t packet).answer ≡ false → (record_packet t packet).table ≡ t
record_kept t packet =
    record_cases (λ (o : Outcome (Result Receipt Refusal)). record_accepted o.answer ≡ false → o.table ≡ t) t packet (λ r e. refl)
    (λ d k q f j l e. absurd (let z : ◌≡◌ {A = ℕ} 0 1 = cc in omega arith))

pub record_refused : (t : List Transfer) (packet : List ℕ) (r : Refusal) → (record_packet t packet).answer ≡ Err r
    → (record_packet t packet).table ≡ t
record_refused t packet r e = record_kept t packet (ap record_accepted e)

pub close_refused : (t : List Transfer) (id : ℕ) (r : Refusal) → (close_id t id).answer ≡ Err r → (close_id t id).table ≡ t
close_refused t id r =
    close_cases (λ (o : Outcome (Result ⊤ Refusal)). o.answer ≡ Err r → o.table ≡ t) t id (λ e. refl)
    (λ k q e. absurd (let z : ◌≡◌ {A = ℕ} 0 1 = cc in omega arith))
