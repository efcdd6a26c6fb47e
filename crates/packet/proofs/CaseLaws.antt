-- Reading any packet gives the case that the reader of its type gives, and each case comes from that reader alone. Assumes nothing.
use Prim.Native.Nat.{ℕ, zero, suc, ◌<◌}
use mathlib.Core.Path.{◌≡◌, refl, sym, ap, ◌∙◌}
use mathlib.Core.Bool.{Bool, true, false, cond}
use mathlib.Core.List.{List}
use native.Mathlib.Omega.{arith}
use lib.Dec.{eqb}
use Rattle.refusals.specs.Refusals.{refusal_of, answered}
use Rattle.refusals.specs.declared.Refusal.{Refusal}
use Rattle.header.specs.FirstWord.{type_of}
use Rattle.header.specs.Start.{word_of, start_refusal, type_refusal}
use Rattle.refusals.proofs.RefusalLaws.{first_none}
use Rattle.header.proofs.StartLaws.{type_fine}
use Rattle.packet_beacon.specs.Beacon.{read_beacon}
use Rattle.packet_beacon.specs.declared.Beacon.{Beacon}
use Rattle.packet_metadata.specs.Metadata.{read_metadata}
use Rattle.packet_metadata.specs.declared.Metadata.{Metadata}
use Rattle.packet_data.specs.Data.{data_refusal, data_of, read_data}
use Rattle.packet_data.specs.declared.Data.{Data}
use Rattle.packet_data.proofs.DataLaws.{data_accepted}
use Rattle.packet_status.specs.declared.Status.{Status}
use Rattle.packet_status.specs.declared.Status.TheVariants as status_read
use Rattle.packet_status.specs.Status.{read_status}
use Rattle.packet.specs.Read.{of_beacon, of_metadata, of_data, of_status, read_type, read_packet}
use Rattle.packet.specs.declared.Packet.{Packet}
use Rattle.packet.specs.declared.Packet.TheVariants as read
use Rattle.packet.proofs.ReadLaws.{read_by_type}
use Rattle.std.specs.Prelude.{Result, Ok, Err}

-- a packet of type t whose first refusals are none is read as one of that type
pub read_typed : (t : ℕ) (s : List ℕ) → type_refusal t s ≡ 0 → read_packet s ≡ read_type t s
unfolding type_refusal
read_typed t s e =
    sym (read_by_type s (first_none _ _ e) (ap (λ (n : ℕ). read_type n s) (sym (type_fine t s e).ptype)))

-- DATA that is not refused is read as DATA, with its fields
pub data_taken : (s : List ℕ) → data_refusal s ≡ 0 → read_packet s ≡ Ok (read.Data (data_of s))
unfolding read_type data_refusal
data_taken s e = read_typed 3 s (first_none _ _ e) ∙ ap of_data (data_accepted s e)

-- where the answer comes from: one of the four readers, or a refusal before them
data ReadFrom (s : List ℕ) : Type 0 where
  from_beacon : read_packet s ≡ of_beacon (read_beacon s) → ReadFrom s
  from_metadata : read_packet s ≡ of_metadata (read_metadata s) → ReadFrom s
  from_data : read_packet s ≡ of_data (read_data s) → ReadFrom s
  from_status : read_packet s ≡ of_status (read_status s) → ReadFrom s
  from_none : (r : Refusal) → read_packet s ≡ Err r → ReadFrom s

read_from : (s : List ℕ) → ReadFrom s
unfolding read_packet read_type
read_from s = go (start_refusal s) refl
  where
    pick : (v x y z : Bool)
        → read_packet s ≡ cond v (of_beacon (read_beacon s)) (cond x (of_metadata (read_metadata s)) (cond y (of_data (read_data s)) (cond z (of_status (read_status s)) (Err (refusal_of 4)))))
        → ReadFrom s
    pick true x y z e = from_beacon e
    pick false true y z e = from_metadata e
    pick false false true z e = from_data e
    pick false false false true e = from_status e
    pick false false false false e = from_none (refusal_of 4) e

    go : (n : ℕ) → read_packet s ≡ answered Err n (read_type (type_of (word_of s)) s) → ReadFrom s
    go zero e = let t = type_of (word_of s) in pick (eqb t 0) (eqb t 2) (eqb t 3) (eqb t 4) e
    go (suc n) e = from_none (refusal_of (suc n)) e

-- each case of the answer, by a number that tells it from the others
abbrev case_of : Result Packet Refusal → ℕ
case_of (Ok (read.Beacon b)) = 1
case_of (Ok (read.Metadata m)) = 2
case_of (Ok (read.Data d)) = 3
case_of (Ok (read.Success s)) = 4
case_of (Ok (read.Failure f)) = 5
case_of (Err r) = 0

-- a reader gives its own cases, or the refused one, and no other
beacon_case : (a : Result Beacon Refusal) (n : ℕ) → 1 < n → case_of (of_beacon a) ≡ n → ⊥
beacon_case (Ok b) n h e = omega arith
beacon_case (Err r) n h e = omega arith

metadata_case : (a : Result Metadata Refusal) (n : ℕ) → 0 < n → (n ≡ 2 → ⊥) → case_of (of_metadata a) ≡ n → ⊥
metadata_case (Ok m) n h k e = k (omega arith)
metadata_case (Err r) n h k e = omega arith

data_case : (a : Result Data Refusal) (n : ℕ) → 0 < n → n < 3 → case_of (of_data a) ≡ n → ⊥
data_case (Ok d) n h k e = omega arith
data_case (Err r) n h k e = omega arith

status_case : (a : Result Status Refusal) (n : ℕ) → 0 < n → n < 4 → case_of (of_status a) ≡ n → ⊥
status_case (Ok (status_read.Success x)) n h k e = omega arith
status_case (Ok (status_read.Failure x)) n h k e = omega arith
status_case (Err r) n h k e = omega arith

-- BEACON, METADATA and DATA come from their own readers alone
pub packet_beacon : (s : List ℕ) (b : Beacon) → read_packet s ≡ Ok (read.Beacon b) → read_beacon s ≡ Ok b
packet_beacon s b e = go (read_from s)
  where
    own : (a : Result Beacon Refusal) → of_beacon a ≡ Ok (read.Beacon b) → a ≡ Ok b
    own (Ok x) q = cc
    own (Err r) q = absurd (let z : ◌≡◌ {A = ℕ} 0 1 = ap case_of q in omega arith)

    go : ReadFrom s → read_beacon s ≡ Ok b
    go (from_beacon q) = own (read_beacon s) (sym q ∙ e)
    go (from_metadata q) = absurd (metadata_case (read_metadata s) 1 (omega arith) (λ z. omega arith) (ap case_of (sym q ∙ e)))
    go (from_data q) = absurd (data_case (read_data s) 1 (omega arith) (omega arith) (ap case_of (sym q ∙ e)))
    go (from_status q) = absurd (status_case (read_status s) 1 (omega arith) (omega arith) (ap case_of (sym q ∙ e)))
    go (from_none r q) = absurd (let z : ◌≡◌ {A = ℕ} 0 1 = ap case_of (sym q ∙ e) in omega arith)

pub packet_metadata : (s : List ℕ) (m : Metadata) → read_packet s ≡ Ok (read.Metadata m) → read_metadata s ≡ Ok m
packet_metadata s m e = go (read_from s)
  where
    own : (a : Result Metadata Refusal) → of_metadata a ≡ Ok (read.Metadata m) → a ≡ Ok m
    own (Ok x) q = cc
    own (Err r) q = absurd (let z : ◌≡◌ {A = ℕ} 0 2 = ap case_of q in omega arith)

    go : ReadFrom s → read_metadata s ≡ Ok m
    go (from_beacon q) = absurd (beacon_case (read_beacon s) 2 (omega arith) (ap case_of (sym q ∙ e)))
    go (from_metadata q) = own (read_metadata s) (sym q ∙ e)
    go (from_data q) = absurd (data_case (read_data s) 2 (omega arith) (omega arith) (ap case_of (sym q ∙ e)))
    go (from_status q) = absurd (status_case (read_status s) 2 (omega arith) (omega arith) (ap case_of (sym q ∙ e)))
    go (from_none r q) = absurd (let z : ◌≡◌ {A = ℕ} 0 2 = ap case_of (sym q ∙ e) in omega arith)

pub packet_data : (s : List ℕ) (d : Data) → read_packet s ≡ Ok (read.Data d) → read_data s ≡ Ok d
packet_data s d e = go (read_from s)
  where
    own : (a : Result Data Refusal) → of_data a ≡ Ok (read.Data d) → a ≡ Ok d
    own (Ok x) q = cc
    own (Err r) q = absurd (let z : ◌≡◌ {A = ℕ} 0 3 = ap case_of q in omega arith)

    go : ReadFrom s → read_data s ≡ Ok d
    go (from_beacon q) = absurd (beacon_case (read_beacon s) 3 (omega arith) (ap case_of (sym q ∙ e)))
    go (from_metadata q) = absurd (metadata_case (read_metadata s) 3 (omega arith) (λ z. omega arith) (ap case_of (sym q ∙ e)))
    go (from_data q) = own (read_data s) (sym q ∙ e)
    go (from_status q) = absurd (status_case (read_status s) 3 (omega arith) (omega arith) (ap case_of (sym q ∙ e)))
    go (from_none r q) = absurd (let z : ◌≡◌ {A = ℕ} 0 3 = ap case_of (sym q ∙ e) in omega arith)
