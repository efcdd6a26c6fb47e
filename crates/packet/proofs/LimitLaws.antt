-- R9: when each refusal is given, for a packet of any type: 4 of plain reading. Assumes nothing.
use Prim.Native.Nat.{ℕ, zero, suc}
use mathlib.Core.Path.{◌≡◌, refl, ap}
use mathlib.Core.Bool.{Bool, true, false, cond}
use mathlib.Core.List.{List}
use mathlib.Core.Logic.{◌↔◌}
use native.Mathlib.Omega.{arith}
use lib.Dec.{eqb}
use borrow.Author.Tests.{eqb-true, eqb-false, ne_eqb}
use Rattle.refusals.specs.Refusals.{refusal_of, answered}
use Rattle.refusals.specs.declared.Refusal.{Refusal}
use Rattle.header.specs.FirstWord.{type_of}
use Rattle.header.specs.Start.{word_of, start_refusal, type_refusal}
use Rattle.header.proofs.StartLaws.{StartFine}
use Rattle.header.proofs.LimitLaws as header
use Rattle.packet_beacon.specs.Beacon.{read_beacon}
use Rattle.packet_beacon.proofs.LimitLaws as beacon
use Rattle.packet_metadata.specs.Metadata.{read_metadata}
use Rattle.packet_metadata.proofs.LimitLaws as metadata
use Rattle.packet_data.specs.Data.{read_data}
use Rattle.packet_data.proofs.LimitLaws as data-packet
use Rattle.packet_status.specs.Status.{read_status}
use Rattle.packet_status.specs.declared.Status.{Status}
use Rattle.packet_status.specs.declared.Status.TheVariants as status_read
use Rattle.packet_status.proofs.LimitLaws as status
use Rattle.packet.specs.Read.{of_beacon, of_metadata, of_data, of_status, read_type, read_packet}
use Rattle.std.specs.Prelude.{Result, Ok, Err}
use Rattle.packet_metadata.specs.declared.Metadata.{Metadata}
use Rattle.packet_beacon.specs.declared.Beacon.{Beacon}
use Rattle.packet_data.specs.declared.Data.{Data}

-- what is refused is what the reader of the type refused
beacon_refused_lem : (a : Result Beacon Refusal) (r : Refusal) → of_beacon a ≡ Err r → a ≡ Err r
beacon_refused_lem (Ok b) r e = absurd (let z : ◌≡◌ {A = ℕ} 0 1 = cc in omega arith)
beacon_refused_lem (Err q) r e = cc

metadata_refused : (a : Result Metadata Refusal) (r : Refusal) → of_metadata a ≡ Err r → a ≡ Err r
metadata_refused (Ok m) r e = absurd (let z : ◌≡◌ {A = ℕ} 0 1 = cc in omega arith)
metadata_refused (Err q) r e = cc

data_refused_lem : (a : Result Data Refusal) (r : Refusal) → of_data a ≡ Err r → a ≡ Err r
data_refused_lem (Ok d) r e = absurd (let z : ◌≡◌ {A = ℕ} 0 1 = cc in omega arith)
data_refused_lem (Err q) r e = cc

status_refused : (a : Result Status Refusal) (r : Refusal) → of_status a ≡ Err r → a ≡ Err r
status_refused (Ok (status_read.Success x)) r e = absurd (let z : ◌≡◌ {A = ℕ} 0 1 = cc in omega arith)
status_refused (Ok (status_read.Failure x)) r e = absurd (let z : ◌≡◌ {A = ℕ} 0 1 = cc in omega arith)
status_refused (Err q) r e = cc

module _ (s : List ℕ) where
  abbrev type : ℕ
  type = type_of (word_of s)

  -- R9.4: the type is none of the four
  pub record NoType : Type 0 where
    pub not_beacon : type ≡ 0 → ⊥
    pub not_metadata : type ≡ 2 → ⊥
    pub not_data : type ≡ 3 → ⊥
    pub not_status : type ≡ 4 → ⊥

  -- the reader of the type t gives 4 for the other types alone
  own_type : (t : ℕ) → type_refusal t s ≡ 4 → type ≡ t → ⊥
  own_type t e = ((header.four_iff t s).0 e).1

  by_type : (v x y z : Bool) → eqb type 0 ≡ v → eqb type 2 ≡ x → eqb type 3 ≡ y → eqb type 4 ≡ z
      → cond v (of_beacon (read_beacon s)) (cond x (of_metadata (read_metadata s)) (cond y (of_data (read_data s)) (cond z (of_status (read_status s)) (Err (refusal_of 4))))) ≡ Err (refusal_of 4)
      → NoType
  by_type true x y z a b c d e =
      absurd (own_type 0 ((beacon.start_iff s 4 (omega arith) (omega arith)).0 ((beacon.read_refused_iff s 3).0 (beacon_refused_lem (read_beacon s) (refusal_of 4) e))) (eqb-true type 0 a))
  by_type false true y z a b c d e =
      absurd (own_type 2 ((metadata.start_iff s 4 (omega arith) (omega arith)).0 ((metadata.read_refused_iff s 3).0 (metadata_refused (read_metadata s) (refusal_of 4) e))) (eqb-true type 2 b))
  by_type false false true z a b c d e =
      absurd (own_type 3 ((data-packet.start_iff s 4 (omega arith) (omega arith)).0 ((data-packet.read_refused_iff s 3).0 (data_refused_lem (read_data s) (refusal_of 4) e))) (eqb-true type 3 c))
  by_type false false false true a b c d e =
      absurd (own_type 4 ((status.start_iff s 4 (omega arith) (omega arith)).0 ((status.read_refused_iff s 3).0 (status_refused (read_status s) (refusal_of 4) e))) (eqb-true type 4 d))
  by_type false false false false a b c d e =
      record { not_beacon = eqb-false type 0 a; not_metadata = eqb-false type 2 b; not_data = eqb-false type 3 c; not_status = eqb-false type 4 d }

  by_start : (n : ℕ) → start_refusal s ≡ n → answered Err n (read_type type s) ≡ Err (refusal_of 4) → StartFine s × NoType
  unfolding read_type
  by_start zero q e = ((header.start_none_iff s).0 q, by_type (eqb type 0) (eqb type 2) (eqb type 3) (eqb type 4) refl refl refl refl e)
  by_start (suc n) q e = absurd (let r : refusal_of (suc n) ≡ refusal_of 4 = cc in omega (arith, header.start_le s, ap (λ (x : Refusal). x.number) r))

  -- 4: what it begins with is there and as it should be, and the type is none that is read
  pub four_iff : (read_packet s ≡ Err (refusal_of 4)) ↔ (StartFine s × NoType)
  unfolding read_packet read_type
  four_iff = (
    by_start (start_refusal s) refl,
    (λ p. rw (
      (header.start_none_iff s).1 p.0,
      ne_eqb type 0 p.1.not_beacon,
      ne_eqb type 2 p.1.not_metadata,
      ne_eqb type 3 p.1.not_data,
      ne_eqb type 4 p.1.not_status,
    )),
  )
