-- What holds of the fields of a packet, by each of its types, and of every refusal, holds of what the packet is read as. Assumes nothing.
use Prim.Native.Nat.{ℕ, zero, suc}
use mathlib.Core.Bool.{Bool, true, false, cond}
use mathlib.Core.List.{List}
use lib.Dec.{eqb}
use Rattle.refusals.specs.Refusals.{refusal_of, answered}
use Rattle.refusals.specs.declared.Refusal.{Refusal}
use Rattle.header.specs.FirstWord.{type_of, status_of}
use Rattle.header.specs.Start.{word_of, start_refusal}
use Rattle.packet_beacon.specs.Beacon.{beacon_refusal, beacon_of, read_beacon}
use Rattle.packet_metadata.specs.Metadata.{metadata_refusal, metadata_of, read_metadata}
use Rattle.packet_data.specs.Data.{data_refusal, data_of, read_data}
use Rattle.packet_status.specs.Status.{status_refusal, success_of, failure_of, accepted_status, read_status}
use Rattle.packet_status.specs.declared.Status.TheVariants as status_read
use Rattle.packet.specs.Read.{of_beacon, of_metadata, of_data, of_status, read_type, read_packet}
use Rattle.packet.specs.declared.Packet.{Packet}
use Rattle.packet.specs.declared.Packet.TheVariants as read
use Rattle.std.specs.Prelude.{Result, Ok, Err}

module _ (P : Result Packet Refusal → Type 0) (s : List ℕ)
    (beacon : P (Ok (read.Beacon (beacon_of s))))
    (metadata : P (Ok (read.Metadata (metadata_of s))))
    (file : P (Ok (read.Data (data_of s))))
    (success : P (Ok (read.Success (success_of s))))
    (failure : P (Ok (read.Failure (failure_of s))))
    (refused : (x : Refusal) → P (Err x)) where
  beacon_cases : P (of_beacon (read_beacon s))
  unfolding read_beacon
  beacon_cases = go (beacon_refusal s)
    where
      go : (n : ℕ) → P (of_beacon (answered Err n (Ok (beacon_of s))))
      go zero = beacon
      go (suc n) = refused (refusal_of (suc n))

  metadata_cases : P (of_metadata (read_metadata s))
  unfolding read_metadata
  metadata_cases = go (metadata_refusal s)
    where
      go : (n : ℕ) → P (of_metadata (answered Err n (Ok (metadata_of s))))
      go zero = metadata
      go (suc n) = refused (refusal_of (suc n))

  data_cases : P (of_data (read_data s))
  unfolding read_data
  data_cases = go (data_refusal s)
    where
      go : (n : ℕ) → P (of_data (answered Err n (Ok (data_of s))))
      go zero = file
      go (suc n) = refused (refusal_of (suc n))

  status_cases : P (of_status (read_status s))
  unfolding read_status
  status_cases = go (status_refusal s) (status_of (word_of s))
    where
      go : (n code : ℕ) → P (of_status (answered Err n (accepted_status code s)))
      go zero zero = success
      go zero (suc code) = failure
      go (suc n) code = refused (refusal_of (suc n))

  type_cases : (t : ℕ) → P (read_type t s)
  unfolding read_type
  type_cases t = go (eqb t 0) (eqb t 2) (eqb t 3) (eqb t 4)
    where
      go : (z a b c : Bool)
          → P (cond z (of_beacon (read_beacon s)) (cond a (of_metadata (read_metadata s)) (cond b (of_data (read_data s)) (cond c (of_status (read_status s)) (Err (refusal_of 4))))))
      go true a b c = beacon_cases
      go false true b c = metadata_cases
      go false false true c = data_cases
      go false false false true = status_cases
      go false false false false = refused (refusal_of 4)

  pub read_cases : P (read_packet s)
  unfolding read_packet
  read_cases = go (start_refusal s)
    where
      go : (n : ℕ) → P (answered Err n (read_type (type_of (word_of s)) s))
      go zero = type_cases (type_of (word_of s))
      go (suc n) = refused (refusal_of (suc n))
