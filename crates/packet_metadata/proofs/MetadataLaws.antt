-- What is known of METADATA that is not refused, and the answer where it is. Assumes nothing.
use Prim.Native.Nat.{ℕ, zero, suc, ◌≤◌}
use mathlib.Core.Path.{◌≡◌, refl}
use mathlib.Core.List.{List}
use native.Mathlib.Omega.{arith}
use lib.ListN.{length, drop}
use lib.Dec.{ltb}
use borrow.Author.Tests.{ltb-false}
use Rattle.refusals.specs.Refusals.{when, answered}
use Rattle.header.specs.FirstWord.{descriptor_octets}
use Rattle.header.specs.Start.{word_of, type_refusal, file_refusal}
use Rattle.refusals.proofs.RefusalLaws.{first_none, rest_none, failed}
use Rattle.header.proofs.StartLaws.{TypeFine, type_fine}
use Rattle.directory_entry.specs.Entry.{entry_refusal}
use Rattle.packet_metadata.specs.Checksum.{pair_refusal}
use Rattle.packet_metadata.specs.Metadata.{entry_at, metadata_refusal, metadata_of, read_metadata}
use Rattle.packet_metadata.specs.declared.Metadata.{Metadata}
use Rattle.std.specs.Prelude.{Ok, Err}

pub record MetadataFine (s : List ℕ) : Type 0 where
  pub start : TypeFine 2 s
  pub file : file_refusal (word_of s) ≡ 0
  pub pair : pair_refusal (word_of s) ≡ 0
  pub room : entry_at (word_of s) ≤ length s
  pub entry : entry_refusal (descriptor_octets (word_of s)) (drop (entry_at (word_of s)) s) ≡ 0

pub metadata_fine : (s : List ℕ) → metadata_refusal s ≡ 0 → MetadataFine s
unfolding metadata_refusal
metadata_fine s e =
    let w = word_of s in
    let r1 = rest_none (type_refusal 2 s) _ e in
    let r2 = rest_none (file_refusal w) _ r1 in
    let r3 = rest_none (pair_refusal w) _ r2 in
    record {
      start = type_fine 2 s (first_none _ _ e);
      file = first_none _ _ r1;
      pair = first_none _ _ r2;
      room = ltb-false _ _ (failed (ltb (length s) (entry_at w)) 0 (first_none _ _ r3));
      entry = rest_none (when (ltb (length s) (entry_at w)) 1) _ r3;
    }

-- the Id is there, then the checksum, and then an entry that is not refused
pub metadata_long : (s : List ℕ) → metadata_refusal s ≡ 0 → 8 ≤ length s
metadata_long s e = (metadata_fine s e).start.long

pub metadata_room : (s : List ℕ) → metadata_refusal s ≡ 0 → entry_at (word_of s) ≤ length s
metadata_room s e = (metadata_fine s e).room

pub metadata_entry : (s : List ℕ) → metadata_refusal s ≡ 0 → entry_refusal (descriptor_octets (word_of s)) (drop (entry_at (word_of s)) s) ≡ 0
metadata_entry s e = (metadata_fine s e).entry

-- an accepted read was not refused, and its fields are those of the definition
pub metadata_given : (s : List ℕ) (m : Metadata) → read_metadata s ≡ Ok m → (metadata_refusal s ≡ 0) × (metadata_of s ≡ m)
unfolding read_metadata
metadata_given s m e = go (metadata_refusal s) e
  where
    go : (n : ℕ) → answered Err n (Ok (metadata_of s)) ≡ Ok m → (n ≡ 0) × (metadata_of s ≡ m)
    go zero q = (refl, cc)
    go (suc n) q = absurd (let z : ◌≡◌ {A = ℕ} 0 1 = cc in omega arith)
