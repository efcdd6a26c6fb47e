-- What is known of METADATA fields that are not refused, and four parts put one after the other. Assumes nothing.
use Prim.Native.Nat.{ℕ, ◌+◌, ◌^◌, ◌<◌, ◌≤◌}
use mathlib.Core.Path.{◌≡◌, refl}
use mathlib.Core.Bool.{not}
use mathlib.Core.List.{List, ◌++◌, append_assoc}
use native.Mathlib.Omega.{arith}
use lib.ListN.{length, length-append}
use lib.Dec.{ltb}
use borrow.Author.Tests.{ltb-true, ltb-false, not-false}
use Rattle.octets.specs.Numbers.{be_digits}
use Rattle.octets.specs.Put.{put}
use Rattle.octets.proofs.PutLaws.{put_next}
use Rattle.refusals.specs.Refusals.{when}
use Rattle.header.specs.FirstWord.{descriptor_octets, word_for}
use Rattle.header.specs.Start.{file_refusal}
use Rattle.refusals.proofs.RefusalLaws.{first_none, rest_none, failed}
use Rattle.refusals.proofs.WritingLaws.{room_fine}
use Rattle.directory_entry.specs.WriteEntry.{entry_excess, entry_write_refusal, entry_octets, entry_size}
use Rattle.directory_entry.proofs.EntryLaws.{length_entry}
use Rattle.packet_metadata.specs.Checksum.{pair_refusal, checksum_octets}
use Rattle.packet_metadata.specs.WriteMetadata.{metadata_excess, checksum_refusal, metadata_size, metadata_write_refusal, metadata_octets, MetadataFits}

record ExcessFine (flags id checksum : ℕ) : Type 0 where
  flags_fit : flags < 2 ^ 24
  id_fits : id < 2 ^ 32
  checksum_le : checksum ≤ checksum_octets flags

excess_fine : (flags id checksum : ℕ) → metadata_excess flags id checksum ≡ 0 → ExcessFine flags id checksum
unfolding metadata_excess
excess_fine flags id checksum e =
    let r1 = rest_none (when (not (ltb flags (2 ^ 24))) 21) _ e in
    let r2 = rest_none (when (not (ltb id (2 ^ 32))) 21) _ r1 in
    record {
      flags_fit = ltb-true _ _ (not-false _ (failed _ 20 (first_none _ _ e)));
      id_fits = ltb-true _ _ (not-false _ (failed _ 20 (first_none _ _ r1)));
      checksum_le = ltb-false _ _ (failed _ 20 r2);
    }

record ChecksumFine (flags checksum : ℕ) : Type 0 where
  file : file_refusal flags ≡ 0
  pair : pair_refusal flags ≡ 0
  checksum_ge : checksum_octets flags ≤ checksum

checksum_fine : (flags checksum : ℕ) → checksum_refusal flags checksum ≡ 0 → ChecksumFine flags checksum
unfolding checksum_refusal
checksum_fine flags checksum e =
    let r1 = rest_none (file_refusal flags) _ e in
    record {
      file = first_none _ _ e;
      pair = first_none _ _ r1;
      checksum_ge = ltb-false _ _ (failed _ 0 (rest_none (pair_refusal flags) _ r1));
    }

module _ (flags id : ℕ) (checksum : List ℕ) (properties size mtime ctime : ℕ) (path : List ℕ) (room : ℕ) where
  pub record WriteFine : Type 0 where
    pub fits : MetadataFits flags (length checksum) properties (length path) room
    pub id_fits : id < 2 ^ 32
    pub excess : entry_excess properties size mtime ctime ≡ 0
    pub file : file_refusal flags ≡ 0
    pub pair : pair_refusal flags ≡ 0
    pub entry : entry_write_refusal (descriptor_octets flags) properties size path ≡ 0
    pub short : metadata_size flags properties (length path) ≤ 65535

  pub write_fine : metadata_write_refusal flags id checksum properties size mtime ctime path room ≡ 0 → WriteFine
  unfolding metadata_write_refusal
  write_fine e =
      let r1 = rest_none (metadata_excess flags id (length checksum)) _ e in
      let r2 = rest_none (entry_excess properties size mtime ctime) _ r1 in
      let r3 = rest_none (checksum_refusal flags (length checksum)) _ r2 in
      let r4 = rest_none (entry_write_refusal (descriptor_octets flags) properties size path) _ r3 in
      let x = excess_fine flags id (length checksum) (first_none _ _ e) in
      let k = checksum_fine flags (length checksum) (first_none _ _ r2) in
      let r = room_fine (metadata_size flags properties (length path)) room r4 in
      record {
        fits = record {
          flags_fit = x.flags_fit;
          checksum_is = omega (arith, x.checksum_le, k.checksum_ge);
          fits = r.fits;
        };
        id_fits = x.id_fits;
        excess = first_none _ _ r1;
        file = k.file;
        pair = k.pair;
        entry = first_none _ _ r3;
        short = r.short;
      }

  pub write_fits : metadata_write_refusal flags id checksum properties size mtime ctime path room ≡ 0 → MetadataFits flags (length checksum) properties (length path) room
  write_fits e = (write_fine e).fits

pub length_metadata : (flags id : ℕ) (checksum : List ℕ) (properties size mtime ctime : ℕ) (path : List ℕ)
    → length (metadata_octets flags id checksum properties size mtime ctime path) ≡ 8 + length checksum + entry_size properties (length path)
unfolding metadata_octets
length_metadata flags id checksum properties size mtime ctime path = simp (length-append, length_entry) (omega arith)

-- four parts, put one after the other
pub puts : (a b c d old : List ℕ) (k l m : ℕ) → length a ≡ k → k + length b ≡ l → l + length c ≡ m → m + length d ≤ length old
    → put m d (put l c (put k b (put 0 a old))) ≡ put 0 (a ++ (b ++ (c ++ d))) old
puts a b c d old k l m hk hl hm h =
    let el : 0 + length (a ++ b) ≡ l = rw length-append (omega arith) in
    let em : 0 + length (a ++ b ++ c) ≡ m = rw length-append (omega arith) in
    rw (
      put_next 0 k a b old (omega arith) (omega arith),
      put_next 0 l (a ++ b) c old el (omega arith),
      put_next 0 m (a ++ b ++ c) d old em h,
    )
    (simp append_assoc)

-- the parts of a packet, put one after the other
pub metadata_put : (flags id : ℕ) (checksum : List ℕ) (properties size mtime ctime : ℕ) (path old : List ℕ)
    → MetadataFits flags (length checksum) properties (length path) (length old)
    → put (8 + length checksum) (entry_octets properties size mtime ctime path) (put 8 checksum (put 4 (be_digits 4 id) (put 0 (be_digits 4 (word_for 2 flags)) old)))
    ≡ put 0 (metadata_octets flags id checksum properties size mtime ctime path) old
unfolding metadata_octets
metadata_put flags id checksum properties size mtime ctime path old f =
    puts (be_digits 4 (word_for 2 flags)) (be_digits 4 id) checksum (entry_octets properties size mtime ctime path) old 4 8 (8 + length checksum)
    refl refl refl (rw length_entry (omega (arith, f.checksum_is, f.fits)))
