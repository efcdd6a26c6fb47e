-- Reading METADATA that was written gives the same fields, and writing METADATA that was read the same octets. Assumes nothing.
use Prim.Native.Nat.{ℕ, ◌+◌, ◌^◌, ◌<◌, ◌≤◌}
use mathlib.Core.Path.{◌≡◌, refl, sym, ap, ◌∙◌}
use mathlib.Core.List.{List, ◌++◌}
use native.Mathlib.Omega.{arith}
use lib.ListN.{length, take, drop, length-drop, take-append-drop}
use lib.Seq.{take_at, drop_at, drop-drop, length-take-le}
use borrow.Author.Tests.{lt-ltb, le-ltb}
use Rattle.octets.specs.Numbers.{be_digits, Octets}
use Rattle.octets.specs.Put.{put}
use Rattle.octets.proofs.PutLaws.{refold}
use Rattle.octets.proofs.NumberLaws.{value_digits, part_digits, part_lt, octets_drop}
use Rattle.header.specs.FirstWord.{mark_of, type_of, flags_of, descriptor_octets, word_for}
use Rattle.header.specs.Start.{word_of, id_of, file_refusal}
use Rattle.refusals.specs.Writing.{room_refusal}
use Rattle.header.proofs.StartLaws.{type_known, type_none}
use Rattle.header.proofs.FirstWordLaws.{mark_for, type_for, flags_for, octets_for, file_for, octets_flags, file_flags, flags_lt, word_again}
use Rattle.entry_parts.specs.Properties.{path_at}
use Rattle.directory_entry.specs.Entry.{properties_of, entry_of}
use Rattle.directory_entry.specs.WriteEntry.{entry_octets}
use Rattle.directory_entry.proofs.RoundTrip.{entry_taken, entry_read_written, path_written, path_part, entry_written_read, entry_fits, entry_writable}
use Rattle.packet_metadata.specs.Checksum.{pair_refusal, checksum_octets}
use Rattle.packet_metadata.specs.Metadata.{entry_at, metadata_refusal, metadata_of, read_metadata}
use Rattle.packet_metadata.specs.WriteMetadata.{metadata_excess, checksum_refusal, metadata_size, metadata_write_refusal, metadata_octets, metadata_written, metadata_buffer}
use Rattle.packet_metadata.specs.declared.Metadata.{Metadata}
use Rattle.packet_metadata.proofs.ChecksumLaws.{checksum_for, pair_for, checksum_flags, pair_flags}
use Rattle.packet_metadata.proofs.MetadataLaws.{MetadataFine, metadata_fine}
use Rattle.packet_metadata.proofs.WriteLaws.{WriteFine, write_fine, length_metadata}
use Rattle.std.specs.Prelude.{Ok}

-- reading what was written; a size is handed over as a number of 64 bits
module _ (flags id : ℕ) (checksum : List ℕ) (properties size mtime ctime : ℕ) (path : List ℕ) (room : ℕ) (held : size < 2 ^ 64)
    (ok : metadata_write_refusal flags id checksum properties size mtime ctime path room ≡ 0) where
  abbrev s : List ℕ
  s = metadata_octets flags id checksum properties size mtime ctime path

  abbrev e : List ℕ
  e = entry_octets properties size mtime ctime path

  fine : WriteFine flags id checksum properties size mtime ctime path room
  fine = write_fine flags id checksum properties size mtime ctime path room ok

  small : flags < 2 ^ 24
  small = fine.fits.flags_fit

  word_is : word_of s ≡ word_for 2 flags
  unfolding metadata_octets
  word_is = value_digits 4 (word_for 2 flags) (omega (arith, small))

  id_is : id_of s ≡ id
  unfolding metadata_octets
  id_is = value_digits 4 id fine.id_fits

  pub metadata_octets_length : length s ≡ metadata_size flags properties (length path)
  metadata_octets_length = length_metadata flags id checksum properties size mtime ctime path ∙ omega (arith, fine.fits)

  pub checksum_read_written : take (length checksum) (drop 8 s) ≡ checksum
  unfolding metadata_octets
  checksum_read_written = take_at checksum e (length checksum) refl

  entry_is : drop (entry_at flags) s ≡ e
  unfolding metadata_octets
  entry_is = sym (drop-drop (checksum_octets flags) 8 s) ∙ drop_at checksum e (checksum_octets flags) fine.fits.checksum_is

  pub path_read_written : take (length path) (drop (entry_at flags + path_at properties) s) ≡ path
  path_read_written = rw (← drop-drop (path_at properties) (entry_at flags) s, entry_is) (path_written (descriptor_octets flags) properties size mtime ctime path held fine.excess fine.entry)

  taken : metadata_refusal s ≡ 0
  unfolding metadata_refusal
  taken =
      let n = metadata_size flags properties (length path) in
      let mark : mark_of (word_of s) ≡ 1 = rw word_is (mark_for 2 flags (omega arith) small) in
      let ptype : type_of (word_of s) ≡ 2 = rw word_is (type_for 2 flags (omega arith) small) in
      let long = metadata_octets_length in
      rw (
        type_none 2 s (type_known 2 s (omega (arith, fine.short)) mark ptype (omega arith)),
        word_is,
        metadata_octets_length,
        checksum_for 2 flags small,
        octets_for 2 flags (omega arith) small,
        entry_is,
        file_for 2 flags (omega arith) small,
        fine.file,
        pair_for 2 flags small,
        fine.pair,
        le-ltb n (entry_at flags) (omega arith),
      )
      (entry_taken (descriptor_octets flags) properties size mtime ctime path held fine.excess fine.entry)

  pub metadata_read_written : read_metadata s
      ≡ Ok
      (record {
        flags = flags;
        id = id;
        width = descriptor_octets flags;
        checksum = length checksum;
        entry = record {
          properties = properties;
          size = size;
          mtime = mtime;
          ctime = ctime;
          path = entry_at flags + path_at properties;
          length = length path;
        };
      })
  unfolding read_metadata metadata_of
  metadata_read_written =
      simp (
        taken,
        word_is,
        id_is,
        flags_for 2 flags (omega arith) small,
        octets_for 2 flags (omega arith) small,
        checksum_for 2 flags small,
        entry_is,
        entry_read_written (descriptor_octets flags) properties size mtime ctime path held fine.excess fine.entry (entry_at flags),
        fine.fits.checksum_is,
      )

-- the parts of a list, joined again
join : (s a b c : List ℕ) (n : ℕ) → a ≡ take 4 s → b ≡ take 4 (drop 4 s) → c ≡ drop (8 + n) s → a ++ (b ++ (take n (drop 8 s) ++ c)) ≡ s
join s a b c n ea eb ec = rw (ea, eb, ec, refold s 8 n (8 + n) refl, refold s 4 4 8 refl) (take-append-drop 4 s)

-- writing what was read
module _ (s : List ℕ) (o : Octets s) (ok : metadata_refusal s ≡ 0) where
  abbrev w : ℕ
  w = word_of s

  abbrev m : Metadata
  m = metadata_of s

  -- the octets of checksum and path
  abbrev pub checksum_part : List ℕ
  checksum_part = take m.checksum (drop 8 s)

  abbrev pub path_octets : List ℕ
  path_octets = take m.entry.length (drop m.entry.path s)

  abbrev rest : List ℕ
  rest = drop (entry_at w) s

  known : MetadataFine s
  known = metadata_fine s ok

  -- the fields are those that reading gives
  pub metadata_accepted : read_metadata s ≡ Ok m
  unfolding read_metadata
  metadata_accepted = rw ok

  rest_octets : Octets rest
  rest_octets = octets_drop (entry_at w) s o

  path_is : path_octets ≡ path_part (descriptor_octets w) (entry_at w) rest rest_octets known.entry
  unfolding metadata_of entry_of
  path_is = ap (take (entry_of (entry_at w) rest).length) (sym (drop-drop (path_at (properties_of rest)) (entry_at w) s))

  rest_is : entry_octets m.entry.properties m.entry.size m.entry.mtime m.entry.ctime path_octets ≡ rest
  unfolding metadata_of
  rest_is = rw path_is (entry_written_read (descriptor_octets w) (entry_at w) rest rest_octets known.entry)

  pub metadata_written_read : metadata_octets m.flags m.id checksum_part m.entry.properties m.entry.size m.entry.mtime m.entry.ctime path_octets ≡ s
  unfolding metadata_octets metadata_of
  metadata_written_read =
      let t = known.start in let l = t.long in
      join s (be_digits 4 (word_for 2 (flags_of w))) (be_digits 4 (id_of s)) _ (checksum_octets w)
      (ap (be_digits 4) (word_again w 2 (part_lt s 0 4 o (omega arith)) t.start.mark t.ptype) ∙ part_digits s 0 4 o (omega arith))
      (part_digits s 4 4 o (omega arith))
      rest_is

  checksum_is : length checksum_part ≡ checksum_octets w
  unfolding metadata_of
  checksum_is = length-take-le (checksum_octets w) (drop 8 s) (simp length-drop (omega (arith, known.room)))

  size_is : metadata_size m.flags m.entry.properties (length path_octets) ≡ length s
  unfolding metadata_of
  size_is =
      omega (
        arith,
        ap length metadata_written_read,
        length_metadata m.flags m.id checksum_part m.entry.properties m.entry.size m.entry.mtime m.entry.ctime path_octets,
        checksum_is,
        checksum_flags w,
      )

  pub metadata_writable : (room : ℕ) → length s ≤ room
      → metadata_write_refusal m.flags m.id checksum_part m.entry.properties m.entry.size m.entry.mtime m.entry.ctime path_octets room ≡ 0
  unfolding metadata_write_refusal metadata_excess checksum_refusal room_refusal metadata_of
  metadata_writable room h =
      let n = checksum_octets w in
      let f : file_refusal (flags_of w) ≡ 0 = file_flags w ∙ known.file in
      let p : pair_refusal (flags_of w) ≡ 0 = pair_flags w ∙ known.pair in
      rw (
        size_is,
        checksum_is,
        checksum_flags w,
        octets_flags w,
        lt-ltb (flags_of w) (2 ^ 24) (flags_lt w),
        lt-ltb (id_of s) (2 ^ 32) (part_lt s 4 4 o known.start.long),
        le-ltb n n (omega arith),
        entry_fits (descriptor_octets w) (entry_at w) rest rest_octets known.entry,
        f,
        p,
        path_is,
        entry_writable (descriptor_octets w) (entry_at w) rest rest_octets known.entry,
        le-ltb 65535 (length s) known.start.start.short,
        le-ltb room (length s) h,
      )

  -- so the writer gives the packet back, and leaves what follows it in the buffer
  module _ (old : List ℕ) (h : length s ≤ length old) where
    pub written_again : metadata_written m.flags m.id checksum_part m.entry.properties m.entry.size m.entry.mtime m.entry.ctime path_octets old ≡ Ok (length s)
    unfolding metadata_written
    written_again = rw (metadata_writable (length old) h) (ap Ok size_is)

    pub buffer_again : metadata_buffer m.flags m.id checksum_part m.entry.properties m.entry.size m.entry.mtime m.entry.ctime path_octets old ≡ put 0 s old
    unfolding metadata_buffer
    buffer_again = rw (metadata_writable (length old) h, metadata_written_read)
