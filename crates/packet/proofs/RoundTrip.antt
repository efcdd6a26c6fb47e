-- R4.8, R4.9: what was written reads back, and what was read writes back, in the terms of the public operations, for every octet list and every list of fields.
-- Assumes nothing.
use Prim.Native.Nat.{ℕ, ◌+◌, ◌^◌, ◌<◌, ◌≤◌}
use mathlib.Core.Path.{◌≡◌, ap, ◌∙◌}
use mathlib.Core.List.{List}
use lib.ListN.{length, take, drop}
use Rattle.octets.specs.Numbers.{Octets}
use Rattle.octets.specs.Put.{put}
use Rattle.octets.proofs.PutLaws.{take_put}
use Rattle.header.specs.FirstWord.{descriptor_octets, timestamp_octets, wanted_of, eod_of}
use Rattle.refusals.proofs.RefusalLaws.{first_none}
use Rattle.refusals.proofs.WritingLaws.{written_size}
use Rattle.entry_parts.specs.Properties.{path_at}
use Rattle.beacon_flags.specs.Flags.{bundles_of, streams_of, sending_pair, receiving_pair, free_octets, willingness_of}
use Rattle.packet_beacon.specs.Beacon.{endpoint_at, beacon_refusal, beacon_of}
use Rattle.beacon_writer.specs.WriteBeacon.{beacon_refused, beacon_octets, beacon_written, beacon_buffer}
use Rattle.packet_beacon.specs.declared.Beacon.{Beacon}
use Rattle.packet_beacon.proofs.BeaconLaws.{beacon_given}
use Rattle.beacon_writer.proofs.RoundTrip as beacon-trip
use Rattle.packet_metadata.specs.Metadata.{entry_at, metadata_refusal, metadata_of}
use Rattle.packet_metadata.specs.WriteMetadata.{metadata_size, metadata_write_refusal, metadata_octets, metadata_written, metadata_buffer}
use Rattle.packet_metadata.specs.declared.Metadata.{Metadata}
use Rattle.packet_metadata.proofs.MetadataLaws.{metadata_given}
use Rattle.packet_metadata.proofs.RoundTrip as metadata
use Rattle.packet_data.specs.Data.{payload_at, data_refusal, data_of, payload_of}
use Rattle.packet_data.specs.WriteData.{data_refused, data_octets, data_written, data_buffer}
use Rattle.packet_data.specs.declared.Data.{Data}
use Rattle.packet_data.proofs.DataLaws.{data_given}
use Rattle.packet_data.proofs.RoundTrip as data-trip
use Rattle.failure_status.specs.WriteFailure.{failure_write_refusal, failure_octets, failure_written, failure_buffer}
use Rattle.failure_status.proofs.RoundTrip as status
use Rattle.packet.specs.Read.{of_beacon, of_metadata, of_status, read_type, read_packet}
use Rattle.packet.specs.declared.Packet.TheVariants as read
use Rattle.packet.proofs.CaseLaws.{read_typed, data_taken, packet_beacon, packet_metadata, packet_data}
use Rattle.std.specs.Prelude.{Ok}

-- BEACON, written and read; a free space is handed over as a number of 64 bits
module _ (flags free : ℕ) (endpoint old : List ℕ) (n : ℕ) (held : free < 2 ^ 64) (ok : beacon_written flags free endpoint old ≡ Ok n) where
  taken : (beacon_refused flags free endpoint old ≡ 0) × (endpoint_at flags + length endpoint ≡ n)
  unfolding beacon_written
  taken = written_size _ _ n ok

  pub beacon_packet_written : take n (beacon_buffer flags free endpoint old) ≡ beacon_octets flags free endpoint
  unfolding beacon_buffer
  beacon_packet_written =
      rw taken.0
      (take_put n (beacon_octets flags free endpoint) old (beacon-trip.beacon_octets_length flags free endpoint (length old) held taken.0 ∙ taken.1))

  pub beacon_reads_back : read_packet (take n (beacon_buffer flags free endpoint old)) ≡ Ok (read.Beacon (record {
    flags = flags;
    largest = descriptor_octets flags;
    bundles = bundles_of flags;
    streams = streams_of flags;
    send = willingness_of (sending_pair flags);
    receive = willingness_of (receiving_pair flags);
    width = free_octets flags;
    free = free;
    start = endpoint_at flags;
    length = length endpoint;
  }))
  unfolding read_type beacon_refusal
  beacon_reads_back =
      let s = beacon_octets flags free endpoint in
      let r = beacon-trip.beacon_read_written flags free endpoint (length old) held taken.0 in
      rw beacon_packet_written (read_typed 0 s (first_none _ _ (beacon_given s _ r).0) ∙ ap of_beacon r)

  pub endpoint_reads_back : drop (endpoint_at flags) (take n (beacon_buffer flags free endpoint old)) ≡ endpoint
  endpoint_reads_back = rw beacon_packet_written (beacon-trip.endpoint_read_written flags free endpoint (length old) held taken.0)

-- BEACON, read and written; the endpoint is the octets at its place
module _ (s : List ℕ) (os : Octets s) (b : Beacon) (ok : read_packet s ≡ Ok (read.Beacon b)) (old : List ℕ) (room : length s ≤ length old) where
  nought : (beacon_refusal s ≡ 0) × (beacon_of s ≡ b)
  nought = beacon_given s b (packet_beacon s b ok)

  pub beacon_writes_back :
      (beacon_written b.flags b.free (drop b.start s) old ≡ Ok (length s))
      × (beacon_buffer b.flags b.free (drop b.start s) old ≡ put 0 s old)
  unfolding beacon_of
  beacon_writes_back =
      rw (← nought.1)
      (beacon-trip.beacon_written_read s os nought.0 old room, beacon-trip.beacon_buffer_read s os nought.0 old room)

-- DATA, written and read; an offset is handed over as a number of 64 bits
module _ (flags id : ℕ) (timestamp : List ℕ) (offset : ℕ) (payload old : List ℕ) (n : ℕ) (held : offset < 2 ^ 64)
    (ok : data_written flags id timestamp offset payload old ≡ Ok n) where
  accepted : (data_refused flags id timestamp offset payload old ≡ 0) × (payload_at flags + length payload ≡ n)
  unfolding data_written
  accepted = written_size _ _ n ok

  pub data_packet_written : take n (data_buffer flags id timestamp offset payload old) ≡ data_octets flags id timestamp offset payload
  unfolding data_buffer
  data_packet_written =
      rw accepted.0
      (take_put n (data_octets flags id timestamp offset payload) old
      (data-trip.data_octets_length flags id timestamp offset payload (length old) held accepted.0 ∙ accepted.1))

  pub data_reads_back : read_packet (take n (data_buffer flags id timestamp offset payload old)) ≡ Ok (read.Data (record {
    flags = flags;
    id = id;
    width = descriptor_octets flags;
    timestamp = timestamp_octets flags;
    wanted = wanted_of flags;
    eod = eod_of flags;
    offset = offset;
    start = payload_at flags;
    length = length payload;
  }))
  data_reads_back =
      let s = data_octets flags id timestamp offset payload in
      let g = data_given s _ (data-trip.data_read_written flags id timestamp offset payload (length old) held accepted.0) in
      rw data_packet_written (data_taken s g.0 ∙ ap (λ (d : Data). Ok (read.Data d)) g.1)

  pub payload_reads_back : payload_of (take n (data_buffer flags id timestamp offset payload old)) ≡ payload
  payload_reads_back = rw data_packet_written (data-trip.payload_read_written flags id timestamp offset payload (length old) held accepted.0)

  pub timestamp_reads_back : take (timestamp_octets flags) (drop 8 (take n (data_buffer flags id timestamp offset payload old))) ≡ timestamp
  timestamp_reads_back = rw data_packet_written (data-trip.timestamp_read_written flags id timestamp offset payload (length old) held accepted.0)

-- DATA, read and written
module _ (s : List ℕ) (os : Octets s) (d : Data) (ok : read_packet s ≡ Ok (read.Data d)) (old : List ℕ) (room : length s ≤ length old) where
  none : (data_refusal s ≡ 0) × (data_of s ≡ d)
  none = data_given s d (packet_data s d ok)

  pub data_writes_back :
      (data_written d.flags d.id (take d.timestamp (drop 8 s)) d.offset (payload_of s) old ≡ Ok (length s))
      × (data_buffer d.flags d.id (take d.timestamp (drop 8 s)) d.offset (payload_of s) old ≡ put 0 s old)
  unfolding data_of payload_of
  data_writes_back =
      rw (← none.1, none.0)
      (data-trip.data_written_read s os none.0 old room, data-trip.data_buffer_read s os none.0 old room)

-- METADATA, written and read; so is a size
module _ (flags id : ℕ) (checksum : List ℕ) (properties size mtime ctime : ℕ) (path old : List ℕ) (n : ℕ) (held : size < 2 ^ 64)
    (ok : metadata_written flags id checksum properties size mtime ctime path old ≡ Ok n) where
  fine : (metadata_write_refusal flags id checksum properties size mtime ctime path (length old) ≡ 0)
      × (metadata_size flags properties (length path) ≡ n)
  unfolding metadata_written
  fine = written_size _ _ n ok

  pub metadata_packet_written : take n (metadata_buffer flags id checksum properties size mtime ctime path old)
      ≡ metadata_octets flags id checksum properties size mtime ctime path
  unfolding metadata_buffer
  metadata_packet_written =
      rw fine.0
      (take_put n (metadata_octets flags id checksum properties size mtime ctime path) old
      (metadata.metadata_octets_length flags id checksum properties size mtime ctime path (length old) held fine.0 ∙ fine.1))

  pub metadata_reads_back : read_packet (take n (metadata_buffer flags id checksum properties size mtime ctime path old)) ≡ Ok (read.Metadata (record {
    flags = flags;
    id = id;
    width = descriptor_octets flags;
    checksum = length checksum;
    entry = record
        { properties = properties; size = size; mtime = mtime; ctime = ctime; path = entry_at flags + path_at properties; length = length path };
  }))
  unfolding read_type metadata_refusal
  metadata_reads_back =
      let s = metadata_octets flags id checksum properties size mtime ctime path in
      let r = metadata.metadata_read_written flags id checksum properties size mtime ctime path (length old) held fine.0 in
      rw metadata_packet_written
      (read_typed 2 s (first_none _ _ (metadata_given s _ r).0) ∙ ap of_metadata r)

  pub checksum_reads_back : take (length checksum) (drop 8 (take n (metadata_buffer flags id checksum properties size mtime ctime path old))) ≡ checksum
  checksum_reads_back =
      rw metadata_packet_written (metadata.checksum_read_written flags id checksum properties size mtime ctime path (length old) held fine.0)

  pub path_reads_back :
      take (length path) (drop (entry_at flags + path_at properties) (take n (metadata_buffer flags id checksum properties size mtime ctime path old))) ≡ path
  path_reads_back =
      rw metadata_packet_written (metadata.path_read_written flags id checksum properties size mtime ctime path (length old) held fine.0)

-- METADATA, read and written; checksum and path are the octets at their places
module _ (s : List ℕ) (os : Octets s) (m : Metadata) (ok : read_packet s ≡ Ok (read.Metadata m)) (old : List ℕ) (room : length s ≤ length old) where
  nothing : (metadata_refusal s ≡ 0) × (metadata_of s ≡ m)
  nothing = metadata_given s m (packet_metadata s m ok)

  abbrev checksum_read : List ℕ
  checksum_read = take m.checksum (drop 8 s)

  abbrev path_read : List ℕ
  path_read = take m.entry.length (drop m.entry.path s)

  pub metadata_writes_back :
      (metadata_written m.flags m.id checksum_read m.entry.properties m.entry.size m.entry.mtime m.entry.ctime path_read old
      ≡ Ok (length s))
      × (metadata_buffer m.flags m.id checksum_read m.entry.properties m.entry.size m.entry.mtime m.entry.ctime path_read old
      ≡ put 0 s old)
  metadata_writes_back =
      rw (← nothing.1)
      (metadata.written_again s os nothing.0 old room, metadata.buffer_again s os nothing.0 old room)

-- a failure STATUS, written and read
module _ (id code : ℕ) (old : List ℕ) (n : ℕ) (ok : failure_written id code old ≡ Ok n) where
  allowed : (failure_write_refusal id code (length old) ≡ 0) × (8 ≡ n)
  unfolding failure_written
  allowed = written_size _ _ n ok

  pub failure_reads_back : read_packet (take n (failure_buffer id code old)) ≡ Ok (read.Failure (record { flags = code; id = id; status = code }))
  unfolding read_type failure_buffer
  failure_reads_back =
      let s = failure_octets id code in
      rw (allowed.0, take_put n s old (status.failure_length id code (length old) allowed.0 ∙ allowed.1))
      (read_typed 4 s (status.failure_typed id code (length old) allowed.0)
      ∙ ap of_status (status.failure_read_written id code (length old) allowed.0))
