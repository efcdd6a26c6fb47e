-- R2.13, R3.8: BEACON, read: which packets are refused, and the fields of the others.
-- Assumes nothing.
use Rattle.std.specs.Prelude.{ℕ, ◌+◌, ◌-◌, List, length, drop, Result, Ok, Err}
use Rattle.refusals.specs.Refusals.{◌▹◌, answered}
use Rattle.header.specs.FirstWord.{flags_of}
use Rattle.header.specs.Start.{word_of, type_refusal}
use Rattle.header.specs.Descriptor.{descriptor_at, descriptor_refusal}
use Rattle.beacon_flags.specs.Flags.{largest_width, bundles_of, streams_of, sending_pair, receiving_pair, free_octets, willingness_of, flags_refusal}
use Rattle.packet_beacon.specs.declared.Beacon.{Beacon}
use Rattle.refusals.specs.declared.Refusal.{Refusal}

-- R2.13: where the endpoint begins: after the word and the free space
abbrev pub endpoint_at : ℕ → ℕ
endpoint_at w = 4 + free_octets w

-- R2.13: the free space, in multiples of 1,024 octets; 0 where it is not given
abbrev pub free_space : List ℕ → ℕ
free_space s = descriptor_at (free_octets (word_of s)) 4 s

abbrev pub endpoint_of : List ℕ → List ℕ
endpoint_of s = drop (endpoint_at (word_of s)) s

-- R3.1, R3.8: 2, 1, 3, 4, 26, then 1 and 5 for the free space. Of one of no octets nothing is refused
unfoldable pub beacon_refusal : List ℕ → ℕ
beacon_refusal s =
    type_refusal 0 s
    ▹ flags_refusal (word_of s)
    ▹ descriptor_refusal (free_octets (word_of s)) 4 s

unfoldable pub beacon_of : List ℕ → Beacon
beacon_of s =
    let w = word_of s in
    record {
      flags = flags_of w;
      largest = largest_width w;
      bundles = bundles_of w;
      streams = streams_of w;
      send = willingness_of (sending_pair w);
      receive = willingness_of (receiving_pair w);
      width = free_octets w;
      free = free_space s;
      start = endpoint_at w;
      length = length s - endpoint_at w;
    }

-- R1.4: the fields, or the refusal
unfoldable pub read_beacon : List ℕ → Result Beacon Refusal
read_beacon s = answered Err (beacon_refusal s) (Ok (beacon_of s))
