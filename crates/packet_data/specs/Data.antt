-- R2.10, R3.4: DATA, read: which packets are refused, the fields of the others, and the payload.
-- Assumes nothing.
use Rattle.std.specs.Prelude.{ℕ, zero, suc, ◌+◌, ◌-◌, List, [], length, drop, eqb, Result, Ok, Err}
use Rattle.refusals.specs.Refusals.{◌▹◌, when, answered}
use Rattle.header.specs.FirstWord.{flags_of, descriptor_octets, timestamp_octets, wanted_of, eod_of}
use Rattle.header.specs.Start.{word_of, id_of, type_refusal, file_refusal}
use Rattle.header.specs.Descriptor.{descriptor_at, descriptor_refusal}
use Rattle.packet_data.specs.declared.Data.{Data}
use Rattle.refusals.specs.declared.Refusal.{Refusal}

-- R2.10: where the offset begins, after the timestamp, and where the payload begins
abbrev pub offset_at : ℕ → ℕ
offset_at w = 8 + timestamp_octets w

abbrev pub payload_at : ℕ → ℕ
payload_at w = offset_at w + descriptor_octets w

abbrev pub offset_of : List ℕ → ℕ
offset_of s = descriptor_at (descriptor_octets (word_of s)) (offset_at (word_of s)) s

-- R3.1, R3.4: 2, 1, 3, 4, 6, 1 for timestamp and offset, 5 for the offset, 10.
-- A packet that ends inside the timestamp ends before the offset's last octet too, so one test serves for both
unfoldable pub data_refusal : List ℕ → ℕ
data_refusal s =
    type_refusal 3 s
    ▹ file_refusal (word_of s)
    ▹ descriptor_refusal (descriptor_octets (word_of s)) (offset_at (word_of s)) s
    ▹ when (eqb (length s) (payload_at (word_of s))) 10

unfoldable pub data_of : List ℕ → Data
data_of s =
    let w = word_of s in
    record {
      flags = flags_of w;
      id = id_of s;
      width = descriptor_octets w;
      timestamp = timestamp_octets w;
      wanted = wanted_of w;
      eod = eod_of w;
      offset = offset_of s;
      start = payload_at w;
      length = length s - payload_at w;
    }

-- R1.4: the fields, or the refusal
unfoldable pub read_data : List ℕ → Result Data Refusal
read_data s = answered Err (data_refusal s) (Ok (data_of s))

-- R3.11: the payload as the part of the packet that holds it, an empty part where the packet is refused
abbrev pub payload_part : ℕ → List ℕ → List ℕ
payload_part zero s = drop (payload_at (word_of s)) s
payload_part (suc n) s = []

unfoldable pub payload_of : List ℕ → List ℕ
payload_of s = payload_part (data_refusal s) s
