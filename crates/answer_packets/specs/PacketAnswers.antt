-- R3.10: what C gets of a packet that was read: the number and the values of each case.
-- A field that the packet's type lacks is 0. Places count octets from the packet's start.
-- Assumes nothing.
use Rattle.std.specs.Prelude.{ℕ, Result, Ok, Err}
use Rattle.refusals.specs.declared.Refusal.{Refusal}
use Rattle.packet_beacon.specs.declared.Beacon.{Beacon}
use Rattle.beacon_flags.specs.declared.Willingness.{Willingness}
use Rattle.beacon_flags.specs.declared.Willingness.TheVariants.{Cannot, NotNow, Willing}
use Rattle.packet_metadata.specs.declared.Metadata.{Metadata}
use Rattle.packet_data.specs.declared.Data.{Data}
use Rattle.packet_status.specs.declared.SuccessStatus.{SuccessStatus}
use Rattle.packet_status.specs.declared.FailureStatus.{FailureStatus}
use Rattle.packet.specs.declared.Packet.{Packet}
use Rattle.packet.specs.declared.Packet.TheVariants as read
use Rattle.answer_packets.specs.declared.Part.{Part}
use Rattle.answer_packets.specs.declared.MetadataPart.{MetadataPart}
use Rattle.answer_packets.specs.declared.DataPart.{DataPart}
use Rattle.answer_packets.specs.declared.StatusPart.{StatusPart}
use Rattle.answer_packets.specs.declared.BeaconPart.{BeaconPart}
use Rattle.answer_packets.specs.declared.PacketAnswer.{PacketAnswer}

-- the parts that a packet of another type lacks
abbrev pub no_part : Part
no_part = record { at = 0; len = 0 }

abbrev pub no_metadata : MetadataPart
no_metadata = record { checksum = no_part; properties = 0; size = 0; mtime = 0; ctime = 0; path = no_part }

abbrev pub no_data : DataPart
no_data = record { offset = 0; payload = no_part }

abbrev pub no_status : StatusPart
no_status = record { status = 0; progress = 0; in_response_to = 0; holes_at = 0; hole_count = 0 }

abbrev pub no_beacon : BeaconPart
no_beacon =
    record {
      largest_width = 0;
      bundles = 0;
      streams = 0;
      send = 0;
      receive = 0;
      free_width = 0;
      free_space = 0;
      endpoint = no_part;
    }

-- R2.13: the number of each of the three states
abbrev pub state_number : Willingness → ℕ
state_number Cannot = 0
state_number NotNow = 1
state_number Willing = 2

-- what C gets for BEACON, which has neither Id nor width of its own
abbrev pub beacon_packet : Beacon → PacketAnswer
beacon_packet b =
    record {
      number = 0;
      code = 0;
      ptype = 0;
      flags = b.flags;
      id = 0;
      width = 0;
      timestamp = no_part;
      metadata = no_metadata;
      «data» = no_data;
      status = no_status;
      beacon = record {
        largest_width = b.largest;
        bundles = b.bundles;
        streams = b.streams;
        send = state_number b.send;
        receive = state_number b.receive;
        free_width = b.width;
        free_space = b.free;
        endpoint = record { at = b.start; len = b.length };
      };
    }

-- what C gets for METADATA
abbrev pub metadata_packet : Metadata → PacketAnswer
metadata_packet m =
    record {
      number = 0;
      code = 0;
      ptype = 2;
      flags = m.flags;
      id = m.id;
      width = m.width;
      timestamp = no_part;
      metadata = record {
        checksum = record { at = 8; len = m.checksum };
        properties = m.entry.properties;
        size = m.entry.size;
        mtime = m.entry.mtime;
        ctime = m.entry.ctime;
        path = record { at = m.entry.path; len = m.entry.length };
      };
      «data» = no_data;
      status = no_status;
      beacon = no_beacon;
    }

-- what C gets for DATA
abbrev pub data_packet : Data → PacketAnswer
data_packet d =
    record {
      number = 0;
      code = 0;
      ptype = 3;
      flags = d.flags;
      id = d.id;
      width = d.width;
      timestamp = record { at = 8; len = d.timestamp };
      metadata = no_metadata;
      «data» = record { offset = d.offset; payload = record { at = d.start; len = d.length } };
      status = no_status;
      beacon = no_beacon;
    }

-- what C gets for a success STATUS
abbrev pub success_packet : SuccessStatus → PacketAnswer
success_packet s =
    record {
      number = 0;
      code = 0;
      ptype = 4;
      flags = s.flags;
      id = s.id;
      width = s.width;
      timestamp = record { at = 8; len = s.timestamp };
      metadata = no_metadata;
      «data» = no_data;
      status = record {
        status = 0;
        progress = s.progress;
        in_response_to = s.response;
        holes_at = s.holes;
        hole_count = s.count;
      };
      beacon = no_beacon;
    }

-- what C gets for a failure STATUS
abbrev pub failure_packet : FailureStatus → PacketAnswer
failure_packet f =
    record {
      number = 0;
      code = 0;
      ptype = 4;
      flags = f.flags;
      id = f.id;
      width = 0;
      timestamp = no_part;
      metadata = no_metadata;
      «data» = no_data;
      status = record { status = f.status; progress = 0; in_response_to = 0; holes_at = 0; hole_count = 0 };
      beacon = no_beacon;
    }

-- R1.5: what C gets for a refusal
abbrev pub refused_packet : Refusal → PacketAnswer
refused_packet r =
    record {
      number = r.number;
      code = r.code;
      ptype = 0;
      flags = 0;
      id = 0;
      width = 0;
      timestamp = no_part;
      metadata = no_metadata;
      «data» = no_data;
      status = no_status;
      beacon = no_beacon;
    }

-- by the case of the answer
abbrev pub packet_answer : Result Packet Refusal → PacketAnswer
packet_answer (Ok (read.Beacon b)) = beacon_packet b
packet_answer (Ok (read.Metadata m)) = metadata_packet m
packet_answer (Ok (read.Data d)) = data_packet d
packet_answer (Ok (read.Success s)) = success_packet s
packet_answer (Ok (read.Failure f)) = failure_packet f
packet_answer (Err r) = refused_packet r
