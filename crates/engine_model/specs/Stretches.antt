-- R19.4: what is done for DATA, from an offset on: the stretches of its octets that were received are compared, the others are written.
-- Assumes nothing.
use Rattle.std.specs.Prelude.{ℕ, ◌+◌, ◌-◌, max, Bool, true, false, cond, ◌&&◌, List, get_or, ltb, leb, Result, Ok, Err}
use Rattle.std.proofs.Math.Option.{Option, none, some}
use Rattle.packet_data.specs.Data.{read_data}
use Rattle.packet_data.specs.declared.Data.{Data}
use Rattle.transfer.specs.Record.{stop_of}
use Rattle.table.specs.Record.{record_packet}
use Rattle.engine_slots.specs.declared.Sender.{Sender}
use Rattle.engine_slots.specs.declared.Stretch.{Stretch}
use Rattle.engine_slots.specs.declared.Look.{Look}
use Rattle.engine_slots.specs.declared.Look.TheVariants as look
use Rattle.engine_stretch.specs.declared.Reach.{Reach}
use Rattle.engine_stretch.specs.Stretch.{reach_from}
use Rattle.engine_model.specs.Snapshots.{Snapshot, slot_of, file_of, received, same_sender}
use Rattle.refusals.specs.declared.Refusal.{Refusal}
use Rattle.transfer.specs.declared.Receipt.{Receipt}

-- the octet that a packet brings at an offset
unfoldable pub brings : List ℕ → Data → ℕ → Option ℕ
brings p d o = cond (leb d.offset o && ltb o (stop_of d)) (some (get_or p (d.start + (o - d.offset)) 0)) none

-- the same of a stretch alone
unfoldable pub brings_in : List ℕ → Data → Stretch → ℕ → Option ℕ
brings_in p d x o = cond (leb x.from o && ltb o x.to) (brings p d o) none

-- a stretch of DATA as DATA of its own. Whether the packet was the last is judged of the whole packet
unfoldable pub piece_of : Data → Stretch → Data
piece_of d x = record {
  flags = d.flags;
  id = d.id;
  width = d.width;
  timestamp = d.timestamp;
  wanted = d.wanted;
  eod = 0;
  offset = x.from;
  start = x.start;
  length = x.to - x.from;
}

unfoldable pub stretch_of : Snapshot → Data → ℕ → Reach → Stretch
stretch_of s d a r = record { id = d.id; file = file_of s d.id; from = a; to = r.stop; start = d.start + (a - d.offset) }

unfoldable pub look_reach : Snapshot → Data → ℕ → Reach → Result Look Refusal
look_reach s d a r = cond r.received (Ok (look.Known (stretch_of s d a r))) (Ok (look.New (stretch_of s d a r)))

-- from the packet's first octet on, or from a later offset
unfoldable pub look_from : Snapshot → Data → ℕ → Result Look Refusal
look_from s d from =
    let a = max from d.offset in
    cond (ltb a (stop_of d)) (look_reach s d a (reach_from (received s d.id) a (stop_of d))) (Ok look.Over)

-- packets of the owner alone are taken
unfoldable pub look_owned : Snapshot → Sender → Data → ℕ → Result Look Refusal
look_owned s r d from = cond (same_sender (slot_of s d.id).owner r) (look_from s d from) (Ok look.Stranger)

-- the table's refusals come first, by the whole packet
unfoldable pub look_judged : Snapshot → Sender → ℕ → Result Receipt Refusal → Result Data Refusal → Result Look Refusal
look_judged s r from (Err n) d = Err n
look_judged s r from (Ok x) (Ok d) = look_owned s r d from
look_judged s r from (Ok x) (Err n) = Err n

unfoldable pub look_data : Snapshot → Sender → List ℕ → ℕ → Result Look Refusal
look_data s r p from = look_judged s r from (record_packet s.table p).answer (read_data p)
