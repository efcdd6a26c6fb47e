-- R12.2, R6.14: the record that recording hands back.
-- Assumes nothing.
use Rattle.std.specs.Prelude.{ℕ, zero, suc, List}
use Rattle.timestamp.specs.Timestamps.{renewed, kept_octets, kept_from}
use Rattle.packet_data.specs.Data.{data_of}
use Rattle.transfer.specs.Record.{stamp_in}
use Rattle.bitmap.specs.State.{unstamped}
use Rattle.bitmap.specs.declared.Held.{Held}
use Rattle.bitmap_extend.specs.Record.{record_refusal}

-- R6.14: after a packet that brings the timestamp s. Of a record that keeps none the halves are not looked at
unfoldable pub held_after : Held → List ℕ → Held
held_after h s = record { key = h.key; kept = kept_from (renewed s (kept_octets h.kept)) }

-- R1.5: the record of no transfer
abbrev pub no_held : Held
no_held = unstamped (record { id = 0; width = 0; length = 0 })

-- R12.2: it is handed back where the packet is accepted, and all zeros where it is refused
unfoldable pub held_as : ℕ → Held → List ℕ → Held
held_as zero h s = held_after h s
held_as (suc n) h s = no_held

unfoldable pub record_held : Held → List ℕ → List ℕ → Held
record_held h s packet = held_as (record_refusal h.key s packet) h (stamp_in packet (data_of packet))
