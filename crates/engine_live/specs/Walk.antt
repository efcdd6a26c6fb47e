-- R19.4, R19.5: a packet stored stretch by stretch, as the shell does it: from 0 on, and then each time from where the stretch before ended.
-- Assumes nothing.
use Rattle.std.specs.Prelude.{ℕ, zero, suc, ◌≡◌, List, ◌∷◌, Ok, Result, Err}
use Rattle.std.proofs.Math.Option.{Option, none, some}
use Rattle.packet_data.specs.Data.{read_data}
use Rattle.packet_data.specs.declared.Data.{Data}
use Rattle.table.specs.Record.{record_packet}
use Rattle.engine_slots.specs.declared.Sender.{Sender}
use Rattle.engine_slots.specs.declared.Look.{Look}
use Rattle.engine_slots.specs.declared.Look.TheVariants as look
use Rattle.engine_model.specs.Snapshots.{Packet, slot_of}
use Rattle.engine_model.specs.Stretches.{look_data}
use Rattle.engine_model.specs.Engine.{whole, Event, storing}
use Rattle.engine_live.specs.Live.{now_of}
use Rattle.refusals.specs.declared.Refusal.{Refusal}

-- where a stretch ends, if there is one
unfoldable pub end_of : Result Look Refusal → Option ℕ
end_of (Ok (look.New x)) = some x.to
end_of (Ok (look.Known x)) = some x.to
end_of (Ok look.Over) = none
end_of (Ok look.Stranger) = none
end_of (Err r) = none

abbrev pub onward : Option ℕ → (ℕ → List Event) → List Event → List Event
onward none f h = h
onward (some b) f h = f b

-- at most n stretches, from an offset on: each is written, or compared and found equal
unfoldable pub walk : ℕ → List Event → ℕ → Sender → Packet → ℕ → List Event
walk zero h t r p from = h
walk (suc n) h t r p from =
    onward (end_of (look_data (now_of h) r p.octets from)) (λ b. walk n (storing t r p from whole ∷ h) t r p b) h

-- of the owner's packet that leaves the table that recording the packet at once leaves. So where the packet is accepted none of its
-- stretches is refused, with 16 or otherwise, though some leave more runs than the packet; and there are at most as many as it has octets
abbrev pub WalkedWhole : Type 0
WalkedWhole = (h : List Event) (t : ℕ) (r : Sender) (p : Packet) (d : Data) → read_data p.octets ≡ Ok d
    → (slot_of (now_of h) d.id).owner ≡ r → (now_of (walk d.length h t r p 0)).table ≡ (record_packet (now_of h).table p.octets).table
