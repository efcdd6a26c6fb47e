-- A stretch is recorded: what the engine has of its Id then.
-- Assumes nothing.
use Prim.Native.Nat.{ℕ, suc, ◌<◌}
use mathlib.Core.Path.{◌≡◌, refl, ap, ◌∙◌}
use mathlib.Core.Bool.{◌||◌}
use mathlib.Core.List.{List}
use mathlib.Core.Option.{some}
use lib.Dec.{eqb}
use Rattle.packet_data.specs.Data.{read_data}
use Rattle.packet_data.specs.declared.Data.{Data}
use Rattle.transfer.specs.declared.Key.{Key}
use Rattle.transfer.specs.Transfers.{Transfer}
use Rattle.transfer.specs.Record.{stamp_in}
use Rattle.transfer.proofs.StampLaws.{stamp_known}
use Rattle.table.specs.Record.{record_data}
use Rattle.engine_slots.specs.declared.Slot.{Slot}
use Rattle.engine_slots.specs.declared.Stretch.{Stretch}
use Rattle.engine_model.specs.Snapshots.{Packet, Snapshot, key_in, slot_of, file_of, is_complete, with_slot, with_table, heard_at}
use Rattle.engine_model.specs.Stretches.{piece_of}
use Rattle.engine_model.specs.Engine.{Engine, with_now, recorded_in}
use Rattle.engine_model.proofs.FitLaws.{Fit, key_open, slot_same}
use Rattle.engine_model.proofs.RecordingLaws.{recording, fit_recording, recording_key, recording_slot}
use Rattle.engine_model.proofs.LookLaws.{piece_some}
use Rattle.std.specs.Prelude.{Ok}

-- of the Id i, with the table t
pub record Takes (e u : Engine) (i : ℕ) (t : List Transfer) : Type 0 where
  pub table_is : u.now.table ≡ t
  pub key_is : key_in u.now i ≡ key_in e.now i
  pub owner_is : (slot_of u.now i).owner ≡ (slot_of e.now i).owner
  pub file_is : file_of u.now i ≡ file_of e.now i
  pub pending_is : u.pending ≡ e.pending
  pub number_is : u.number ≡ e.number

module _ (e : Engine) (t : ℕ) (p : Packet) (d : Data) (x : Stretch) (f : Fit e.now) (k : Key) (open_is : key_in e.now d.id ≡ some k)
    (read : read_data p.octets ≡ Ok d) (some_octets : x.from < x.to) where
  abbrev z : List ℕ
  z = stamp_in p.octets d

  abbrev s : Snapshot
  s = recording e.now (piece_of d x) z

  abbrev slot : Slot
  slot = heard_at t (suc e.number) (eqb d.wanted 1 || is_complete s d.id) (eqb d.wanted 1) (slot_of s d.id)

  fits : Fit s
  fits = fit_recording e.now (piece_of d x) z f (piece_some d x some_octets) (stamp_known p.octets d p.are_octets read)

  slot_is : slot_of (with_slot s d.id slot) d.id ≡ slot
  slot_is = slot_same s d.id slot fits (key_open s d.id k (recording_key e.now (piece_of d x) z d.id ∙ open_is))

  was : slot_of s d.id ≡ slot_of e.now d.id
  was = recording_slot e.now (piece_of d x) z d.id

  pub stretch_taken : Takes e (recorded_in e t p.octets d x) d.id (record_data e.now.table (piece_of d x) z).table
  unfolding recorded_in with_now with_slot with_table heard_at
  stretch_taken =
      record {
        table_is = refl;
        key_is = recording_key e.now (piece_of d x) z d.id;
        owner_is = ap (λ (y : Slot). y.owner) slot_is ∙ ap (λ (y : Slot). y.owner) was;
        file_is = ap (λ (y : Slot). y.file) slot_is ∙ ap (λ (y : Slot). y.file) was;
        pending_is = refl;
        number_is = refl;
      }
