-- The ways through looking at DATA that the table takes: another's, nothing more, or a stretch, received or not.
-- Assumes nothing.
use Prim.Native.Nat.{ℕ, ◌-◌, ◌+◌, ◌≤◌, ◌<◌, max}
use mathlib.Core.Path.{◌≡◌, sym, ap, subst, ◌∙◌}
use mathlib.Core.Bool.{true, false}
use mathlib.Core.List.{List}
use native.Mathlib.Omega.{arith}
use lib.ListN.{length}
use borrow.Author.Tests.{lt-ltb, le-ltb}
use Rattle.run_rows.specs.Rows.{runs_in, RowsFit}
use Rattle.run_rows.specs.declared.Rows.{Rows}
use Rattle.packet_data.specs.declared.Data.{Data}
use Rattle.transfer.specs.Record.{stop_of}
use Rattle.area.specs.Layout.{transfer_places, area_octets}
use Rattle.area.specs.Places.{rows_at, read_table, place_of, KeptAt}
use Rattle.area.proofs.KeptLaws.{kept_known, kept_rows, kept_runs, kept_runs_in}
use Rattle.engine_slots.specs.declared.Sender.{Sender}
use Rattle.engine_slots.specs.declared.Slot.{Slot}
use Rattle.engine_slots.specs.declared.Stretch.{Stretch}
use Rattle.engine_slots.specs.declared.Look.{Look}
use Rattle.engine_slots.specs.declared.Look.TheVariants as look
use Rattle.engine_slots.specs.Layout.{snapshot_octets}
use Rattle.engine_slots.specs.Slots.{slot_at}
use Rattle.engine_stretch.specs.declared.Reach.{Reach}
use Rattle.engine_stretch.specs.Stretch.{reach_from}
use Rattle.engine_model.specs.Snapshots.{slot_of, file_of, received, same_sender}
use Rattle.engine_model.specs.Stretches.{stretch_of, look_reach, look_from, look_owned}
use Rattle.engine_state.specs.State.{snapshot_in}
use Rattle.engine_state.proofs.StateLaws.{held_known, slot_known}
use Rattle.engine_data.specs.Taken.{Taken}
use Rattle.std.specs.Prelude.{Result, Ok}
use Rattle.refusals.specs.declared.Refusal.{Refusal}

-- what is to be done from offset a on
abbrev pub look_on : List ℕ → Data → ℕ → Result Look Refusal
look_on s d a = look_reach (snapshot_in s) d a (reach_from (received (snapshot_in s) d.id) a (stop_of d))

module _ (s : List ℕ) (d : Data) (t : Taken s d) (p : ℕ) (is : p ≡ place_of d.id (read_table s)) where
  kept : KeptAt d.id (read_table s) p
  kept = subst (KeptAt d.id (read_table s)) (sym is) t.kept

  pub place_asks : (area_octets ≤ length s) × (p < transfer_places)
  place_asks = kept_known s d.id p kept (held_known s t.held).now_judged

  pub slot_asks : (snapshot_octets ≤ length s) × (p < transfer_places)
  slot_asks = (omega (arith, (held_known s t.held).long), place_asks.1)

  -- ---- the stretch, by the rows of the place

  module _ (rows : Rows) (e : rows ≡ rows_at s p) where
    pub rows_asks : RowsFit s rows
    rows_asks = kept_rows s d.id p kept (held_known s t.held).now_judged rows e

    received_is : runs_in s rows ≡ received (snapshot_in s) d.id
    received_is = kept_runs_in s d.id p kept rows e ∙ sym (kept_runs kept)

    module _ (a file : ℕ) (f : file ≡ file_of (snapshot_in s) d.id) (r : Reach) (g : r ≡ reach_from (runs_in s rows) a (stop_of d)) where
      abbrev found : Stretch
      found = record { id = d.id; file = file; from = a; to = r.stop; start = d.start + (a - d.offset) }

      reached : r ≡ reach_from (received (snapshot_in s) d.id) a (stop_of d)
      reached = g ∙ ap (λ (l : _). reach_from l a (stop_of d)) received_is

      found_is : found ≡ stretch_of (snapshot_in s) d a r
      unfolding stretch_of
      found_is = ap (λ (n : ℕ). record { id = d.id; file = n; from = a; to = r.stop; start = d.start + (a - d.offset) }) f

      pub is_known : r.received ≡ true → Ok (look.Known found) ≡ look_on s d a
      unfolding look_reach
      is_known b = ap (λ (y : Stretch). Ok (look.Known y)) found_is ∙ rw (← reached, b)

      pub is_new : r.received ≡ false → Ok (look.New found) ≡ look_on s d a
      unfolding look_reach
      is_new b = ap (λ (y : Stretch). Ok (look.New y)) found_is ∙ rw (← reached, b)

  -- ---- the owner, by the slot of the place

  module _ (x : Slot) (e : x ≡ slot_at s p) where
    slot_is : x ≡ slot_of (snapshot_in s) d.id
    slot_is = e ∙ sym (slot_known s d.id p kept)

    pub file_is : x.file ≡ file_of (snapshot_in s) d.id
    file_is = ap (λ (y : Slot). y.file) slot_is

    module _ (r : Sender) (from : ℕ) where
      pub is_stranger : same_sender x.owner r ≡ false → (Ok look.Stranger) ≡ look_owned (snapshot_in s) r d from
      unfolding look_owned
      is_stranger b = rw (← slot_is, b)

      module _ (b : same_sender x.owner r ≡ true) (a : ℕ) (m : a ≡ max from d.offset) where
        pub is_over_lem : stop_of d ≤ a → (Ok look.Over) ≡ look_owned (snapshot_in s) r d from
        unfolding look_owned look_from
        is_over_lem l = rw (← slot_is, b, ← m, le-ltb a (stop_of d) l)

        pub is_more : a < stop_of d → (y : Result Look Refusal) → y ≡ look_on s d a → y ≡ look_owned (snapshot_in s) r d from
        unfolding look_owned look_from
        is_more l y f = f ∙ rw (← slot_is, b, ← m, lt-ltb a (stop_of d) l)
