-- A stretch recorded: the state after it still has its tables, and the Id open.
-- Assumes nothing.
use Prim.Native.Nat.{ℕ, suc, ◌+◌, ◌<◌}
use mathlib.Core.Path.{◌≡◌, sym, ap, subst, ◌∙◌}
use mathlib.Core.Bool.{true}
use mathlib.Core.List.{List}
use mathlib.Core.Option.{Option}
use native.Mathlib.Omega.{arith}
use lib.ListN.{length}
use Rattle.octets.specs.Numbers.{Octets}
use Rattle.header.specs.Start.{word_of}
use Rattle.packet_data.specs.Data.{payload_at, data_refusal, data_of}
use Rattle.packet_data.specs.declared.Data.{Data}
use Rattle.packet_data.proofs.DataLaws.{data_fine, data_accepted}
use Rattle.transfer.specs.declared.Key.{Key}
use Rattle.transfer.specs.Transfers.{Transfer}
use Rattle.transfer.specs.Record.{stamp_in}
use Rattle.transfer.proofs.StampLaws.{stamp_known}
use Rattle.table.specs.Tables.{Valid, keys, find}
use Rattle.table.specs.Record.{record_data}
use Rattle.area.specs.Places.{read_table, place_of}
use Rattle.area.specs.Judge.{judged}
use Rattle.area.specs.Stored.{stored_in}
use Rattle.area.proofs.JudgeLaws.{judged_passed, held_passed}
use Rattle.area.proofs.StoredLaws.{stored_held, length_stored}
use Rattle.area_splice.specs.Splice.{Brings}
use Rattle.engine_slots.specs.declared.Stretch.{Stretch}
use Rattle.engine_model.specs.Snapshots.{is_some, is_open, with_table}
use Rattle.engine_model.specs.Stretches.{piece_of}
use Rattle.engine_model.proofs.DataLaws.{data_valid}
use Rattle.engine_model.proofs.SnapshotLaws.{recording_key}
use Rattle.engine_model.proofs.LookLaws.{piece_some}
use Rattle.engine_state.specs.Layout.{number_field}
use Rattle.engine_state.specs.State.{snapshot_in, number_in}
use Rattle.engine_state.proofs.StateLaws.{held_known, kept_open, open_kept}
use Rattle.engine_piece.specs.Piece.{piece_recorded, heard_state, piece_state}
use Rattle.engine_piece.specs.Known.{Piece, Known}
use Rattle.std.specs.Prelude.{Ok}

-- R6.14: a packet that is read brings 16 octets, or none
read_brings : (p : List ℕ) → data_refusal p ≡ 0 → Brings p (data_of p).timestamp
unfolding data_of
read_brings p z =
    let f = data_fine p z in
    let h : payload_at (word_of p) < length p = f.more in
    record { size = λ n. omega arith; whole = omega arith }

module _ (s p : List ℕ) (x : Stretch) (k : Piece s p x) (d : Data) (is : d ≡ data_of p) where
  -- ---- what recording asks

  pub fields_asks : (y : Data) → y ≡ piece_of d x → (judged s ≡ true) × (0 < y.length) × Brings p y.timestamp
  unfolding piece_of
  fields_asks y e = (
    (held_known s k.held).now_judged,
    subst (λ (z : Data). 0 < z.length) (sym e) (piece_some d x k.some),
    subst (λ (z : Data). Brings p z.timestamp) (sym e) (subst (λ (z : Data). Brings p z.timestamp) (sym is) (read_brings p k.read)),
  )

  -- ---- what it leaves

  pub recorded_is : (y : Data) → y ≡ piece_of d x → (a : List ℕ) → a ≡ stored_in s (record_data (read_table s) y (stamp_in p y)).table → a ≡ piece_recorded s p d x
  unfolding piece_recorded stamp_in piece_of
  recorded_is y e a f = f ∙ ap (λ (z : Data). stored_in s (record_data (read_table s) z (stamp_in p z)).table) e

  abbrev after : List Transfer
  after = (record_data (read_table s) (piece_of d x) (stamp_in p d)).table

  module _ (o : Octets p) where
    after_valid : Valid after
    after_valid =
        data_valid (read_table s) (piece_of d x) (stamp_in p d) (judged_passed s (held_known s k.held).now_judged).1 (piece_some d x k.some)
        (stamp_known p d o (data_accepted p k.read ∙ ap Ok (sym is)))

    after_held : (judged (stored_in s after) ≡ true) × (read_table (stored_in s after) ≡ after)
    after_held = held_passed (stored_in s after) after (stored_held s after after_valid)

    -- the same Ids are open
    after_open : is_open (snapshot_in (stored_in s after)) d.id ≡ true
    unfolding is_open with_table
    after_open =
        let i : x.id ≡ d.id = k.id_is ∙ ap (λ (z : Data). z.id) (sym is) in
        ap (λ (t : List Transfer). is_some (find d.id (keys t))) after_held.1
        ∙ ap (λ (y : Option Key). is_some y) (recording_key (snapshot_in s) (piece_of d x) (stamp_in p d) d.id)
        ∙ subst (λ (n : ℕ). is_open (snapshot_in s) n ≡ true) i (kept_open s x.id (place_of x.id (read_table s)) k.kept)

    pub recorded_known : (a : List ℕ) → a ≡ piece_recorded s p d x → Known a d.id
    unfolding piece_recorded
    recorded_known a e = subst (λ (b : List ℕ). Known b d.id) (sym e) (record {
      long =
          let h = held_known s k.held in
          omega (arith, h.long, length_stored s after (omega (arith, h.long)));
      table = after_held.0;
      kept = open_kept (stored_in s after) d.id after_held.0 after_open;
    })

  -- ---- and once its transfer was heard
  pub piece_is : (t m : ℕ) → m ≡ number_in s number_field → (a b : List ℕ) → a ≡ piece_recorded s p d x → b ≡ heard_state a t (m + 1) d
      → b ≡ piece_state s t p (data_of p) x
  unfolding piece_state
  piece_is t m e a b f g =
      let n : m + 1 ≡ suc (number_in s number_field) = omega arith in
      g ∙ ap (λ (y : List ℕ). heard_state y t (m + 1) d) f ∙ ap (λ (y : ℕ). heard_state (piece_recorded s p d x) t y d) n
      ∙ ap (λ (y : Data). heard_state (piece_recorded s p y x) t (suc (number_in s number_field)) y) is
