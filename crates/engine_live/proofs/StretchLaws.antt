-- One stretch of a packet: it is judged as the packet is, and recorded where there is room.
-- Assumes nothing.
use Prim.Native.Nat.{ℕ, ◌+◌, ◌-◌, ◌≤◌}
use mathlib.Core.Path.{◌≡◌, refl, ap, ◌∙◌}
use mathlib.Core.Bool.{Bool, true, false, not}
use mathlib.Core.List.{List}
use mathlib.Core.Option.{Option, some}
use native.Mathlib.Omega.{arith}
use lib.ListN.{length}
use lib.Dec.{eqb}
use borrow.Author.Tests.{le-ltb}
use Rattle.refusals.specs.Refusals.{◌▹◌, when}
use Rattle.refusals.proofs.RefusalLaws.{first_none}
use Rattle.runs.specs.Runs.{insert}
use Rattle.packet_data.specs.declared.Data.{Data}
use Rattle.transfer.specs.declared.Key.{Key}
use Rattle.transfer.specs.Transfers.{Transfer}
use Rattle.transfer.specs.Record.{stop_of, key_refusal, extended, runs_refusal}
use Rattle.transfer.proofs.ExtendLaws.{few_runs}
use Rattle.table.specs.Tables.{keys, find, runs_of, set_runs}
use Rattle.table.specs.Record.{data_judged, record_refusal, grown, record_as, record_data}
use Rattle.table.proofs.RecordLaws.{judged_stop}
use Rattle.engine_slots.specs.declared.Stretch.{Stretch}
use Rattle.engine_model.specs.Stretches.{piece_of}
use Rattle.engine_model.specs.Engine.{Engine, whole, recorded_in, stored_as}
use Rattle.engine_model.proofs.LookLaws.{look_as}
use Rattle.engine_live.specs.Walk.{end_of}
use Rattle.std.specs.Prelude.{Ok}

-- neither 13 nor 14 nor 15, where the packet gives none
pub piece_judged : (k : Key) (d : Data) (x : Stretch) → data_judged (some k) d ≡ 0 → x.from ≤ x.to → x.to ≤ stop_of d → data_judged (some k) (piece_of d x) ≡ 0
unfolding data_judged key_refusal piece_of
piece_judged k d x j l m =
    let top : stop_of d ≤ k.length = judged_stop k d j in
    let width : when (not (eqb d.width k.width)) 13 ≡ 0 = first_none (when (not (eqb d.width k.width)) 13) _ j in
    rw (width, le-ltb k.length (x.from + (x.to - x.from)) (omega arith))

-- it is recorded where there is room
pub data_taken : (t : List Transfer) (d : Data) (z : List ℕ) (k : Key) → find d.id (keys t) ≡ some k → data_judged (some k) d ≡ 0 → length (grown t d) ≤ 64
    → (record_data t d z).table ≡ set_runs d.id (grown t d) z t
unfolding record_data record_as record_refusal
data_taken t d z k q j n =
    ap (λ (o : Option Key). (record_as (record_refusal o (grown t d) d) o (grown t d) t d z).table) q
    ∙ ap (λ (x : ℕ). (record_as (x ▹ runs_refusal (grown t d)) (some k) (grown t d) t d z).table) j
    ∙ ap (λ (x : ℕ). (record_as x (some k) (grown t d) t d z).table) (few_runs (grown t d) n)

pub piece_grown : (t : List Transfer) (d : Data) (x : Stretch) → x.from ≤ x.to → grown t (piece_of d x) ≡ insert x.from x.to (runs_of t d.id)
unfolding grown extended piece_of
piece_grown t d x l = ap (λ (b : ℕ). insert x.from b (runs_of t d.id)) (let z : x.from + (x.to - x.from) ≡ x.to = omega arith in z)

pub packet_grown : (t : List Transfer) (d : Data) → grown t d ≡ insert d.offset (stop_of d) (runs_of t d.id)
unfolding grown extended
packet_grown t d = refl

pub stored_as_lem : (c : Bool) (e : Engine) (t : ℕ) (p : List ℕ) (d : Data) (x : Stretch) → stored_as e t p whole (Ok d) (look_as c x) ≡ recorded_in e t p d x
unfolding stored_as
stored_as_lem true e t p d x = refl
stored_as_lem false e t p d x = refl

pub end_of_lem : (c : Bool) (x : Stretch) → end_of (look_as c x) ≡ some x.to
unfolding end_of
end_of_lem true x = refl
end_of_lem false x = refl
