-- DATA that the table takes: what is read of a state that holds an engine, and that the Id is open there.
-- Assumes nothing.
use Prim.Native.Nat.{ℕ, zero, suc, ◌+◌, ◌^◌, ◌≤◌, ◌<◌}
use mathlib.Core.Path.{◌≡◌, refl, sym, ap, ◌∙◌}
use mathlib.Core.Bool.{true}
use mathlib.Core.List.{List}
use mathlib.Core.Option.{some}
use native.Mathlib.Omega.{arith}
use lib.ListN.{length}
use Rattle.words.specs.Words.{word_at}
use Rattle.header.specs.Start.{word_of}
use Rattle.packet_data.specs.Data.{payload_at, data_refusal, data_of}
use Rattle.packet_data.specs.declared.Data.{Data}
use Rattle.packet_data.proofs.DataLaws.{data_fine, data_given}
use Rattle.transfer.specs.declared.Key.{Key}
use Rattle.transfer.specs.declared.Receipt.{Receipt}
use Rattle.transfer.specs.Record.{stop_of}
use Rattle.table.specs.Tables.{keys, find}
use Rattle.table.specs.Record.{data_judged}
use Rattle.table.specs.Outcome.{Outcome}
use Rattle.table.proofs.FineLaws.{fine_found}
use Rattle.table.proofs.RecordLaws.{record_cases, judged_stop}
use Rattle.area.specs.Places.{read_table}
use Rattle.area.specs.Judge.{judged}
use Rattle.area.specs.Operations.{OnArea, record_area}
use Rattle.area.proofs.PlaceLaws.{length_transfers}
use Rattle.area.proofs.JudgeLaws.{judged_passed}
use Rattle.area.proofs.AreaLaws.{judged_held}
use Rattle.area.proofs.OperationLaws.{record_held_lem}
use Rattle.engine_slots.specs.Slots.{slots_from}
use Rattle.engine_model.proofs.SnapshotLaws.{Fit, key_open}
use Rattle.engine_state.specs.State.{snapshot_in, held_state}
use Rattle.engine_state.proofs.StateLaws.{held_known, open_kept}
use Rattle.engine_piece.specs.Known.{OpenIn}
use Rattle.engine_data.specs.Taken.{Taken}
use Rattle.std.specs.Prelude.{Result, Ok}
use Rattle.refusals.specs.declared.Refusal.{Refusal}

-- ---- a state that has a table

length_slots : (a : List ℕ) (i n : ℕ) → length (slots_from a i n) ≡ n
unfolding slots_from
length_slots a i zero = refl
length_slots a i (suc n) = ap suc (length_slots a (suc i) n)

-- a slot beside each transfer
pub snapshot_fit : (s : List ℕ) → judged s ≡ true → Fit (snapshot_in s)
snapshot_fit s j =
    record { valid = (judged_passed s j).1; paired = length_slots s 0 (word_at s 0) ∙ sym (length_transfers s 0 (word_at s 0)) }

-- ---- an Id with a key is open

pub found_kept : (s : List ℕ) (i : ℕ) (k : Key) → judged s ≡ true → find i (keys (read_table s)) ≡ some k → OpenIn s i
found_kept s i k j e = open_kept s i j (key_open (snapshot_in s) i k e)

-- ---- DATA that is taken

pub found_taken : (s : List ℕ) (d : Data) (k : Key) → held_state s ≡ true → find d.id (keys (read_table s)) ≡ some k → data_judged (some k) d ≡ 0
    → d.start + d.length < 2 ^ 64 → Taken s d
found_taken s d k h e j l =
    let v = (judged_passed s (held_known s h).now_judged).1 in
    let f = fine_found 0 d.id (read_table s) k v.fine e in
    let stop : stop_of d ≤ k.length = judged_stop k d j in
    record {
      held = h;
      kept = found_kept s d.id k (held_known s h).now_judged e;
      stop_fits = omega (arith, f.length_held);
      start_fits = l;
    }

fields_end : (p : List ℕ) → data_refusal p ≡ 0 → (data_of p).start + (data_of p).length ≡ length p
unfolding data_of
fields_end p z = let h : payload_at (word_of p) < length p = (data_fine p z).more in omega arith

pub accepted_taken : (s p : List ℕ) (x : Receipt) → held_state s ≡ true → length p < 2 ^ 64 → (record_area s p).answer ≡ Ok x
    → (data_refusal p ≡ 0) × Taken s (data_of p)
accepted_taken s p x h l e =
    let is = ap (λ (o : OnArea (Result Receipt Refusal)). o.answer) (record_held_lem s p (read_table s) (judged_held s (held_known s h).now_judged)) in
    record_cases (λ (o : Outcome (Result Receipt Refusal)). o.answer ≡ Ok x → (data_refusal p ≡ 0) × Taken s (data_of p)) (read_table s) p
    (λ n z. absurd (let y : ◌≡◌ {A = ℕ} 0 1 = cc in omega arith))
    (λ d k r f j few z.
    let g = data_given p d r in
    (g.0, rw g.1 (found_taken s d k h f j (rw (← g.1) (omega (arith, fields_end p g.0))))))
    (sym is ∙ e)
