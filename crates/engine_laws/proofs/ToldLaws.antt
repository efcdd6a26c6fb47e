-- What the code says to report, or tells, after any history.
-- Assumes nothing.
use Prim.Native.Nat.{ℕ}
use mathlib.Core.Path.{◌≡◌, refl, sym, ap, subst, ◌∙◌}
use mathlib.Core.List.{List}
use mathlib.Core.Option.{some}
use native.Mathlib.Omega.{arith}
use mathlib.Core.Logic.{inl}
use lib.ListN.{take, drop}
use Rattle.refusals.specs.Refusals.{refusal_of}
use Rattle.runs.specs.Runs.{Member}
use Rattle.table.specs.WriteStatus.{status_written, status_buffer}
use Rattle.area.specs.Judge.{table_of}
use Rattle.area.specs.Places.{read_table}
use Rattle.area.specs.Operations.{area_status_written, area_status_buffer}
use Rattle.area.proofs.AreaLaws.{judged_held}
use Rattle.area.proofs.JudgeLaws.{judged_passed}
use Rattle.area.proofs.OperationLaws.{from_held}
use Rattle.engine_model.specs.Snapshots.{slot_of, file_of, received}
use Rattle.engine_model.specs.Engine.{Engine, Event, answer, report, answering, reporting, actions, answer_of}
use Rattle.engine_model.specs.World.{run}
use Rattle.engine_model.specs.Claims.{In, Kept}
use Rattle.engine_model.proofs.FitLaws.{open_key_lem, member_open}
use Rattle.engine_model.proofs.Theorems.{reported_whole, answered_kept}
use Rattle.engine_next.proofs.ReportLaws.{report_done}
use Rattle.engine_state.specs.Layout.{synced_octet}
use Rattle.engine_state.specs.State.{snapshot_in}
use Rattle.engine_state.proofs.StateLaws.{Held, held_known, known_held}
use Rattle.engine_tell.specs.Tell.{unasked, told_as, telling, letter_buffer}
use Rattle.engine_tell.specs.declared.Letter.{Letter}
use Rattle.engine_laws.specs.Told.{ReportsWhole, TellsKept}
use Rattle.engine_laws.proofs.ShownLaws.{Shows, status_shows}
use Rattle.engine_laws.proofs.Theorems.{holds_known}
use Rattle.std.specs.Prelude.{Result, Ok, Err}
use Rattle.refusals.specs.declared.Refusal.{Refusal}

pub reports_whole : ReportsWhole
reports_whole h s t w from x holds q =
    reported_whole h (reporting x.id) x.id x.file x.length
    (subst (λ (e : Engine). In (report x.id x.file x.length) (actions e (reporting x.id))) (holds_known s (run h).engine holds).1
    (report_done s t w from x q))

-- where an offset was received, the model answers
answers : (e : Engine) (i o : ℕ) → Member (received e.synced i) o
    → In (answer i (file_of e.synced i) (slot_of e.synced i).owner (received e.synced i)) (actions e (answering i))
unfolding actions answer_of
answers e i o m = rw (open_key_lem e.synced i (member_open e.synced i o m)).1 (inl refl)

received_kept : (h : List Event) (i o : ℕ) → Member (received (run h).engine.synced i) o → Kept h i (file_of (run h).engine.synced i) o
received_kept h i o m =
    answered_kept h (answering i) i (file_of (run h).engine.synced i) (slot_of (run h).engine.synced i).owner (received (run h).engine.synced i)
    (answers (run h).engine i o m) o m

-- ---- what is written is of what is synced

module _ (s : List ℕ) (i : ℕ) (out : List ℕ) (x : Letter) where
  sent_is : (y : Result ℕ Refusal) → told_as s i y ≡ Ok x → (y ≡ Ok x.size) × (x.to ≡ (slot_of (snapshot_in (drop synced_octet s)) i).owner)
  unfolding told_as
  sent_is (Err r) e = absurd (let z : ◌≡◌ {A = ℕ} 0 1 = cc in omega arith)
  sent_is (Ok n) e = (cc, cc)

  module _ (h : Held s) (e : telling s i out ≡ Ok x) where
    letter : (area_status_written (drop synced_octet s) i 0 (unasked s i) out ≡ Ok x.size) × (x.to ≡ (slot_of (snapshot_in (drop synced_octet s)) i).owner)
    unfolding telling
    letter = sent_is (area_status_written (drop synced_octet s) i 0 (unasked s i) out) (rw (known_held s h) at e)

    synced_table : table_of (drop synced_octet s) ≡ some (read_table (drop synced_octet s))
    synced_table = judged_held (drop synced_octet s) h.synced_judged

    shows : Shows (read_table (drop synced_octet s)) i (take x.size (letter_buffer s i out))
    unfolding letter_buffer area_status_written area_status_buffer
    shows =
        let w = sym (from_held (Err (refusal_of 22)) (λ t. status_written t i 0 (unasked s i) out) (drop synced_octet s) _ synced_table) ∙ letter.0 in
        rw (known_held s h, from_held out (λ t. status_buffer t i 0 (unasked s i) out) (drop synced_octet s) _ synced_table)
        (status_shows (read_table (drop synced_octet s)) (judged_passed (drop synced_octet s) h.synced_judged).1 i (unasked s i) out x.size w)

pub tells_kept : TellsKept
tells_kept = record {
  tells = λ h s i out x holds e.
      let k = holds_known s (run h).engine holds in
      let w = shows s i out x (held_known s k.0) e in
      record {
        fields = w.fields;
        read = w.read;
        of_id = w.of_id;
        kept = λ o r. received_kept h i o (subst (λ (y : Engine). Member (received y.synced i) o) k.1 (w.members o r));
      };
  to_owner = λ h s i out x holds e.
      let k = holds_known s (run h).engine holds in
      (letter s i out x (held_known s k.0) e).1 ∙ ap (λ (y : Engine). (slot_of y.synced i).owner) k.1;
}
