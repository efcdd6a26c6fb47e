-- R12.3, R12.5: what the bitmap receiver answers of a transfer is what the marks that it leaves say, whatever record and marks it is given;
-- and `number` is the refusal of the rules, 0 where there is none.
-- Assumes nothing.
use Prim.Native.Nat.{ℕ, zero, suc, ◌≤◌, ◌<◌}
use mathlib.Core.Path.{◌≡◌, refl, sym, ap, ◌∙◌}
use mathlib.Core.List.{List, []}
use mathlib.Core.Logic.Iff
use mathlib.Core.Logic.{⊎_elim}
use native.Mathlib.Omega.{arith}
use Rattle.refusals.specs.Tests.{bit}
use Rattle.refusals.proofs.TestLaws.{bit_iff}
use Rattle.runs.specs.Runs.{Member}
use Rattle.runs.specs.Holes.{edge_from}
use Rattle.runs.proofs.CompareLaws.{le_or_lt}
use Rattle.packet_metadata.specs.Metadata.{metadata_of}
use Rattle.packet_data.specs.Data.{data_of}
use Rattle.transfer.specs.declared.Reached.{Reached}
use Rattle.transfer.specs.Record.{stamp_in}
use Rattle.transfer.specs.Transfers.{key_of, reached, Tells}
use Rattle.marks.specs.MarkedRuns.{marked_runs}
use Rattle.marks.proofs.MarkLaws.{marked_member}
use Rattle.bitmap.specs.Open.{open_refusal, open_as, open_marks}
use Rattle.bitmap.proofs.ToldLaws.{open_answers, open_told}
use Rattle.bitmap_extend.specs.Record.{record_refusal, record_as, record_marks}
use Rattle.bitmap_held.specs.Held.{held_after, held_as, record_held}
use Rattle.bitmap_extend.proofs.ToldLaws.{record_answers, record_told, record_counted, record_adds}
use Rattle.answers.specs.Answers.{recorded_answer}
use Rattle.answer_marks.specs.BitmapAnswers.{key_from, held_from, bitmap_of, no_bitmap, bitmap_opened_answer, bitmap_recorded_answer}
use Rattle.answer_marks.specs.MarksReported.{Marked, MarksReported, OpeningReported, RecordingReported}
use Rattle.answer_marks.specs.declared.Bitmap.{Bitmap}
use Rattle.answer_marks.specs.declared.BitmapRecordedAnswer.{BitmapRecordedAnswer}

-- the two numbers of an answer, from what is told of the runs
reported : (s : List ℕ) (L : ℕ) (x : Reached) → Tells L (marked_runs s) x → MarksReported s L x.edge (bit x.complete)
reported s L x t = record {
  complete_iff = Iff.trans (bit_iff x.complete) (Iff.trans t.complete_iff ((λ f n p. to n (f n p)), (λ f n p. from n (f n p))));
  edge_iff = λ n. Iff.trans (t.edge_iff n) ((λ p. (to n p.0, λ m q. p.1 m (from m q))), (λ p. (from n p.0, λ m q. p.1 m (to m q))));
  edge_none = Iff.trans t.edge_none ((λ f n p. f n (from n p)), (λ f n p. f n (to n p)));
}
  where
    to : (n : ℕ) → Member (marked_runs s) n → Marked s n
    to n = (marked_member s n).0

    from : (n : ℕ) → Marked s n → Member (marked_runs s) n
    from n = (marked_member s n).1

-- ---- opening

module _ (s packet : List ℕ) where
  pub open_number : (bitmap_opened_answer (open_marks s packet).answer).number ≡ open_refusal s packet
  unfolding open_marks open_as
  open_number = go (open_refusal s packet)
    where
      go : (n : ℕ) → (bitmap_opened_answer (open_as n s (key_of (metadata_of packet))).answer).number ≡ n
      go zero = refl
      go (suc n) = refl

  -- no mark is left: the edge is 0, and the transfer is complete exactly when its length is 0
  pub open_reports : (bitmap_opened_answer (open_marks s packet).answer).number ≡ 0
      → OpeningReported (open_marks s packet).marks (bitmap_opened_answer (open_marks s packet).answer)
  unfolding reached edge_from
  open_reports z =
      let e : open_refusal s packet ≡ 0 = sym open_number ∙ z in
      let k = key_of (metadata_of packet) in
      let r = reported (open_marks s packet).marks k.length (reached k []) (open_told s packet e k) in
      rw (open_answers s packet e) (record {
        told = r;
        nothing = refl;
        empty_iff = ((λ c. none (r.complete_iff.0 c) (r.edge_none.0 refl)), (λ c. r.complete_iff.1 (λ n p. absurd (omega arith))));
      })
    where
      none : {L : ℕ} → ((n : ℕ) → n < L → Marked (open_marks s packet).marks n) → ((n : ℕ) → Marked (open_marks s packet).marks n → ⊥) → L ≡ 0
      none {L} f g = ⊎_elim (λ (p : L ≤ 0). omega arith) (λ (p : 0 < L). absurd (g 0 (f 0 p))) (le_or_lt L 0)

-- ---- recording

module _ (b : Bitmap) (s packet : List ℕ) where
  -- what C gets
  abbrev answer : BitmapRecordedAnswer
  answer = bitmap_recorded_answer (record_held (held_from b) s packet) (record_marks (key_from b) s packet).answer

  pub record_number : answer.answer.number ≡ record_refusal (key_from b) s packet
  unfolding record_marks record_as
  record_number = go (record_refusal (key_from b) s packet)
    where
      go : (n : ℕ) → (recorded_answer (record_as n (key_from b) s (data_of packet)).answer).number ≡ n
      go zero = refl
      go (suc n) = refl

  pub record_reports : answer.answer.number ≡ 0 → RecordingReported s (record_marks (key_from b) s packet).marks b.length answer.answer
  record_reports z =
      let e : record_refusal (key_from b) s packet ≡ 0 = sym record_number ∙ z in
      rw (record_answers (key_from b) s packet e) (record {
        told = reported (record_marks (key_from b) s packet).marks b.length _ (record_told (key_from b) s packet e);
        counted = record_counted (key_from b) s packet e;
        new = record_adds (key_from b) s packet e;
      })

  -- R12.2: the record that is handed back: with the timestamp that the packet brings or, without one, that of the record; all zeros where it is refused
  pub record_hands_back : answer.answer.number ≡ 0 → answer.transfer ≡ bitmap_of (held_after (held_from b) (stamp_in packet (data_of packet)))
  unfolding record_held held_as
  record_hands_back z = ap (λ (n : ℕ). bitmap_of (held_as n (held_from b) (stamp_in packet (data_of packet)))) (sym record_number ∙ z)

  pub record_refused_back : (n : ℕ) → answer.answer.number ≡ suc n → answer.transfer ≡ no_bitmap
  unfolding record_held held_as
  record_refused_back n z = ap (λ (m : ℕ). bitmap_of (held_as m (held_from b) (stamp_in packet (data_of packet)))) (sym record_number ∙ z)
