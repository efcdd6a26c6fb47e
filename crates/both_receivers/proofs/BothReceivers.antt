-- The theorem: from an opening on, the table agrees with the record and the marks on the transfer, so that each recording and each STATUS is
-- the same on both.
-- Assumes nothing.
use Prim.Native.Nat.{ℕ, zero, suc, ◌≤◌}
use mathlib.Core.Path.{◌≡◌, refl, sym, ap, ap₂, ◌∙◌}
use mathlib.Core.List.{List, [], ◌∷◌}
use mathlib.Core.Option.{some}
use lib.ListN.{take}
use Rattle.timestamp.specs.declared.Kept.{Kept}
use Rattle.timestamp.proofs.KeptLaws.{kept_none}
use Rattle.octets.specs.Numbers.{Octets}
use Rattle.transfer.specs.declared.Key.{Key}
use Rattle.transfer.specs.Transfers.{Transfer, reached}
use Rattle.table.specs.Tables.{keys, find}
use Rattle.table.specs.Record.{record_packet}
use Rattle.table.specs.WriteStatus.{written_for, buffer_for, status_written, status_buffer}
use Rattle.table.proofs.FineLaws.{fine_found}
use Rattle.area.specs.Judge.{table_of}
use Rattle.area.specs.Operations.{OnArea, open_area, area_status_written, area_status_buffer}
use Rattle.area.proofs.JudgeLaws.{held_valid}
use Rattle.area.proofs.OperationLaws.{record_held_lem, record_leaves, from_held}
use Rattle.marks.specs.Marks.{cleared}
use Rattle.marks.proofs.MarkLaws.{length_cleared, runs_cleared}
use Rattle.bitmap.specs.State.{unstamped, longest}
use Rattle.bitmap.specs.declared.Opening.{Opening}
use Rattle.bitmap.proofs.ToldLaws.{marks_opened}
use Rattle.bitmap_status.proofs.StatusLaws.{status_of_lem}
use Rattle.both_receivers.specs.Both.{Bitmap, on_area, on_marks, answers, after, AllOctets, ForNoOther, NoneForAnother, SameStatus, Alike, BothReceivers}
use Rattle.both_receivers.proofs.RecordLaws.{held_with, Agree, found_in, no_fault, follows}
use Rattle.both_receivers.proofs.OpenLaws.{key_in, area_opened}
use Rattle.std.specs.Prelude.{Result}
use Rattle.refusals.specs.declared.Refusal.{Refusal}
use Rattle.transfer.specs.declared.Receipt.{Receipt}

-- the area b, that the opening left, holds u, in which the transfer is open
module _ (b : List ℕ) (u : List Transfer) (held : table_of b ≡ some u) (k : Key) (found : find k.id (keys u) ≡ some k) (short : k.length ≤ longest) where
  -- an area, and a record with marks, after it
  record Together (a : List ℕ) (m : Bitmap) : Type 0 where
    table : List Transfer
    holds : table_of a ≡ some table
    keeps : Kept
    held_is : m.held ≡ held_with (keys u) k found short keeps
    agree : Agree (keys u) k found short table keeps m.marks

  -- ---- a recording

  recorded : (a : List ℕ) (m : Bitmap) (packet : List ℕ) → Octets packet → ForNoOther b k.id packet → Together a m
      → ((on_area a packet).0 ≡ (on_marks m packet).0) × Together (on_area a packet).1 (on_marks m packet).1
  recorded a m packet octets only h =
      let t = h.table in
      let f = follows (keys u) k found short t h.keeps m.marks packet (held_valid a t h.holds) h.agree octets (λ d e j q. only d e (u, j, held, q)) in
      rw h.held_is (
        ap (λ (o : OnArea (Result Receipt Refusal)). o.answer) (record_held_lem a packet t h.holds) ∙ f.same,
        record {
          table = (record_packet t packet).table;
          holds = record_leaves a t h.holds packet octets;
          keeps = f.keeps;
          held_is = f.goes_on_lem;
          agree = f.agree;
        },
      )

  all_answers : (a : List ℕ) (m : Bitmap) (ps : List (List ℕ)) → AllOctets ps → NoneForAnother b k.id ps → Together a m → answers on_area a ps ≡ answers on_marks m ps
  unfolding answers
  all_answers a m [] octets only h = refl
  all_answers a m (p ∷ ps) octets only h =
      let r = recorded a m p octets.0 only.0 h in
      ap₂ (λ (x : Result Receipt Refusal) (xs : List (Result Receipt Refusal)). x ∷ xs) r.0 (all_answers (on_area a p).1 (on_marks m p).1 ps octets.1 only.1 r.1)

  all_together : (a : List ℕ) (m : Bitmap) (n : ℕ) (ps : List (List ℕ)) → AllOctets ps → NoneForAnother b k.id ps → Together a m
      → Together (after on_area a (take n ps)) (after on_marks m (take n ps))
  unfolding after
  all_together a m zero ps octets only h = h
  all_together a m (suc n) [] octets only h = h
  all_together a m (suc n) (p ∷ ps) octets only h =
      all_together (on_area a p).1 (on_marks m p).1 n ps octets.1 only.1 (recorded a m p octets.0 only.0 h).1

  -- ---- STATUS

  status : (a : List ℕ) (m : Bitmap) → Together a m → SameStatus a k.id m
  unfolding area_status_written area_status_buffer status_written status_buffer written_for buffer_for
  status a m h =
      let t = h.table in
      let s = m.marks in
      let c = held_with (keys u) k found short h.keeps in
      let v = held_valid a t h.holds in
      let f = found_in (keys u) k found short t h.keeps s h.agree in
      let fit = no_fault (keys u) k found short t h.keeps s v h.agree in
      let low = (fine_found 0 k.id t k v.fine f).id_fits in
      record {
        same_answer = λ skip unasked buffer.
            from_held _ (λ x. status_written x k.id skip unasked buffer) a t h.holds
            ∙ rw (f, h.agree.same_runs, h.agree.same_stamp, h.held_is) (sym (status_of_lem c s skip unasked buffer fit low).0);
        same_buffer = λ skip unasked buffer.
            from_held buffer (λ x. status_buffer x k.id skip unasked buffer) a t h.holds
            ∙ rw (f, h.agree.same_runs, h.agree.same_stamp, h.held_is) (sym (status_of_lem c s skip unasked buffer fit low).1);
      }

  alike : (a : List ℕ) (m : Bitmap) (ps : List (List ℕ)) → AllOctets ps → NoneForAnother b k.id ps → Together a m → Alike a k.id m ps
  alike a m ps octets only h = record {
    same_answers = all_answers a m ps octets only h;
    same_status = λ n. status _ _ (all_together a m n ps octets only h);
  }

-- ---- from an opening

pub both_receivers : BothReceivers
both_receivers a s m octets x o new also ps all only =
    let w = marks_opened s m o also in
    let y = area_opened a m x octets new in
    let is : o.held ≡ unstamped (key_in m) = ap (λ (z : Opening). z.held) w.opened in
    let told : o.reached ≡ reached (key_in m) [] = ap (λ (z : Opening). z.reached) w.opened in (
      y.opened.told ∙ sym told,
      rw (is, w.left)
          (alike (open_area a m).area y.table y.held (key_in m) y.opened.found w.held (open_area a m).area
          (record { held = unstamped (key_in m); marks = cleared s }) ps all (rw is at only)
          (record {
            table = y.table;
            holds = y.held;
            keeps = (unstamped (key_in m)).kept;
            held_is = refl;
            agree = record {
              are_open = refl;
              same_runs = y.opened.none_received ∙ sym (runs_cleared s);
              same_stamp = y.opened.none_kept ∙ sym (kept_none (unstamped (key_in m)).kept refl);
              long = rw (length_cleared s w.enough) w.enough;
            };
          })),
    )
