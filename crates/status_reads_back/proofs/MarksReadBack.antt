-- On marks: where writing answers a size, the marks are those of a transfer as it should be.
-- Assumes nothing.
use Prim.Native.Nat.{ℕ, ◌^◌, ◌<◌}
use mathlib.Core.Path.{◌≡◌, sym, ◌∙◌}
use mathlib.Core.List.{List}
use native.Mathlib.Omega.{arith}
use lib.Dec.{leb}
use borrow.Author.Tests.{leb-false}
use Rattle.refusals.proofs.RefusalLaws.{first_none, rest_none, failed}
use Rattle.refusals.proofs.WritingLaws.{written_size}
use Rattle.runs.proofs.CanonicalLaws.{stops_iff}
use Rattle.runs.proofs.EdgeLaws.{edge_above}
use Rattle.transfer.specs.declared.Key.{Key}
use Rattle.transfer.specs.Transfers.{TransferFine, transfer_of}
use Rattle.transfer.proofs.LengthLaws.{length_passed}
use Rattle.marks.specs.MarkedRuns.{marked_runs}
use Rattle.marks.proofs.MarkLaws.{marked_canonical}
use Rattle.timestamp.specs.Timestamps.{kept_octets}
use Rattle.timestamp.proofs.KeptLaws.{kept_is}
use Rattle.bitmap.specs.State.{state_refusal}
use Rattle.bitmap.specs.declared.Held.{Held}
use Rattle.bitmap_status.specs.WriteStatus.{id_refusal, status_refusal, marks_written}
use Rattle.bitmap.proofs.StateLaws.{state_known}
use Rattle.bitmap_status.proofs.StatusLaws.{status_of_lem}
use Rattle.status_reads_back.specs.ReadsBack.{MarksReadBack}
use Rattle.status_reads_back.proofs.TransferReads.{buffer_reads}

marks_fine : (h : Held) (s : List ℕ) → state_refusal h.key s ≡ 0 → h.key.id < 2 ^ 32 → TransferFine (transfer_of h.key (marked_runs s) (kept_octets h.kept))
marks_fine h s e low =
    let k = h.key in
    let f = state_known k s e in
    let l = length_passed k.width k.length f.taken in
    let c = marked_canonical s in
    record {
      id_fits = low;
      width_is = l.0;
      length_fits = l.1;
      length_held = l.2;
      few = f.few;
      canonical = c;
      within = (stops_iff k.length (marked_runs s) c).1 (λ o m. omega (arith, edge_above (marked_runs s) o c m, f.within));
      stamp_is = kept_is h.kept;
    }

-- where neither the marks nor the Id is refused
taken : (k : Key) (s : List ℕ) → id_refusal k s ≡ 0 → (state_refusal k s ≡ 0) × (k.id < 2 ^ 32)
unfolding id_refusal
taken k s e = (first_none _ _ e, leb-false (2 ^ 32) k.id (failed (leb (2 ^ 32) k.id) 11 (rest_none (state_refusal k s) _ e)))

pub marks_read_back : MarksReadBack
unfolding marks_written
marks_read_back h s k unasked old n e =
    let z = (written_size (status_refusal h s k unasked old) _ n e).0 in
    let t = taken h.key s (first_none (id_refusal h.key s) _ z) in
    let is = status_of_lem h s k unasked old t.0 t.1 in
    rw is.1 (buffer_reads h.key (marked_runs s) (kept_octets h.kept) (marks_fine h s t.0 t.1) k unasked old n (sym is.0 ∙ e))
