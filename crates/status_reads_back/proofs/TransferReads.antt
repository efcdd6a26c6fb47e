-- The STATUS of a transfer as it should be, and what a writer leaves of it in a buffer, read as a packet.
-- Assumes nothing.
use Prim.Native.Nat.{ℕ}
use mathlib.Core.Path.{◌≡◌, ap, ◌∙◌}
use mathlib.Core.Bool.{Bool}
use mathlib.Core.List.{List}
use lib.ListN.{length, take}
use Rattle.octets.proofs.PutLaws.{take_put}
use Rattle.refusals.proofs.WritingLaws.{written_size}
use Rattle.runs.specs.Runs.{Run}
use Rattle.runs.specs.Holes.{holes}
use Rattle.runs.specs.declared.Hole.{Hole}
use Rattle.packet.specs.Read.{of_status, read_type}
use Rattle.packet.proofs.CaseLaws.{read_typed}
use Rattle.transfer.specs.declared.Key.{Key}
use Rattle.transfer.specs.Transfers.{Transfer, TransferFine, transfer_of}
use Rattle.transfer_status.specs.WriteStatus.{size_refusal, status_packet, transfer_refused, transfer_written, transfer_buffer}
use Rattle.transfer_status.proofs.StatusSize.{status_fits, holes_sent_at}
use Rattle.transfer_status.proofs.StatusReads.{status_typed, status_read, status_stamp_read, status_holes_read, status_hole_read, status_hole_past}
use Rattle.status_reads_back.specs.ReadsBack.{ReadsAs}
use Rattle.std.specs.Prelude.{Ok}

module _ (x : Transfer) (fine : TransferFine x) (k : ℕ) (unasked : Bool) (room : ℕ) where
  packet_reads : size_refusal (length x.stamp) x.key.width (length (holes x.runs)) k room ≡ 0
      → ReadsAs x.key x.runs x.stamp k unasked room (status_packet x.key x.runs x.stamp k unasked room)
  unfolding read_type
  packet_reads ok =
      let allowed = (status_fits (length x.stamp) x.key.width (length (holes x.runs)) k room ok).allowed in
      record {
        fields = read_typed 4 _ (status_typed x k unasked room fine allowed) ∙ ap of_status (status_read x k unasked room fine allowed);
        stamp = status_stamp_read x k unasked room fine;
        listed = status_holes_read x k unasked room fine;
        by_index = λ i default h.
            status_hole_read x k unasked room fine allowed i default h
            ∙ ap (λ (y : Hole). Ok y) (holes_sent_at (length x.stamp) x.key.width k room (holes x.runs) i default h);
        no_more = λ i h. status_hole_past x k unasked room fine allowed i h;
      }

pub buffer_reads : (key : Key) (rs : List Run) (s : List ℕ) → TransferFine (transfer_of key rs s) → (k : ℕ) (unasked : Bool) (old : List ℕ) (n : ℕ)
    → transfer_written key rs s k unasked old ≡ Ok n
    → ReadsAs key rs s k unasked (length old) (take n (transfer_buffer key rs s k unasked old))
unfolding transfer_written transfer_buffer
buffer_reads key rs s fine k unasked old n e =
    let p = status_packet key rs s k unasked (length old) in
    let w = written_size (transfer_refused key rs s k unasked old) (length p) n e in
    rw (w.0, take_put n p old w.1) (packet_reads (transfer_of key rs s) fine k unasked (length old) w.0)
