-- `row_status::write_rows` meets its contract: where nothing is refused, the packet stands in the buffer.
-- Assumes nothing.
use Prim.Native.Nat.{◌-◌, min}
use mathlib.Core.Path.{◌≡◌, sym, ◌∙◌}
use lib.ListN.{length}
use Rattle.runs.specs.Holes.{holes}
use Rattle.run_rows.specs.Rows.{runs_in}
use Rattle.timestamp.specs.Timestamps.{kept_octets}
use Rattle.transfer_status.specs.WriteStatus.{hole_room, transfer_refused}
use Rattle.transfer_status.proofs.StatusWriter.{transfer_written_lem}
use Rattle.row_status.proofs.write_rows.Goals as goal

pub returns : goal.returns
returns c =
    let a = c.args in
    let rs = runs_in a.buf.now a.rows in
    let s = kept_octets a.kept in
    let stamp_is : c.stamp_octets-stamp.result ≡ length s = c.stamp_octets-stamp.ensures in
    let none : transfer_refused a.key rs s a.skip a.unasked a.out.now ≡ 0 = sym (rw (stamp_is, c.hole_count-holes.ensures) at c.in_ok-size_refusal.ensures) in
    let count_is : c.holes_to_send-count.result ≡ min (length (holes rs) - a.skip) (hole_room (length s) a.key.width (length a.out.now))
    = c.holes_to_send-count.ensures ∙ rw (c.hole_count-holes.ensures, stamp_is) in
    transfer_written_lem a.key rs s a.skip a.unasked a.out.now c.requires.1 none
    c.partial_sent-partial.result c.holes_to_send-count.result _ _ _
    (c.partial_sent-partial.ensures ∙ rw (c.hole_count-holes.ensures, stamp_is)) count_is (c.status_size-size.ensures ∙ rw stamp_is)
    c.put_front.ensures (c.put_holes.ensures ∙ rw (c.front_size-front.ensures, stamp_is))
