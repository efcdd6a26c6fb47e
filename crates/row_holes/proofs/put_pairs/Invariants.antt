-- `row_holes::put_pairs` meets its contract. The loop's invariant: the holes that are left, put into the buffer as it is now, are
-- all of them put into the buffer as it was.
-- Assumes nothing.
use Prim.Native.Nat.{◌+◌, ◌*◌, ◌-◌, ◌≤◌}
use mathlib.Core.Path.{◌≡◌}
use lib.ListN.{length, take, drop}
use Rattle.octets.specs.Put.{put}
use Rattle.runs.specs.Holes.{holes}
use Rattle.run_rows.specs.Rows.{runs_in}
use Rattle.hole_list.specs.Pairs.{pairs}
use Rattle.row_holes.proofs.put_pairs.Given as goal

abbrev pub invariant-loop-k : goal.invariant-loop-k
invariant-loop-k l =
    (length l.out ≡ length l.initial.out) × (l.at + 2 * l.width * (l.count - l.k) ≤ length l.initial.out)
    × (put l.at (pairs l.width (take (l.count - l.k) (drop (l.first + l.k) (holes (runs_in l.buf l.rows))))) l.out
    ≡ put l.from (pairs l.width (take l.count (drop l.first (holes (runs_in l.buf l.rows))))) l.initial.out)
