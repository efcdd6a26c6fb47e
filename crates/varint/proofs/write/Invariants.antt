-- `varint::write` meets its contract: the octets that are still to be written, put on the buffer as it is, always give the whole.
-- Assumes nothing.
use Prim.Native.Nat.{◌+◌, ◌^◌, ◌<◌}
use mathlib.Core.Path.{◌≡◌}
use lib.ListN.{length}
use Rattle.octets.specs.Put.{put}
use Rattle.varint.specs.Varint.{varint_octets}
use Rattle.varint.proofs.write.Given as goal

abbrev pub invariant-loop-rest : goal.invariant-loop-rest
invariant-loop-rest l =
    (l.rest < 2 ^ 64) × (length l.out ≡ length l.initial.out) × (l.next + length (varint_octets l.rest) ≡ l.at + length (varint_octets l.n))
    × (put l.next (varint_octets l.rest) l.out ≡ put l.at (varint_octets l.n) l.initial.out)

abbrev pub decreases-loop-rest : goal.decreases-loop-rest
decreases-loop-rest l = l.rest
