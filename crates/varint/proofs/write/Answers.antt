-- `varint::write` meets its contract: the octets that are still to be written, put on the buffer as it is, always give the whole.
-- Assumes nothing.
use mathlib.Core.Path.{◌≡◌, sym, ◌∙◌}
use native.Mathlib.Omega.{arith}
use lib.ListN.{length, length-set}
use Rattle.varint.specs.Varint.{varint_octets}
use Rattle.varint.proofs.WrittenLaws.{length_large, write_step}
use Rattle.varint.proofs.write.Goals as goal

pub loop-rest-preserved : goal.loop-rest-preserved
loop-rest-preserved c =
    let l = c.loop-rest in
    let i = l.invariant in
    let more : length (varint_octets l.rest) ≡ _ = length_large l.rest (omega arith) i.0 in (
      omega arith,
      length-set l.out _ _ ∙ i.1,
      omega arith,
      sym (write_step l.out l.next l.rest (omega arith) i.0 (omega arith)) ∙ i.3,
    )
