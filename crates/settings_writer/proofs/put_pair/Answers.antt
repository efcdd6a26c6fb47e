-- `settings_writer::put_pair` meets its contract: the key, and the value after it. Assumes nothing.
use lib.ListN.{length-append}
use native.Mathlib.Omega.{arith}
use Rattle.varint.specs.Varint.{varint_octets}
use Rattle.settings_writer.proofs.WritingLaws.{put_two}
use Rattle.settings_writer.proofs.put_pair.Goals as goal

pub returns : goal.returns
returns c =
    let a = c.args in
    let k = varint_octets a.key in
    let v = varint_octets a.value in (
      omega (arith, length-append k v),
      rw (c.write.ensures.1, c.write-next.ensures.1) (put_two a.at _ k v a.out.now c.write-next.ensures.0 c.requires),
    )
