-- `text::put_hex` meets its contract: before each turn the digits of the octets before it have been put. Assumes nothing.
use Rattle.std.proofs.Common.{arith}
use Rattle.text.specs.Hex.{hex_of}
use Rattle.text.proofs.AddedLaws.{added_none}
use Rattle.text.proofs.HexLaws.{hex_next}
use Rattle.text.proofs.put_hex.Goals as goal

pub loop-b-init : goal.loop-b-init
unfolding hex_of
loop-b-init c = added_none c.args.out.now c.args.at (omega arith)

pub loop-b-preserved : goal.loop-b-preserved
loop-b-preserved c =
    let l = c.loop-b in
    hex_next c.args.s.now l.b-index _ _ (omega arith) c.digit.ensures c.digit-in-loop-b.ensures l.invariant c.push-high.ensures c.push-next.ensures
