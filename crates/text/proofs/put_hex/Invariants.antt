-- `text::put_hex` meets its contract: before each turn the digits of the octets before it have been put. Assumes nothing.
use Rattle.std.proofs.Common.{take}
use Rattle.text.specs.Added.{Added}
use Rattle.text.specs.Hex.{hex_of}
use Rattle.text.proofs.put_hex.Given as goal

abbrev pub invariant-loop-b : goal.invariant-loop-b
invariant-loop-b l = Added l.initial.out l.at (hex_of (take l.b-index l.s)) l.out l.next
