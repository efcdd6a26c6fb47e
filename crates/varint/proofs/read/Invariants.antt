-- `varint::read` meets its contract: what is left to read, with what is known of the octets before, always gives the whole.
-- Assumes nothing.
use Rattle.std.proofs.Common.{drop}
use Rattle.varint.proofs.ReadingLaws.{Reading}
use Rattle.varint.proofs.read.Given as goal

abbrev pub invariant-loop-k : goal.invariant-loop-k
invariant-loop-k l = Reading (drop l.at l.s) l.k l.value l.scale
