-- R6.6, R6.8, R6.14: recording DATA in one transfer: which packets it refuses, and the received offsets after the others.
-- Assumes nothing.
use Rattle.std.specs.Prelude.{ℕ, ◌+◌, not, ◌&&◌, List, length, take, drop, ltb, eqb}
use Rattle.refusals.specs.Refusals.{◌▹◌, when}
use Rattle.packet_data.specs.declared.Data.{Data}
use Rattle.runs.specs.Runs.{Run, insert, absorbed, adds}
use Rattle.transfer.specs.declared.Key.{Key}
use Rattle.transfer.specs.declared.Receipt.{Receipt}
use Rattle.transfer.specs.Transfers.{reached}

-- R6.6: the first offset after those that the packet brings
abbrev pub stop_of : Data → ℕ
stop_of d = d.offset + d.length

-- R6.14: the timestamp that the packet brings: the 16 octets after the Id where bit 12 is set, and else none
unfoldable pub stamp_in : List ℕ → Data → List ℕ
stamp_in packet d = take d.timestamp (drop 8 packet)

-- R6.6: 13, 14, 15. They are judged by the key alone, and not by what was received
unfoldable pub key_refusal : Key → Data → ℕ
key_refusal k d =
    when (not (eqb d.width k.width)) 13
    ▹ when (ltb k.length (stop_of d)) 14
    ▹ when (eqb d.eod 1 && not (eqb (stop_of d) k.length)) 15

-- R6.6: the offsets of the payload are added
unfoldable pub extended : List Run → Data → List Run
extended rs d = insert d.offset (stop_of d) rs

-- R5.8: how many stored runs the packet absorbed
unfoldable pub absorbed_by : List Run → Data → ℕ
absorbed_by rs d = absorbed d.offset (stop_of d) rs

-- R5.9: whether the packet brings an offset that was not received
unfoldable pub adds_by : List Run → Data → ℕ
adds_by rs d = adds d.offset (stop_of d) rs

-- what an accepted recording tells of a transfer that then has the runs rs: how far it has come, that n runs were absorbed, and
-- whether something was added
abbrev pub receipt : Key → List Run → ℕ → ℕ → Receipt
receipt k rs n m = record { reached = reached k rs; absorbed = n; adds = m }

-- R9.16: 16 where the received set would have more than 64 runs
unfoldable pub runs_refusal : List Run → ℕ
runs_refusal rs = when (ltb 64 (length rs)) 16
