-- R4.1: what every writer answers, and what it leaves in the lent buffer.
-- Assumes nothing.
use Rattle.std.specs.Prelude.{ℕ, zero, suc, List, ltb, Result, Ok, Err}
use Rattle.octets.specs.Put.{put}
use Rattle.refusals.specs.Refusals.{◌▹◌, when, answered}
use Rattle.refusals.specs.declared.Refusal.{Refusal}

-- R4.2: 2, then 20, come last: for a packet of so many octets, in a buffer of so many
unfoldable pub room_refusal : ℕ → ℕ → ℕ
room_refusal size room = when (ltb 65535 size) 2 ▹ when (ltb room size) 20

-- the answer: the size of the packet, or the refusal
abbrev pub written_of : ℕ → ℕ → Result ℕ Refusal
written_of n size = answered Err n (Ok size)

-- R4.1, R1.6: the buffer at exit: the packet, and the octets after it as they were; on refusal all as they were
abbrev pub buffer_after : ℕ → List ℕ → List ℕ → List ℕ
buffer_after zero packet old = put 0 packet old
buffer_after (suc n) packet old = old
