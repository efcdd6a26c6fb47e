-- R7.1 to R7.8, R7.10: which fields and holes the STATUS of one transfer has, after k holes are skipped, unasked or not.
-- Assumes nothing.
use Rattle.std.specs.Prelude.{ℕ, zero, suc, ◌*◌, ◌-◌, ◌/◌, Bool, cond, not, ◌&&◌, ◌||◌, List, length, take, drop, ltb, eqb, Result}
use Rattle.refusals.specs.Refusals.{◌▹◌, when}
use Rattle.refusals.specs.Writing.{written_of, buffer_after}
use Rattle.runs.specs.Runs.{Run}
use Rattle.runs.specs.Holes.{edge, holes, progress, complete}
use Rattle.runs.specs.declared.Hole.{Hole}
use Rattle.success_status.specs.SuccessStatus.{front_size, status_size, status_octets}
use Rattle.success_status.specs.declared.Fields.{Fields}
use Rattle.transfer.specs.declared.Key.{Key}
use Rattle.refusals.specs.declared.Refusal.{Refusal}

-- ---- 19 and 20, with ts octets of timestamp, descriptors of d octets and n holes

-- R7.1: k is neither 0 nor less than the number of holes
unfoldable pub skips_too_many : ℕ → ℕ → Bool
skips_too_many k n = not (eqb k 0) && not (ltb k n)

-- R7.8: the octets that a STATUS has at least: with one hole, where there are holes
unfoldable pub least_room : ℕ → ℕ → ℕ → ℕ
least_room ts d n = cond (eqb n 0) (front_size ts d) (status_size ts d 1)

unfoldable pub size_refusal : ℕ → ℕ → ℕ → ℕ → ℕ → ℕ
size_refusal ts d n k room = when (skips_too_many k n) 19 ▹ when (ltb room (least_room ts d n)) 20

-- ---- the holes that are written

-- how many holes a buffer of so many octets has room for
unfoldable pub hole_room : ℕ → ℕ → ℕ → ℕ
hole_room ts d room = (room - front_size ts d) / (2 * d)

-- R7.2: after the first k, as many as fit, the lowest first
unfoldable pub holes_sent : ℕ → ℕ → ℕ → ℕ → List Hole → List Hole
holes_sent ts d k room hs = take (hole_room ts d room) (drop k hs)

-- R7.3: some of n holes was skipped or did not fit
unfoldable pub partial_sent : ℕ → ℕ → ℕ → ℕ → ℕ → Bool
partial_sent ts d k room n = ltb 0 k || ltb (hole_room ts d room) (n - k)

-- ---- the fields

-- R7.5: the last offset of a complete transfer, or 0 where it has none
unfoldable pub last_offset : ℕ → ℕ
last_offset zero = 0
last_offset (suc n) = n

-- R7.5: In-Response-To, which is the edge until the transfer is complete
unfoldable pub response_sent : ℕ → List Run → ℕ
response_sent L rs = cond (complete L rs) (last_offset L) (edge rs)

-- R7.4: with bit 14 by `partial`, and bit 15 where unasked or complete
abbrev pub fields_sent : Key → List Run → Bool → Bool → Fields
fields_sent key rs partial unasked =
    record {
      id = key.id;
      width = key.width;
      partial = partial;
      unasked = unasked || complete key.length rs;
      progress = progress rs;
      response = response_sent key.length rs;
    }

-- R7.10: the STATUS of a transfer that keeps the timestamp s
unfoldable pub status_packet : Key → List Run → List ℕ → ℕ → Bool → ℕ → List ℕ
status_packet key rs s k unasked room =
    let d = key.width in
    let ts = length s in
    let hs = holes rs in
    status_octets (fields_sent key rs (partial_sent ts d k room (length hs)) unasked) s (holes_sent ts d k room hs)

-- ---- the writer's answer, and the buffer at exit

module _ (key : Key) (rs : List Run) (s : List ℕ) (k : ℕ) (unasked : Bool) (old : List ℕ) where
  abbrev pub transfer_refused : ℕ
  transfer_refused = size_refusal (length s) key.width (length (holes rs)) k (length old)

  unfoldable pub transfer_written : Result ℕ Refusal
  transfer_written = written_of transfer_refused (length (status_packet key rs s k unasked (length old)))

  unfoldable pub transfer_buffer : List ℕ
  transfer_buffer = buffer_after transfer_refused (status_packet key rs s k unasked (length old)) old
