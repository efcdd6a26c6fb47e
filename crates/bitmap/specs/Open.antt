-- R12.2, R12.3: opening by METADATA.
-- Assumes nothing.
use Rattle.std.specs.Prelude.{ℕ, zero, suc, List, [], ltb, Result, Ok, Err}
use Rattle.refusals.specs.Refusals.{◌▹◌, when, refusal_of}
use Rattle.packet_metadata.specs.Metadata.{metadata_refusal, metadata_of}
use Rattle.transfer.specs.declared.Key.{Key}
use Rattle.transfer.specs.Transfers.{key_of, reached}
use Rattle.transfer.specs.Opening.{new_refusal}
use Rattle.marks.specs.Marks.{cleared}
use Rattle.bitmap.specs.State.{Left, unstamped, longest, marks_refusal}
use Rattle.refusals.specs.declared.Refusal.{Refusal}
use Rattle.bitmap.specs.declared.Opening.{Opening}

-- R12.3: 20, the reader's refusals, 9 for a length above 65,535, and 23
unfoldable pub open_refusal : List ℕ → List ℕ → ℕ
open_refusal s packet = marks_refusal s ▹ metadata_refusal packet ▹ when (ltb longest (key_of (metadata_of packet)).length) 9 ▹ new_refusal (metadata_of packet).flags

-- R12.3, R6.14: nothing is received then, whatever was marked before, and no timestamp is kept
unfoldable pub open_as : ℕ → List ℕ → Key → Left (Result Opening Refusal)
open_as zero s k = record { answer = Ok (record { held = unstamped k; reached = reached k [] }); marks = cleared s }
open_as (suc n) s k = record { answer = Err (refusal_of (suc n)); marks = s }

unfoldable pub open_marks : List ℕ → List ℕ → Left (Result Opening Refusal)
open_marks s packet = open_as (open_refusal s packet) s (key_of (metadata_of packet))
