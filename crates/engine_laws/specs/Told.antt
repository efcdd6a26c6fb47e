-- R19.14, R19.15, R19.18: what the code says to report or to answer, after any history: the claims of the model, of the code's own answers.
-- Assumes nothing.
use Rattle.std.specs.Prelude.{ℕ, ◌<◌, ◌≡◌, List, [], ◌∷◌, ◌⊎◌, take, Ok}
use Rattle.header.specs.FirstWord.{partial_of}
use Rattle.runs.specs.Holes.{InHole}
use Rattle.runs.specs.declared.Hole.{Hole}
use Rattle.packet_status.specs.Status.{hole_list, read_status}
use Rattle.packet_status.specs.declared.SuccessStatus.{SuccessStatus}
use Rattle.packet_status.specs.declared.Status.TheVariants as status
use Rattle.engine_model.specs.Snapshots.{slot_of, file_of}
use Rattle.engine_model.specs.Engine.{Event}
use Rattle.engine_model.specs.World.{run}
use Rattle.engine_model.specs.Claims.{Kept, Whole}
use Rattle.engine_due.specs.declared.Waits.{Waits}
use Rattle.engine_next.specs.declared.Page.{Page}
use Rattle.engine_next.specs.declared.Next.TheVariants as next
use Rattle.engine_next.specs.Next.{next_state}
use Rattle.engine_tell.specs.Tell.{telling, letter_buffer}
use Rattle.engine_tell.specs.declared.Letter.{Letter}
use Rattle.engine_laws.specs.Speaks.{Holds}

-- a page that `next` says to report is whole on disk, for good
abbrev pub ReportsWhole : Type 0
ReportsWhole = (h : List Event) (s : List ℕ) (t : ℕ) (w : Waits) (from : ℕ) (x : Page) → Holds s (run h).engine → next_state s t w from ≡ Ok (next.Report x)
    → Whole h x.id x.file x.length

-- ---- STATUS, as its reader takes it

-- the offset o is below the end of some hole of the list
abbrev pub BelowHole : List Hole → ℕ → Type 0
BelowHole [] o = ⊥
BelowHole (x ∷ xs) o = (o < x.end) ⊎ BelowHole xs o

-- a STATUS has the offset o as received: o is in no hole that is listed; and it is below Progress, or below the end of a hole that is
-- listed, or below In-Response-To where the list is complete
pub record HasReceived (p : List ℕ) (f : SuccessStatus) (o : ℕ) : Type 0 where
  pub in_none : InHole (hole_list p) o → ⊥
  pub below : (o < f.progress) ⊎ (BelowHole (hole_list p) o ⊎ ((partial_of f.flags ≡ 0) × (o < f.response)))

-- the octets p are a STATUS of the Id i, and each offset that it has as received is kept
pub record Tells (h : List Event) (i : ℕ) (p : List ℕ) : Type 0 where
  pub fields : SuccessStatus
  pub read : read_status p ≡ Ok (status.Success fields)
  pub of_id : fields.id ≡ i
  pub kept : (o : ℕ) → HasReceived p fields o → Kept h i (file_of (run h).engine.synced i) o

-- what `tell` writes is such a STATUS, and goes to the owner of the file
pub record TellsKept : Type 0 where
  pub tells : (h : List Event) (s : List ℕ) (i : ℕ) (out : List ℕ) (x : Letter) → Holds s (run h).engine → telling s i out ≡ Ok x
      → Tells h i (take x.size (letter_buffer s i out))
  pub to_owner : (h : List Event) (s : List ℕ) (i : ℕ) (out : List ℕ) (x : Letter) → Holds s (run h).engine → telling s i out ≡ Ok x
      → x.to ≡ (slot_of (run h).engine.synced i).owner
