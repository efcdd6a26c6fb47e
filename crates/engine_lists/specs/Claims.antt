-- R19.14, R19.15, R19.18: what is claimed of every list of calls.
-- Assumes nothing.
use Rattle.std.specs.Prelude.{ℕ, ◌≤◌, ◌≡◌, true, List, length, take, Ok}
use Rattle.octets.specs.Numbers.{Octets}
use Rattle.area.specs.Judge.{judged}
use Rattle.engine_slots.specs.Layout.{snapshot_octets}
use Rattle.engine_model.specs.Snapshots.{Snapshot}
use Rattle.engine_model.specs.Claims.{Whole}
use Rattle.engine_model.specs.World.{run}
use Rattle.engine_state.specs.State.{snapshot_in}
use Rattle.engine_due.specs.declared.Waits.{Waits}
use Rattle.engine_next.specs.declared.Page.{Page}
use Rattle.engine_next.specs.declared.Next.TheVariants as next
use Rattle.engine_next.specs.Next.{next_state}
use Rattle.engine_tell.specs.Tell.{telling, letter_buffer}
use Rattle.engine_tell.specs.declared.Letter.{Letter}
use Rattle.engine_laws.specs.Speaks.{Holds}
use Rattle.engine_laws.specs.Told.{Tells}
use Rattle.engine_lists.specs.Calls.{Program, Call, program, AllFit}

-- octets that a start takes, and that hold the snapshot x
pub record Saved (a : List ℕ) (x : Snapshot) : Type 0 where
  pub octets : Octets a
  pub long : snapshot_octets ≤ length a
  pub fine : judged a ≡ true
  pub is : snapshot_in a ≡ x

-- the state holds the engine of the history, and what is saved is the area that the history leaves on disk
pub record Follows (p : Program) : Type 0 where
  pub holds : Holds p.state (run p.history).engine
  pub saved : Saved p.saved (run p.history).area

abbrev pub ListsFollow : Type 0
ListsFollow = (m z : List ℕ) (cs : List Call) → AllFit m z cs → Follows (program m z cs)

-- so after every list of calls a page that `next` says to report is whole on disk, for good
abbrev pub ListsReportWhole : Type 0
ListsReportWhole = (m z : List ℕ) (cs : List Call) → AllFit m z cs → (t : ℕ) (w : Waits) (from : ℕ) (x : Page)
    → next_state (program m z cs).state t w from ≡ Ok (next.Report x) → Whole (program m z cs).history x.id x.file x.length

-- and a STATUS that `tell` writes has no offset as received that is not kept
abbrev pub ListsTellKept : Type 0
ListsTellKept = (m z : List ℕ) (cs : List Call) → AllFit m z cs → (i : ℕ) (out : List ℕ) (x : Letter)
    → telling (program m z cs).state i out ≡ Ok x
    → Tells (program m z cs).history i (take x.size (letter_buffer (program m z cs).state i out))
