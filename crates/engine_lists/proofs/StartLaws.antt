-- A start: what is saved is taken, and a snapshot with nothing open is the empty one.
-- Assumes nothing.
use Prim.Native.Nat.{ℕ, ◌^◌, ◌≤◌, ◌<◌}
use mathlib.Core.Path.{◌≡◌, refl, subst}
use mathlib.Core.Bool.{true}
use mathlib.Core.List.{List}
use native.Mathlib.Omega.{arith}
use lib.ListN.{length}
use borrow.Author.Tests.{le-leb, le-ltb}
use Rattle.words.specs.Words.{word_at}
use Rattle.area.specs.Layout.{area_octets}
use Rattle.area.specs.Places.{transfers_from}
use Rattle.area.specs.Judge.{fine_test, judged}
use Rattle.engine_slots.specs.Layout.{snapshot_octets}
use Rattle.engine_slots.specs.Slots.{slots_from}
use Rattle.engine_model.specs.Snapshots.{Snapshot, empty_snapshot}
use Rattle.engine_model.specs.Meetings.{last_number}
use Rattle.engine_model.specs.Engine.{started}
use Rattle.engine_state.specs.Layout.{state_octets}
use Rattle.engine_state.specs.State.{snapshot_in}
use Rattle.engine_sync.specs.Syncs.{start_refusal, started_state}
use Rattle.engine_laws.specs.Speaks.{Holds}
use Rattle.engine_laws.proofs.Theorems.{starting_speaks}
use Rattle.engine_lists.specs.Calls.{Memory, Blank}
use Rattle.engine_lists.specs.Claims.{Saved}

blank_is : (z : List ℕ) → word_at z 0 ≡ 0 → snapshot_in z ≡ empty_snapshot
unfolding transfers_from slots_from
blank_is z e = λ k. record { table = transfers_from z 0 (e k); slots = slots_from z 0 (e k) }

blank_fine : (z : List ℕ) → snapshot_octets ≤ length z → word_at z 0 ≡ 0 → judged z ≡ true
unfolding judged fine_test transfers_from
blank_fine z l e = rw (le-leb area_octets (length z) (omega arith), e) refl

pub blank_saved : (z : List ℕ) → Blank z → Saved z empty_snapshot
blank_saved z b =
    record { octets = b.octets; long = b.long; fine = blank_fine z b.long b.none; is = blank_is z b.none }

not_refused : (m a : List ℕ) (n : ℕ) → state_octets ≤ length m → snapshot_octets ≤ length a → judged a ≡ true → n ≤ last_number → start_refusal m a n ≡ 0
unfolding start_refusal
not_refused m a n long whole fine low =
    rw (le-ltb (length m) state_octets long, le-ltb (length a) snapshot_octets whole, fine, le-ltb last_number n low) refl

-- in any memory, from what is saved
pub starts : (m a : List ℕ) (x : Snapshot) (n next : ℕ) → Memory m → Saved a x → n ≤ last_number → next < 2 ^ 64 → Holds (started_state m a n next) (started x n next)
starts m a x n next memory saved low fits =
    subst (λ (y : Snapshot). Holds (started_state m a n next) (started y n next)) saved.is
    (starting_speaks m a n next memory.octets saved.octets fits (not_refused m a n memory.long saved.long saved.fine low))
