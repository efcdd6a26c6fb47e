-- R19.10: what is to be done next, at a time: of each transfer in its order, from an Id on, what is due (engine_due: Due); then a sync.
-- Assumes nothing.
use Rattle.std.specs.Prelude.{ℕ, Bool, true, false, cond, ◌&&◌, ◌||◌, not, List, [], ◌∷◌, ltb, eqb, Result, Ok, Err}
use Rattle.std.proofs.Math.Option.{Option, none, some}
use Rattle.refusals.specs.Refusals.{refusal_of}
use Rattle.transfer.specs.declared.Key.{Key}
use Rattle.transfer.specs.Transfers.{Transfer}
use Rattle.engine_slots.specs.declared.Slot.{Slot}
use Rattle.engine_model.specs.Snapshots.{key_in, slot_of, file_of}
use Rattle.engine_model.specs.Engine.{Engine, may_sync}
use Rattle.engine_state.specs.State.{engine_in, held_state}
use Rattle.engine_due.specs.declared.Waits.{Waits}
use Rattle.engine_due.specs.Due.{is_over, kind_from}
use Rattle.engine_next.specs.declared.Page.{Page}
use Rattle.engine_next.specs.declared.Next.{Next}
use Rattle.engine_next.specs.declared.Next.TheVariants.{Answer, Name, Report, Close, Sync, Nothing}
use Rattle.refusals.specs.declared.Refusal.{Refusal}

-- ---- of one transfer

-- the page of an Id, as it is on disk: only this is named and reported
unfoldable pub page_by : Option Key → ℕ → ℕ → Page
page_by none i f = record { id = i; file = 0; length = 0 }
page_by (some k) i f = record { id = i; file = f; length = k.length }

unfoldable pub page_of : Engine → ℕ → Page
page_of e i = page_by (key_in e.synced i) i (file_of e.synced i)

unfoldable pub next_by : ℕ → Page → Next
next_by k x = cond (eqb k 2) (Answer x.id) (cond (eqb k 3) (Name x) (cond (eqb k 4) (Report x) (Close x.id)))

-- ---- a sync

-- it is wanted soon: an answer waits for it, or a name
unfoldable pub is_urgent : ℕ → Slot → Bool
is_urgent done s = ltb done s.due || (eqb s.named 1 && not (eqb s.reported 1))

unfoldable pub any_urgent : ℕ → List Slot → Bool
any_urgent done [] = false
any_urgent done (s ∷ ss) = let later = any_urgent done ss in cond (is_urgent done s) true later

unfoldable pub sync_due : Engine → ℕ → Waits → Bool
sync_due e t w = eqb e.changed 1 && may_sync e && (any_urgent e.done e.now.slots || is_over t e.begun w.interval)

-- ---- the first of all

-- the sync is considered whatever `from` is
unfoldable pub first_next : Engine → ℕ → Waits → ℕ → List Transfer → Next
first_next e t w from [] = cond (sync_due e t w) Sync Nothing
first_next e t w from (x ∷ xs) =
    let later = first_next e t w from xs in
    let k = kind_from e t w from x.key.id (slot_of e.now x.key.id) in
    cond (eqb k 0) later (next_by k (page_of e x.key.id))

-- 22 first
unfoldable pub next_state : List ℕ → ℕ → Waits → ℕ → Result Next Refusal
next_state s t w from = cond (held_state s) (Ok (first_next (engine_in s) t w from (engine_in s).now.table)) (Err (refusal_of 22))
