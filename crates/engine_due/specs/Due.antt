-- R19.10: what is due for one transfer, at a time: a name, an answer, a report, or its end.
-- Assumes nothing.
use Rattle.std.specs.Prelude.{ℕ, ◌-◌, Bool, cond, ◌&&◌, not, ltb, leb, eqb}
use Rattle.engine_slots.specs.declared.Slot.{Slot}
use Rattle.engine_model.specs.Snapshots.{is_complete, same_file}
use Rattle.engine_model.specs.Engine.{Engine, may_name, may_report}
use Rattle.engine_due.specs.declared.Waits.{Waits}

-- an answer is due, and the last good sync covers it, for the same file
unfoldable pub is_covered : ℕ → Bool → Slot → Bool
is_covered done same s = not (eqb s.due 0) && leb s.due done && same

unfoldable pub name_due : Bool → Slot → Bool
name_due may s = may && not (eqb s.named 1)

unfoldable pub report_due : Bool → Bool → Slot → Bool
report_due may same s = may && same && not (eqb s.reported 1)

-- so long ago
unfoldable pub is_over : ℕ → ℕ → ℕ → Bool
is_over time since wait = leb wait (time - since)

-- a page that was reported lingers; a transfer that is not complete is forgotten, if ever
unfoldable pub is_at_end : Bool → ℕ → Waits → Slot → Bool
is_at_end complete t w s =
    cond (eqb s.reported 1) (is_over t s.heard w.linger) (not complete && not (eqb w.forget 0) && is_over t s.heard w.forget)

-- by the number that C has for it: 3 a name, 2 an answer, 4 a report, 5 its end, 0 nothing. The name comes first: who gives it checks the MD5
-- before, so no answer says that a page is complete which the check takes away
unfoldable pub kind_for : Engine → ℕ → Waits → ℕ → Slot → ℕ
kind_for e t w i s =
    let same = same_file e.now e.synced i in
    cond (name_due (may_name e i) s) 3
    (cond (is_covered e.done same s) 2
    (cond (report_due (may_report e i) same s) 4 (cond (is_at_end (is_complete e.now i) t w s) 5 0)))

-- a transfer below `from` is passed over: what was said of it could not be done
unfoldable pub kind_from : Engine → ℕ → Waits → ℕ → ℕ → Slot → ℕ
kind_from e t w from i s = cond (ltb i from) 0 (kind_for e t w i s)
