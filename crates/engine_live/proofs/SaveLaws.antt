-- What syncs that come back good make of the engine, and how a complete page comes to its report.
-- Assumes nothing.
use Prim.Native.Nat.{ℕ, suc, ◌+◌, ◌≤◌, ◌<◌}
use mathlib.Core.Path.{◌≡◌, refl, sym, ap, subst, ◌∙◌}
use mathlib.Core.Bool.{true}
use mathlib.Core.List.{List, [], ◌∷◌, ◌++◌}
use mathlib.Core.Option.{Option, none, some}
use native.Mathlib.Omega.{arith}
use borrow.Author.Tests.{eq-eqb, lt-ltb}
use Rattle.transfer.specs.declared.Key.{Key}
use Rattle.engine_slots.specs.declared.Slot.{Slot}
use Rattle.engine_model.specs.Snapshots.{Snapshot, key_in, slot_of, file_of, is_complete, same_file, with_slot, named_slot}
use Rattle.engine_model.specs.Meetings.{last_number}
use Rattle.engine_model.specs.Engine.{Engine, whole, Event, naming, reporting, good, report, may_name, may_report, report_of, may_sync, actions, with_now, marked, named, begun_at, current, confirmed}
use Rattle.engine_model.specs.World.{with_engine, acts, step, run}
use Rattle.engine_model.proofs.FitLaws.{Fit, key_open, complete_open, slot_key, slot_same}
use Rattle.engine_model.proofs.Histories.{run_inv}
use Rattle.engine_live.specs.Live.{goes_on, engine_after, now_of, number_of, saving, finishing, CompleteReported}

-- ---- histories that go on

pub goes_on_both : (h xs ys : List Event) → goes_on h (xs ++ ys) ≡ goes_on (goes_on h xs) ys
unfolding goes_on
goes_on_both h [] ys = refl
goes_on_both h (x ∷ xs) ys = goes_on_both (x ∷ h) xs ys

-- ---- no sync is under way, s is recorded, and n is the number of the last sync

pub record Idle (e : Engine) (s : Snapshot) (n : ℕ) : Type 0 where
  pub none_under_way : e.pending ≡ none
  pub now_is : e.now ≡ s
  pub number_is : e.number ≡ n

-- whatever is under way comes back good
confirm_idle : (e : Engine) → Idle (confirmed e.pending e) e.now e.number
unfolding confirmed
confirm_idle e = go e.pending refl
  where
    go : (o : Option Snapshot) → e.pending ≡ o → Idle (confirmed o e) e.now e.number
    go none q = record { none_under_way = q; now_is = refl; number_is = refl }
    go (some s) q = record { none_under_way = refl; now_is = refl; number_is = refl }

current_is : (e : Engine) (n : ℕ) → e.number ≡ n → current e n ≡ e.pending
unfolding current
current_is e n q = rw (eq-eqb n e.number (sym q))

after_good : (h : List Event) (n : ℕ) → (run (good n ∷ h)).engine ≡ confirmed (current (run h).engine n) (run h).engine
unfolding run step with_engine
after_good h n = refl

pub good_idle : (h : List Event) → Idle (run (good (number_of h) ∷ h)).engine (now_of h) (number_of h)
good_idle h =
    subst (λ (e : Engine). Idle e (now_of h) (number_of h))
    (sym (after_good h (number_of h) ∙ ap (λ (o : Option Snapshot). confirmed o (run h).engine) (current_is (run h).engine (number_of h) refl)))
    (confirm_idle (run h).engine)

-- ---- a sync, and it comes back good: what was recorded is saved

pub record Saved (e : Engine) (s : Snapshot) (n : ℕ) : Type 0 where
  pub idle : Idle e s n
  pub synced_is : e.synced ≡ s

may_sync_lem : (e : Engine) (s : Snapshot) (n : ℕ) → Idle e s n → n < last_number → may_sync e ≡ true
unfolding may_sync
may_sync_lem e s n i l = rw (i.none_under_way, i.number_is, lt-ltb n last_number l)

begun_saved : (e : Engine) (s : Snapshot) (n t : ℕ) → Idle e s n → n < last_number
    → Saved (confirmed (current (begun_at e t) (suc n)) (begun_at e t)) s (suc n)
unfolding begun_at current confirmed
begun_saved e s n t i l =
    rw (may_sync_lem e s n i l, i.number_is, eq-eqb (suc n) (suc n) refl)
    record { idle = record { none_under_way = refl; now_is = i.now_is; number_is = refl }; synced_is = i.now_is }

after_saving : (h : List Event) (n t : ℕ)
    → engine_after h (saving n t) ≡ confirmed (current (begun_at (run h).engine t) (suc n)) (begun_at (run h).engine t)
unfolding goes_on run step acts with_engine
after_saving h n t = refl

pub saves : (h : List Event) (s : Snapshot) (n t : ℕ) → Idle (run h).engine s n → n < last_number → Saved (engine_after h (saving n t)) s (suc n)
saves h s n t i l = subst (λ (e : Engine). Saved e s (suc n)) (sym (after_saving h n t)) (begun_saved (run h).engine s n t i l)

-- ---- the name

-- a page that is complete in what was saved, with its name
abbrev with_name_lem : Snapshot → ℕ → Snapshot
with_name_lem s i = with_slot s i (named_slot (slot_of s i))

may_name_lem : (e : Engine) (s : Snapshot) (i n : ℕ) → Saved e s n → is_complete s i ≡ true → may_name e i ≡ true
unfolding may_name same_file
may_name_lem e s i n v c =
    rw (v.synced_is, v.idle.now_is, c, complete_open s i c, eq-eqb (file_of s i) (file_of s i) refl)

named_idle : (e : Engine) (s : Snapshot) (i n : ℕ) → Saved e s n → is_complete s i ≡ true → Idle (named e i whole) (with_name_lem s i) n
unfolding named marked with_now
named_idle e s i n v c =
    rw (may_name_lem e s i n v c)
    record { none_under_way = v.idle.none_under_way; now_is = ap (λ (x : Snapshot). with_name_lem x i) v.idle.now_is; number_is = v.idle.number_is }

after_naming : (h : List Event) (i : ℕ) → (run (naming i whole ∷ h)).engine ≡ named (run h).engine i whole
unfolding run step acts
after_naming h i = refl

-- ---- the report

name_complete : (s : Snapshot) (i : ℕ) → is_complete (with_name_lem s i) i ≡ is_complete s i
unfolding with_slot is_complete
name_complete s i = refl

report_of_lem : (e : Engine) (s : Snapshot) (i n : ℕ) (k : Key) → Fit s → key_in s i ≡ some k → is_complete s i ≡ true → Saved e (with_name_lem s i) n
    → actions e (reporting i) ≡ report i (file_of s i) k.length ∷ []
unfolding actions may_report report_of
report_of_lem e s i n k f q c v =
    let x : slot_of (with_name_lem s i) i ≡ named_slot (slot_of s i) = slot_same s i (named_slot (slot_of s i)) f (key_open s i k q) in
    rw (v.synced_is, name_complete s i, c, x, slot_key s i (named_slot (slot_of s i)) i, q) (ap (λ (y : Slot). report i y.file k.length ∷ []) x)

-- from a moment when no sync is under way
pub finishes : (h : List Event) (s : Snapshot) (i n t u : ℕ) (k : Key) → Idle (run h).engine s n → key_in s i ≡ some k → is_complete s i ≡ true
    → n + 2 ≤ last_number → actions (engine_after h (finishing i n t u)) (reporting i) ≡ report i (file_of s i) k.length ∷ []
unfolding goes_on
finishes h s i n t u k d q c l =
    let g : List Event = goes_on h (saving n t) in
    let a : Saved (run g).engine s (suc n) = saves h s n t d (omega arith) in
    let b : Idle (run (naming i whole ∷ g)).engine (with_name_lem s i) (suc n) =
    subst (λ (e : Engine). Idle e (with_name_lem s i) (suc n)) (sym (after_naming g i)) (named_idle (run g).engine s i (suc n) a c) in
    let f : Fit s = subst (λ (x : Snapshot). Fit x) d.now_is (run_inv h).now_sound.fit in
    report_of_lem (engine_after h (finishing i n t u)) s i (suc (suc n)) k f q c (saves (naming i whole ∷ g) (with_name_lem s i) (suc n) u b (omega arith))

pub complete_reported : CompleteReported
unfolding goes_on
complete_reported h i k t u r =
    finishes (good (number_of h) ∷ h) (now_of h) i (number_of h) t u k (good_idle h) r.found r.complete r.numbers
