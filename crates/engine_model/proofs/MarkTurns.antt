-- Closing, answering, naming and reporting are turns.
-- Assumes nothing.
use Prim.Native.Nat.{ℕ, suc}
use mathlib.Core.Path.{◌≡◌, refl, sym, ◌∙◌}
use mathlib.Core.Bool.{Bool, true, false, cond, ◌&&◌}
use mathlib.Core.List.{List, [], ◌∷◌}
use mathlib.Core.Logic.{inl, inr}
use mathlib.Core.Option.{Option, none, some}
use native.Mathlib.Omega.{arith}
use borrow.Author.Tests.{eqb-true}
use lib.Dec.{eqb}
use Rattle.refusals.proofs.TestLaws.{and_iff}
use Rattle.transfer.specs.declared.Key.{Key}
use Rattle.engine_slots.specs.declared.Slot.{Slot}
use Rattle.engine_model.specs.Snapshots.{Snapshot, is_open, is_complete, slot_of, file_of, same_file, closed_in, answered_slot, named_slot, reported_slot}
use Rattle.engine_model.specs.Engine.{Engine, Ended, whole, part, is_whole, Event, closing, answering, naming, reporting, name_part, meta_part, token, actions, answer_of, may_name, name_of, may_report, report_of, may_close, closed, marked, answered, named, reported, with_now}
use Rattle.engine_model.specs.Disk.{Write, written_of, does, does_all}
use Rattle.engine_model.specs.World.{acts, step, run}
use Rattle.engine_model.proofs.SnapshotLaws.{Fit}
use Rattle.engine_model.proofs.DiskLaws.{Some, any, cond_some}
use Rattle.engine_model.proofs.History.{Origin, known_slot}
use Rattle.engine_model.proofs.Turns.{now_of, next_of, writes_of, Turn, Adds, none_added, one_added, still, nothing, slotted, closes}

-- both have the Id open, for one file
pub same_file_lem : (s t : Snapshot) (i : ℕ) → same_file s t i ≡ true → (is_open s i ≡ true) × (is_open t i ≡ true) × (file_of s i ≡ file_of t i)
unfolding same_file
same_file_lem s t i e =
    let a = (and_iff (is_open s i && is_open t i) (eqb (file_of s i) (file_of t i))).0 e in
    let b = (and_iff (is_open s i) (is_open t i)).0 a.0 in
    (b.0, b.1, eqb-true (file_of s i) (file_of t i) a.1)

-- ---- a write that is there or not

abbrev pub token_write : ℕ → ℕ → ℕ → Ended → Write
token_write i f p r = record { id = i; file = f; of = p; octet = written_of r token; due = false; durable = false }

token_one : (o v : ℕ) → token o ≡ some v → v ≡ 1
unfolding token
token_one o v e = let y : some 1 ≡ some v = cond_some (eqb o 0) (some 1) v e in cc

written_one : (r : Ended) (o v : ℕ) → written_of r token o ≡ some v → v ≡ 1
unfolding written_of
written_one whole o v e = token_one o v e
written_one (part k) o v e = token_one o v (cond_some (k o) (token o) v e)

token_added : (h : List Event) (x : Event) (i f p : ℕ) (r : Ended) → ((o v : ℕ) → v ≡ 1 → Origin (x ∷ h) i f (suc p) o v)
    → Adds h x (token_write i f (suc p) r ∷ writes_of h)
token_added h x i f p r from =
    one_added h x (token_write i f (suc p) r) (λ j g o v k a. let y : suc p ≡ 0 = a.2 in omega arith) (λ o v e. from o v (written_one r o v e))

pub meta_added : (h : List Event) (x : Event) (i f : ℕ) (r : Ended) → Adds h x (token_write i f meta_part r ∷ writes_of h)
meta_added h x i f r = token_added h x i f 1 r (λ o v e. e)

name_added : (h : List Event) (i : ℕ) (q r : Ended) → may_name (run h).engine i ≡ true
    → Adds h (naming i q) (token_write i (file_of (run h).engine.synced i) name_part r ∷ writes_of h)
name_added h i q r t =
    token_added h (naming i q) i (file_of (run h).engine.synced i) 0 r
    (λ o v e. (e, record { later = []; earlier = h; ended = q; split = refl; allowed = t; of_file = refl }))

pub token_there : (i f p : ℕ) (ws : List Write) → Some any (token_write i f p whole ∷ ws) i f p 0
unfolding written_of token
token_there i f p ws = inl (record { kind = refl; id_is = refl; file_is = refl; of_is = refl; value = 1; octet_is = refl })

-- ---- closing

pub close_turn : (h : List Event) (i : ℕ) (s : Bool) → Fit (now_of h) → Turn h (closing i s) (step (run h) (closing i s))
unfolding step acts actions does_all closed
close_turn h i s fit = go (may_close (now_of h) i s)
  where
    go : (b : Bool) → Turn h (closing i s) (record {
      engine = cond b (with_now (run h).engine (closed_in (now_of h) i) (next_of h) 1) (run h).engine;
      writes = writes_of h;
      area = (run h).area;
    })
    go true = closes h (closing i s) i fit
    go false = nothing h (closing i s) fit

-- ---- another mark in the slot of an Id

-- where the Id is open, another slot with the same file, owner and name; else nothing
mark_turn : (h : List Event) (x : Event) (i : ℕ) (y : Slot) (c : ℕ) (b : Bool) → Fit (now_of h) → (b ≡ true → is_open (now_of h) i ≡ true)
    → y.file ≡ file_of (now_of h) i → y.owner ≡ (slot_of (now_of h) i).owner → y.named ≡ (slot_of (now_of h) i).named
    → Turn h x (record { engine = marked (run h).engine i b y c; writes = writes_of h; area = (run h).area })
unfolding marked
mark_turn h x i y c true fit o file owner name =
    slotted h x (writes_of h) i y c fit (none_added h x) (o refl) file (λ e. inl (sym name ∙ e))
    (λ e k b. known_slot (x ∷ h) (next_of h) i (slot_of (now_of h) i) y k file owner b)
mark_turn h x i y c false fit o file owner name = nothing h x fit

answer_writes : (y : Option Key) (s : Snapshot) (i : ℕ) (ws : List Write) → does_all whole (answer_of y s i) ws ≡ ws
unfolding answer_of does_all does
answer_writes none s i ws = refl
answer_writes (some k) s i ws = refl

pub answer_turn : (h : List Event) (i : ℕ) → Fit (now_of h) → Turn h (answering i) (step (run h) (answering i))
unfolding step acts actions answered
answer_turn h i fit =
    rw answer_writes
    (mark_turn h (answering i) i (answered_slot (slot_of (now_of h) i)) (run h).engine.changed (same_file (now_of h) (run h).engine.synced i) fit
    (λ e. (same_file_lem (now_of h) (run h).engine.synced i e).0) refl refl refl)

report_writes : (b : Bool) (y : Option Key) (s : Snapshot) (i : ℕ) (ws : List Write) → does_all whole (report_of b y s i) ws ≡ ws
unfolding report_of does_all does
report_writes true none s i ws = refl
report_writes true (some k) s i ws = refl
report_writes false y s i ws = refl

pub report_turn : (h : List Event) (i : ℕ) → Fit (now_of h) → Turn h (reporting i) (step (run h) (reporting i))
unfolding step acts actions reported
report_turn h i fit =
    rw report_writes
    (mark_turn h (reporting i) i (reported_slot (slot_of (now_of h) i)) 1 (may_report (run h).engine i && same_file (now_of h) (run h).engine.synced i) fit
    (λ e. (same_file_lem (now_of h) (run h).engine.synced i ((and_iff (may_report (run h).engine i) _).0 e).1).0) refl refl refl)

-- ---- naming: the name is written, and where that was done, the slot has it

-- a page that gets its name is open in both
pub name_open : (e : Engine) (i : ℕ) → may_name e i ≡ true
    → (is_complete e.synced i ≡ true) × (is_open e.now i ≡ true) × (file_of e.now i ≡ file_of e.synced i)
unfolding may_name
name_open e i t =
    let a = (and_iff (is_complete e.synced i) (same_file e.now e.synced i)).0 t in
    let b = same_file_lem e.now e.synced i a.1 in
    (a.0, b.0, b.2)

pub name_turn : (h : List Event) (i : ℕ) (r : Ended) → Fit (now_of h) → Turn h (naming i r) (step (run h) (naming i r))
unfolding step acts actions named marked does_all name_of does
name_turn h i r fit = go (may_name (run h).engine i) r refl
  where
    go : (b : Bool) (q : Ended) → may_name (run h).engine i ≡ b
        → Turn h (naming i r) (record {
          engine = marked (run h).engine i (b && is_whole q) (named_slot (slot_of (now_of h) i)) 1;
          writes = does_all q (name_of b (run h).engine i) (writes_of h);
          area = (run h).area;
        })
    go false q e = nothing h (naming i r) fit
    go true (part k) e =
        let f : ℕ = file_of (run h).engine.synced i in
        still h (naming i r) (token_write i f name_part (part k) ∷ writes_of h) fit (name_added h i r (part k) e)
    go true whole e =
        let f : ℕ = file_of (run h).engine.synced i in
        let o = name_open (run h).engine i e in
        slotted h (naming i r) (token_write i f name_part whole ∷ writes_of h) i (named_slot (slot_of (now_of h) i)) 1 fit
        (name_added h i r whole e) o.1 refl (λ z. inr (rw o.2 (token_there i f name_part (writes_of h))))
        (λ z k b. known_slot (naming i r ∷ h) (next_of h) i (slot_of (now_of h) i) (named_slot (slot_of (now_of h) i)) k refl refl b)
