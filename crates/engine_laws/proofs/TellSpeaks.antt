-- Answers, names, reports and closing leave what the model says.
-- Assumes nothing.
use Prim.Native.Nat.{ℕ, ◌≤◌}
use mathlib.Core.Path.{◌≡◌, refl}
use mathlib.Core.Bool.{Bool, true, false, cond, ◌&&◌}
use mathlib.Core.List.{List}
use native.Mathlib.Omega.{arith}
use lib.ListN.{length, drop}
use Rattle.refusals.proofs.TestLaws.{and_iff}
use Rattle.octets.specs.Numbers.{Octets}
use Rattle.engine_slots.specs.declared.Slot.{Slot}
use Rattle.engine_slots.specs.Layout.{snapshot_octets}
use Rattle.engine_model.specs.Snapshots.{Snapshot, is_open, must_wait, slot_of, is_complete, same_file, with_slot, closed_in, answered_slot, named_slot, reported_slot}
use Rattle.engine_model.specs.Engine.{is_whole, may_name, may_report, may_close, with_now, closed, marked, answered, named, reported}
use Rattle.engine_state.specs.Layout.{synced_octet, changed_field}
use Rattle.engine_state.specs.State.{snapshot_in, engine_in, engine_of, changed_state, closed_state}
use Rattle.engine_state.proofs.StateLaws.{Held, known_held}
use Rattle.engine_open.specs.Opened.{closing, gone_by, gone_state}
use Rattle.engine_open_slot.specs.OpenSlot.{slot_state}
use Rattle.engine_tell.specs.Tell.{telling, told_by, told_state}
use Rattle.engine_tell.specs.declared.Letter.{Letter}
use Rattle.engine_marks.specs.Marks.{marked_state, named_state, reported_state}
use Rattle.engine_laws.specs.Speaks.{end_of, Holds}
use Rattle.engine_laws.proofs.StandsLaws.{stands, stands_holds, six, set_number_lem}
use Rattle.engine_laws.proofs.LeaveLaws.{Leaves, stands_leaves, slot_leaves, closed_leaves}
use Rattle.engine_laws.proofs.SizeLaws.{Sized, sized_fits, open_sized, sized_answered, sized_named, sized_reported}
use Rattle.std.specs.Prelude.{Ok}

-- both have it open
same_open : (s t : Snapshot) (i : ℕ) → same_file s t i ≡ true → is_open s i ≡ true
unfolding same_file
same_open s t i e = ((and_iff (is_open s i) _).0 ((and_iff (is_open s i && is_open t i) _).0 e).0).0

whole_is : (b : Bool) (k : ℕ → Bool) → is_whole (end_of b k) ≡ b
unfolding end_of
whole_is true k = refl
whole_is false k = refl

module _ (s : List ℕ) (o : Octets s) (h : Held s) where
  pub long_now : snapshot_octets ≤ length s
  long_now = omega (arith, h.long)

  pub kept_holds : Holds s (engine_in s)
  unfolding engine_of
  kept_holds = record { octets = o; engine = rw (known_held s h) }

  -- another `now`, which is to be saved or not
  pub now_holds : (b : List ℕ) (x : Snapshot) → Leaves s b x → Holds b (with_now (engine_in s) x (engine_in s).next (engine_in s).changed)
  unfolding with_now
  now_holds b x l = stands_holds b (stands_leaves s b (stands s o h) l) h.low

  pub changed_holds : (b : List ℕ) (x : Snapshot) → Leaves s b x → Holds (changed_state b) (with_now (engine_in s) x (engine_in s).next 1)
  unfolding with_now
  changed_holds b x l =
      stands_holds (changed_state b) (set_number_lem b changed_field 1 six.4 (omega arith) (stands_leaves s b (stands s o h) l)) h.low

  -- ---- marks

  pub now_open : (i : ℕ) → is_open (snapshot_in s) i ≡ true → Sized (slot_of (snapshot_in s) i)
  now_open i e = open_sized s i o long_now h.now_judged e

  slot_there : (i : ℕ) (x : Slot) → is_open (snapshot_in s) i ≡ true → Sized x → Leaves s (slot_state s i x) (with_slot (snapshot_in s) i x)
  unfolding slot_state
  slot_there i x e z = slot_leaves s long_now h.now_judged i x e (sized_fits x z)

  marks : (i : ℕ) (b : Bool) (x : Slot) → (b ≡ true → is_open (snapshot_in s) i ≡ true) → (is_open (snapshot_in s) i ≡ true → Sized x)
      → Holds (marked_state s i b x) (marked (engine_in s) i b x 1)
  unfolding marked_state marked
  marks i true x f z = rw (known_held s h) (changed_holds (slot_state s i x) (with_slot (snapshot_in s) i x) (slot_there i x (f refl) (z (f refl))))
  marks i false x f z = rw (known_held s h) kept_holds

  pub names : (i : ℕ) (b : Bool) (k : ℕ → Bool) → Holds (named_state s i b) (named (engine_in s) i (end_of b k))
  unfolding named_state named may_name
  names i b k =
      rw (whole_is b k)
      (marks i (may_name (engine_in s) i && b) (named_slot (slot_of (snapshot_in s) i))
      (λ e. same_open (snapshot_in s) (snapshot_in (drop synced_octet s)) i ((and_iff (is_complete (snapshot_in (drop synced_octet s)) i) _).0 ((and_iff (may_name (engine_in s) i) b).0 e).0).1)
      (λ e. sized_named (slot_of (snapshot_in s) i) (now_open i e)))

  pub reports : (i : ℕ) → Holds (reported_state s i) (reported (engine_in s) i)
  unfolding reported_state reported
  reports i =
      marks i (may_report (engine_in s) i && same_file (snapshot_in s) (snapshot_in (drop synced_octet s)) i) (reported_slot (slot_of (snapshot_in s) i))
      (λ e. same_open (snapshot_in s) (snapshot_in (drop synced_octet s)) i ((and_iff (may_report (engine_in s) i) _).0 e).1)
      (λ e. sized_reported (slot_of (snapshot_in s) i) (now_open i e))

  -- ---- answers

  pub tells : (i : ℕ) (out : List ℕ) (x : Letter) → telling s i out ≡ Ok x → Holds (told_state s i out) (answered (engine_in s) i)
  unfolding told_state told_by answered marked
  tells i out x e = rw e (go (same_file (snapshot_in s) (snapshot_in (drop synced_octet s)) i) refl)
    where
      go : (b : Bool) → same_file (snapshot_in s) (snapshot_in (drop synced_octet s)) i ≡ b
          → Holds (cond b (slot_state s i (answered_slot (slot_of (snapshot_in s) i))) s)
          (cond b (with_now (engine_in s) (with_slot (snapshot_in s) i (answered_slot (slot_of (snapshot_in s) i))) (engine_in s).next (engine_in s).changed) (engine_in s))
      go true f =
          let q = same_open (snapshot_in s) (snapshot_in (drop synced_octet s)) i f in
          let y = answered_slot (slot_of (snapshot_in s) i) in
          now_holds (slot_state s i y) (with_slot (snapshot_in s) i y) (slot_there i y q (sized_answered (slot_of (snapshot_in s) i) (now_open i q)))
      go false f = kept_holds

  -- ---- closing

  pub closed_holds : (i : ℕ) → Holds (changed_state (closed_state s i)) (with_now (engine_in s) (closed_in (snapshot_in s) i) (engine_in s).next 1)
  closed_holds i = changed_holds (closed_state s i) (closed_in (snapshot_in s) i) (closed_leaves s long_now h.now_judged i)

  pub closes : (i : ℕ) (b : Bool) → Holds (gone_state s i b) (closed (engine_in s) i b)
  unfolding gone_state gone_by closing closed may_close
  closes i b = go (is_open (snapshot_in s) i) refl (must_wait (snapshot_in s) i b) refl
    where
      go : (p : Bool) → is_open (snapshot_in s) i ≡ p → (q : Bool) → must_wait (snapshot_in s) i b ≡ q → Holds (gone_state s i b) (closed (engine_in s) i b)
      go true e true f = rw (known_held s h, e, f) kept_holds
      go true e false f = rw (known_held s h, e, f) (closed_holds i)
      go false e q f = rw (known_held s h, e) kept_holds
