-- Names and reports: whether a page may have its name or be reported, and what is left, by what the functions call.
-- Assumes nothing.
use Prim.Native.Nat.{ℕ}
use mathlib.Core.Path.{◌≡◌, refl, sym, ap, ◌∙◌}
use mathlib.Core.Bool.{Bool, true, false, ◌&&◌}
use mathlib.Core.List.{List}
use lib.Dec.{eqb}
use Rattle.refusals.proofs.TestLaws.{and_iff}
use Rattle.engine_slots.specs.declared.Slot.{Slot}
use Rattle.engine_model.specs.Snapshots.{slot_of, is_complete, named_slot, reported_slot}
use Rattle.engine_model.specs.Engine.{may_name, may_report}
use Rattle.engine_state.specs.Layout.{synced_octet}
use Rattle.engine_state.specs.State.{snapshot_in, engine_in, held_state, changed_state}
use Rattle.engine_state.proofs.StateLaws.{rest_is}
use Rattle.engine_sync.specs.Syncs.{held_refusal}
use Rattle.engine_open_slot.specs.OpenSlot.{synced_in, same_now, slot_state}
use Rattle.engine_open_slot.proofs.OpenLaws.{lent}
use Rattle.engine_marks.specs.Marks.{marked_state, named_state, reported_state}

not_both : (a b c : Bool) → a && c ≡ false → false ≡ a && b && c
not_both true true c e = sym e
not_both true false c e = refl
not_both false b c e = refl

only_middle : (b : Bool) → b ≡ true && b && true
only_middle true = refl
only_middle false = refl

module _ (s : List ℕ) (i : ℕ) where
  -- ---- what may be done

  pub name_known : may_name (engine_in s) i ≡ true → (is_complete (snapshot_in (synced_in s)) i ≡ true) × (same_now s i ≡ true)
  unfolding may_name
  name_known e = (and_iff (is_complete (snapshot_in (synced_in s)) i) (same_now s i)).0 e

  pub report_not : may_name (engine_in s) i ≡ false → false ≡ may_report (engine_in s) i && same_now s i
  unfolding may_name may_report
  report_not e = not_both (is_complete (snapshot_in (synced_in s)) i) (eqb (slot_of (snapshot_in (synced_in s)) i).named 1) (same_now s i) e

  pub report_is : may_name (engine_in s) i ≡ true → (x : Slot) → x ≡ slot_of (snapshot_in (lent s)) i
      → eqb x.named 1 ≡ may_report (engine_in s) i && same_now s i
  unfolding may_report
  report_is e x f =
      let k = name_known e in
      let g : x ≡ slot_of (snapshot_in (synced_in s)) i = f ∙ ap (λ (l : List ℕ). slot_of (snapshot_in l) i) (rest_is synced_octet s) in
      rw (k.0, k.1, ← g) (only_middle (eqb x.named 1))

  pub report_known : may_report (engine_in s) i && same_now s i ≡ true → same_now s i ≡ true
  report_known e = ((and_iff (may_report (engine_in s) i) (same_now s i)).0 e).1

  -- ---- and what is left

  unmarked : (b : Bool) (x : Slot) → b ≡ false → held_state s ≡ true → s ≡ marked_state s i b x
  unfolding marked_state
  unmarked b x e h = rw (e, h)

  marked : (b : Bool) (x : Slot) → b ≡ true → held_state s ≡ true → (c : List ℕ) → c ≡ changed_state (slot_state s i x) → c ≡ marked_state s i b x
  unfolding marked_state
  marked b x e h c f = rw (e, h) f

  module _ (well : Bool) where
    pub named_unheld : held_state s ≡ false → (22 ≡ held_refusal s) × (s ≡ named_state s i well)
    unfolding named_state marked_state
    named_unheld h = (rw h, rw h)

    module _ (h : held_state s ≡ true) where
      pub named_not : may_name (engine_in s) i ≡ false → (0 ≡ held_refusal s) × (s ≡ named_state s i well)
      unfolding named_state
      named_not e = (rw h, unmarked (may_name (engine_in s) i && well) (named_slot (slot_of (snapshot_in s) i)) (rw e) h)

      module _ (e : may_name (engine_in s) i ≡ true) where
        pub named_badly : well ≡ false → (0 ≡ held_refusal s) × (s ≡ named_state s i well)
        unfolding named_state
        named_badly f = (rw h, unmarked (may_name (engine_in s) i && well) (named_slot (slot_of (snapshot_in s) i)) (rw (e, f)) h)

        pub named_well : well ≡ true → (x y : Slot) (c : List ℕ) → x ≡ slot_of (snapshot_in s) i → y ≡ named_slot x → c ≡ changed_state (slot_state s i y)
            → (0 ≡ held_refusal s) × (c ≡ named_state s i well)
        unfolding named_state
        named_well f x y c p q r = (
          rw h,
          marked (may_name (engine_in s) i && well) (named_slot (slot_of (snapshot_in s) i)) (rw (e, f)) h c
              (r ∙ (λ k. changed_state (slot_state s i ((q ∙ ap (λ (z : Slot). named_slot z) p) k)))),
        )

  pub reported_unheld : held_state s ≡ false → (22 ≡ held_refusal s) × (s ≡ reported_state s i)
  unfolding reported_state marked_state
  reported_unheld h = (rw h, rw h)

  module _ (h : held_state s ≡ true) where
    pub reported_not : may_report (engine_in s) i && same_now s i ≡ false → (0 ≡ held_refusal s) × (s ≡ reported_state s i)
    unfolding reported_state
    reported_not e = (rw h, unmarked (may_report (engine_in s) i && same_now s i) (reported_slot (slot_of (snapshot_in s) i)) e h)

    pub reported_done : may_report (engine_in s) i && same_now s i ≡ true → (x y : Slot) (c : List ℕ) → x ≡ slot_of (snapshot_in s) i → y ≡ reported_slot x
        → c ≡ changed_state (slot_state s i y) → (0 ≡ held_refusal s) × (c ≡ reported_state s i)
    unfolding reported_state
    reported_done e x y c p q r = (
      rw h,
      marked (may_report (engine_in s) i && same_now s i) (reported_slot (slot_of (snapshot_in s) i)) e h c
          (r ∙ (λ k. changed_state (slot_state s i ((q ∙ ap (λ (z : Slot). reported_slot z) p) k)))),
    )

  pub marked_put : (x : Slot) (b c : List ℕ) → b ≡ slot_state s i x → c ≡ changed_state b → c ≡ changed_state (slot_state s i x)
  marked_put x b c e f = f ∙ ap (λ (l : List ℕ). changed_state l) e
