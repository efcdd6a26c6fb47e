-- A STATUS of what is synced: whether it was asked for, what is told, and what is left, by what the functions call.
-- Assumes nothing.
use Prim.Native.Nat.{ℕ}
use mathlib.Core.Path.{◌≡◌, refl, sym, ap, ◌∙◌}
use mathlib.Core.Bool.{Bool, true, false, not}
use mathlib.Core.List.{List}
use native.Mathlib.Omega.{arith}
use lib.Dec.{eqb}
use Rattle.refusals.specs.Refusals.{refusal_of}
use Rattle.refusals.specs.declared.Refusal.{Refusal}
use Rattle.area.specs.Places.{read_table, place_in}
use Rattle.area.specs.Judge.{judged}
use Rattle.area.specs.Operations.{area_status_written, area_status_buffer}
use Rattle.area_status.proofs.WriteStatusLaws.{status_missing}
use Rattle.engine_slots.specs.declared.Slot.{Slot}
use Rattle.engine_model.specs.Snapshots.{is_open, slot_of, answered_slot}
use Rattle.engine_state.specs.Layout.{synced_octet}
use Rattle.engine_state.specs.State.{snapshot_in, held_state}
use Rattle.engine_state.proofs.StateLaws.{rest_is, open_told}
use Rattle.engine_open_slot.specs.OpenSlot.{synced_in, same_now, slot_state}
use Rattle.engine_open_slot.proofs.OpenLaws.{lent}
use Rattle.engine_tell.specs.declared.Letter.{Letter}
use Rattle.engine_tell.specs.Tell.{unasked, told_as, telling, letter_buffer, answered_state, told_by, told_state}
use Rattle.std.specs.Prelude.{Result, Ok, Err}

-- where a STATUS is written, the Id is open
pub written_open : (a : List ℕ) (i k : ℕ) (u : Bool) (out : List ℕ) (n : ℕ) → judged a ≡ true → area_status_written a i k u out ≡ Ok n
    → is_open (snapshot_in a) i ≡ true
written_open a i k u out n j e = go (is_open (snapshot_in a) i) refl
  where
    go : (b : Bool) → is_open (snapshot_in a) i ≡ b → is_open (snapshot_in a) i ≡ true
    go true o = o
    go false o =
        let x = place_in i (read_table a) in
        let m = (status_missing a i k u out j x refl (open_told a i j x refl ∙ o)).0 in
        let z : ◌≡◌ {A = ℕ} 0 1 = cc in absurd (omega arith)

module _ (s : List ℕ) (i : ℕ) where
  -- ---- whether it was asked for

  pub unasked_other : same_now s i ≡ false → true ≡ unasked s i
  unfolding unasked
  unasked_other e = rw e

  pub unasked_same : same_now s i ≡ true → (x : Slot) → x ≡ slot_of (snapshot_in s) i → not (eqb x.asked 1) ≡ unasked s i
  unfolding unasked
  unasked_same e x f = rw (e, ← f)

  -- ---- what is told

  module _ (h : held_state s ≡ true) (u : Bool) (asked : u ≡ unasked s i) (out : List ℕ) where
    pub letter_buffer_lem : (y : List ℕ) → y ≡ area_status_buffer (lent s) i 0 u out → y ≡ letter_buffer s i out
    unfolding letter_buffer
    letter_buffer_lem y g = g ∙ rw h (λ k. area_status_buffer (rest_is synced_octet s k) i 0 (asked k) out)

    module _ (w : Result ℕ Refusal) (is : w ≡ area_status_written (lent s) i 0 u out) where
      as_written : telling s i out ≡ told_as s i w
      unfolding telling
      as_written = rw h (ap (told_as s i) (sym (is ∙ (λ k. area_status_written (rest_is synced_octet s k) i 0 (asked k) out))))

      pub letter_refused : (r : Refusal) → w ≡ Err r → Err r ≡ telling s i out
      unfolding told_as
      letter_refused r e = sym (as_written ∙ ap (told_as s i) e)

      module _ (n : ℕ) (e : w ≡ Ok n) where
        pub letter_open : judged (synced_in s) ≡ true → is_open (snapshot_in (synced_in s)) i ≡ true
        letter_open j =
            written_open (synced_in s) i 0 u out n j (sym (is ∙ (λ k. area_status_written (rest_is synced_octet s k) i 0 u out)) ∙ e)

        pub letter_sent : (x : Slot) → x ≡ slot_of (snapshot_in (lent s)) i → Ok (record { size = n; to = x.owner }) ≡ telling s i out
        unfolding told_as
        letter_sent x f =
            (λ k. Ok (record { size = n; to = ((f ∙ ap (λ (l : List ℕ). slot_of (snapshot_in l) i) (rest_is synced_octet s)) k).owner }))
            ∙ sym (as_written ∙ ap (told_as s i) e)

  -- ---- and what is left

  pub tell_unheld : (out : List ℕ) → held_state s ≡ false
      → (Err (refusal_of 22) ≡ telling s i out) × (s ≡ told_state s i out) × (out ≡ letter_buffer s i out)
  unfolding telling told_state told_by letter_buffer
  tell_unheld out h = (rw h, rw h, rw h)

  module _ (out : List ℕ) (w : Result Letter Refusal) (is : w ≡ telling s i out) where
    pub tell_refused : (r : Refusal) → w ≡ Err r → s ≡ told_state s i out
    unfolding told_state told_by
    tell_refused r e = sym (ap (told_by s i) (sym is ∙ e))

    pub tell_sent : (x : Letter) → w ≡ Ok x → (b : List ℕ) → b ≡ answered_state s i → b ≡ told_state s i out
    unfolding told_state told_by
    tell_sent x e b f = f ∙ sym (ap (told_by s i) (sym is ∙ e))

  pub answered_other : same_now s i ≡ false → s ≡ answered_state s i
  answered_other e = rw e

  pub answered_same : same_now s i ≡ true → (x y : Slot) (b : List ℕ) → x ≡ slot_of (snapshot_in s) i → y ≡ answered_slot x → b ≡ slot_state s i y
      → b ≡ answered_state s i
  answered_same e x y b f g k = k ∙ rw e (ap (slot_state s i) (g ∙ ap (λ (z : Slot). answered_slot z) f))
