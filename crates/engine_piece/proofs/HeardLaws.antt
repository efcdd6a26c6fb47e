-- A transfer that was heard, and one that ends, or waits for its report.
-- Assumes nothing.
use Prim.Native.Nat.{ℕ, ◌≤◌, ◌<◌}
use mathlib.Core.Path.{◌≡◌, sym, ap, subst, ◌∙◌}
use mathlib.Core.Bool.{Bool, true, false, cond, not, ◌||◌}
use mathlib.Core.List.{List}
use native.Mathlib.Omega.{arith}
use lib.ListN.{length}
use lib.Dec.{eqb}
use Rattle.packet_data.specs.declared.Data.{Data}
use Rattle.area.specs.Layout.{transfer_places}
use Rattle.area.specs.Places.{read_table, place_of, KeptAt}
use Rattle.area.proofs.KeptLaws.{kept_known}
use Rattle.engine_slots.specs.declared.Slot.{Slot}
use Rattle.engine_slots.specs.Layout.{snapshot_octets}
use Rattle.engine_slots.specs.Slots.{slot_at, set_slot}
use Rattle.engine_model.specs.Snapshots.{slot_of, is_complete, is_busy, must_wait, heard_at}
use Rattle.engine_model.specs.Engine.{may_close}
use Rattle.engine_state.specs.Layout.{changed_field}
use Rattle.engine_state.specs.State.{snapshot_in, set_number, taken_out, changed_state, closed_state}
use Rattle.engine_state.proofs.StateLaws.{slot_known, kept_open}
use Rattle.engine_piece.specs.Piece.{heard_state, differs_state}
use Rattle.engine_piece.specs.Known.{OpenIn, Known}

-- ---- a transfer that was heard

pub slot_asks : (a : List ℕ) (i : ℕ) → Known a i → (p : ℕ) → p ≡ place_of i (read_table a) → (snapshot_octets ≤ length a) × (p < transfer_places)
slot_asks a i k p is =
    (omega (arith, k.long), (kept_known a i p (subst (KeptAt i (read_table a)) (sym is) k.kept) k.table).1)

module _ (a : List ℕ) (d : Data) (p : ℕ) (is : p ≡ place_of d.id (read_table a)) (kept : OpenIn a d.id) where
  heard_slot : (x : Slot) → x ≡ slot_at a p → x ≡ slot_of (snapshot_in a) d.id
  heard_slot x e = e ∙ sym (slot_known a d.id p (subst (KeptAt d.id (read_table a)) (sym is) kept))

  pub heard_is : (t n : ℕ) (x y : Slot) → x ≡ slot_at a p → (c w : Bool) → c ≡ is_complete (snapshot_in a) d.id → w ≡ (eqb d.wanted 1 || c)
      → y ≡ heard_at t n w (eqb d.wanted 1) x → (b e : List ℕ) → b ≡ set_slot a p y → e ≡ set_number b changed_field 1 → e ≡ heard_state a t n d
  unfolding heard_state
  heard_is t n x y f c w g h i b e j k =
      let wanted = eqb d.wanted 1 in
      k ∙ ap (λ (l : List ℕ). set_number l changed_field 1)
      (j ∙ ap (λ (q : ℕ). set_slot a q y) is
      ∙ ap (set_slot a (place_of d.id (read_table a)))
      (i ∙ ap (λ (z : Bool). heard_at t n z wanted x) (h ∙ ap (λ (z : Bool). wanted || z) g) ∙ ap (heard_at t n (wanted || is_complete (snapshot_in a) d.id) wanted) (heard_slot x f)))

-- ---- one that ends

pub closed_is : (s : List ℕ) (i : ℕ) → OpenIn s i → (b e : List ℕ) → b ≡ taken_out s i → e ≡ set_number b changed_field 1 → e ≡ changed_state (closed_state s i)
unfolding closed_state
closed_is s i k b e f g =
    g ∙ ap (λ (l : List ℕ). set_number l changed_field 1) (f ∙ sym (ap (λ (z : Bool). cond z (taken_out s i) s) (kept_open s i (place_of i (read_table s)) k)))

-- ---- one whose page is busy

pub busy_not : (s : List ℕ) (i : ℕ) (c : Bool) → c ≡ is_complete (snapshot_in s) i → c ≡ false → c ≡ is_busy (snapshot_in s) i
unfolding is_busy
busy_not s i c f h = h ∙ rw (← f, h)

pub busy_by : (s : List ℕ) (i p : ℕ) → p ≡ place_of i (read_table s) → OpenIn s i → (x : Slot) → x ≡ slot_at s p → (c : Bool)
    → c ≡ is_complete (snapshot_in s) i → c ≡ true → not (eqb x.reported 1) ≡ is_busy (snapshot_in s) i
unfolding is_busy
busy_by s i p is kept x e c f h =
    let same : x ≡ slot_of (snapshot_in s) i = e ∙ sym (slot_known s i p (subst (KeptAt i (read_table s)) (sym is) kept)) in
    rw (← f, h, ← same)

pub busy_stays : (s : List ℕ) (i : ℕ) → OpenIn s i → is_busy (snapshot_in s) i ≡ true → s ≡ differs_state s i
unfolding differs_state may_close must_wait
busy_stays s i k f = rw (kept_open s i (place_of i (read_table s)) k, f)

pub idle_ends : (s : List ℕ) (i : ℕ) → OpenIn s i → is_busy (snapshot_in s) i ≡ false → (b : List ℕ) → b ≡ changed_state (closed_state s i)
    → b ≡ differs_state s i
unfolding differs_state may_close must_wait
idle_ends s i k f b e = rw (kept_open s i (place_of i (read_table s)) k, f) e
