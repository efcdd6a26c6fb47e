-- The slot of an Id that is open in what is now, or in what is synced, and where it is.
-- Assumes nothing.
use Prim.Native.Nat.{ℕ, ◌-◌, ◌<◌}
use mathlib.Core.Path.{◌≡◌, sym, ap, subst, ◌∙◌}
use mathlib.Core.Bool.{true, ◌&&◌}
use mathlib.Core.List.{List}
use native.Mathlib.Omega.{arith}
use lib.ListN.{length, take, drop, length-drop}
use lib.Dec.{eqb}
use Rattle.refusals.proofs.TestLaws.{and_iff}
use Rattle.area.specs.Layout.{transfer_places}
use Rattle.area.specs.Places.{read_table, place_in, KeptAt}
use Rattle.area.specs.declared.Place.{Place}
use Rattle.area.proofs.KeptLaws.{place_open, kept_known}
use Rattle.engine_slots.specs.declared.Slot.{Slot}
use Rattle.engine_slots.specs.Slots.{slot_at, set_slot}
use Rattle.engine_model.specs.Snapshots.{is_open, file_of, slot_of, same_file}
use Rattle.engine_state.specs.Layout.{synced_octet}
use Rattle.engine_state.specs.State.{snapshot_in}
use Rattle.engine_state.proofs.StateLaws.{rest_is, Held, open_told, slot_known}
use Rattle.engine_open_slot.specs.OpenSlot.{OpenIn, synced_in, same_now, slot_state}

-- what is synced, as it is lent
abbrev pub lent : List ℕ → List ℕ
lent s = take (length s - synced_octet) (drop synced_octet s)

-- ---- its place

module _ (a : List ℕ) (i : ℕ) (o : OpenIn a i) (x : Place) (e : x ≡ place_in i (read_table a)) where
  kept : KeptAt i (read_table a) x.at
  kept = place_open i (read_table a) x e (open_told a i o.table x e ∙ o.here)

  pub place_low : x.at < transfer_places
  place_low = (kept_known a i x.at kept o.table).1

  pub slot_is : (r : Slot) → r ≡ slot_at a x.at → r ≡ slot_of (snapshot_in a) i
  slot_is r f = f ∙ sym (slot_known a i x.at kept)

  pub slot_put : (r : Slot) (b : List ℕ) → b ≡ set_slot a x.at r → b ≡ slot_state a i r
  unfolding slot_state
  slot_put r b f = f ∙ ap (λ (p : ℕ). set_slot a p r) kept.place

-- ---- where it is open

module _ (s : List ℕ) (i : ℕ) where
  pub same_open : same_now s i ≡ true → (is_open (snapshot_in s) i ≡ true) × (is_open (snapshot_in (synced_in s)) i ≡ true)
  unfolding same_file
  same_open e =
      let a = is_open (snapshot_in s) i in
      let b = is_open (snapshot_in (synced_in s)) i in
      (and_iff a b).0 ((and_iff (a && b) (eqb (file_of (snapshot_in s) i) (file_of (snapshot_in (synced_in s)) i))).0 e).0

  module _ (h : Held s) where
    pub open_now : is_open (snapshot_in s) i ≡ true → OpenIn s i
    open_now o = record { long = omega (arith, h.long); table = h.now_judged; here = o }

    pub open_synced : is_open (snapshot_in (synced_in s)) i ≡ true → OpenIn (lent s) i
    open_synced o =
        subst (λ (l : List ℕ). OpenIn l i) (sym (rest_is synced_octet s))
        (record { long = omega (arith, length-drop synced_octet s, h.long); table = h.synced_judged; here = o })
