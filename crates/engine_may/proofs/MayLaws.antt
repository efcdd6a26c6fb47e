-- What the tests of a page come to, case by case: of what is synced, as it is lent.
-- Assumes nothing.
use Prim.Native.Nat.{ℕ, ◌-◌, ◌<◌}
use mathlib.Core.Path.{◌≡◌, sym, ap, ◌∙◌}
use mathlib.Core.Bool.{Bool, true, false}
use mathlib.Core.List.{List}
use lib.ListN.{length, take, drop}
use lib.Dec.{eqb}
use native.Mathlib.Omega.{arith}
use Rattle.area.specs.Layout.{transfer_places}
use Rattle.area.specs.Places.{read_table, place_of, place_in, KeptAt}
use Rattle.area.specs.declared.Place.{Place}
use Rattle.engine_slots.specs.declared.Slot.{Slot}
use Rattle.engine_slots.specs.Slots.{slot_at}
use Rattle.engine_model.specs.Snapshots.{is_complete, same_file, slot_of}
use Rattle.engine_model.specs.Engine.{may_name, may_report}
use Rattle.engine_model.proofs.FitLaws.{complete_open}
use Rattle.engine_state.specs.Layout.{synced_octet}
use Rattle.engine_state.specs.State.{snapshot_in, engine_in, held_state}
use Rattle.engine_state.proofs.StateLaws.{rest_is, held_known, open_kept, slot_known, kept_used}

abbrev pub rest : List ℕ → List ℕ
rest s = take (length s - synced_octet) (drop synced_octet s)

module _ (s : List ℕ) (id : ℕ) (b : Bool) (e : b ≡ is_complete (snapshot_in (rest s)) id) where
  complete : is_complete (snapshot_in (drop synced_octet s)) id ≡ b
  complete = ap (λ (l : List ℕ). is_complete (snapshot_in l) id) (sym (rest_is synced_octet s)) ∙ sym e

  pub name_not : b ≡ false → false ≡ may_name (engine_in s) id
  unfolding may_name
  name_not f = rw (complete, f)

  pub name_complete : b ≡ true → same_file (snapshot_in s) (snapshot_in (drop synced_octet s)) id ≡ may_name (engine_in s) id
  unfolding may_name
  name_complete f = rw (complete, f)

  pub report_not : b ≡ false → false ≡ may_report (engine_in s) id
  unfolding may_report
  report_not f = rw (complete, f)

  -- where it is complete, it is open, and its slot stands at its place
  module _ (h : held_state s ≡ true) (f : b ≡ true) (p : Place) (g : p ≡ place_in id (read_table (rest s))) where
    kept : KeptAt id (read_table (drop synced_octet s)) p.at
    unfolding place_in
    kept =
        let at : place_of id (read_table (drop synced_octet s)) ≡ p.at
        = ap (λ (l : List ℕ). place_of id (read_table l)) (sym (rest_is synced_octet s)) ∙ ap (λ (q : Place). q.at) (sym g) in
        let k = open_kept (drop synced_octet s) id (held_known s h).synced_judged (complete_open (snapshot_in (drop synced_octet s)) id (complete ∙ f)) in
        rw (← at) k

    pub place_few : p.at < transfer_places
    place_few = let u = kept_used (drop synced_octet s) id p.at (held_known s h).synced_judged kept in omega arith

    pub report_complete : (x : Slot) → x ≡ slot_at (rest s) p.at → eqb x.named 1 ≡ may_report (engine_in s) id
    unfolding may_report
    report_complete x q =
        let is : slot_of (snapshot_in (drop synced_octet s)) id ≡ x
        = slot_known (drop synced_octet s) id p.at kept ∙ ap (λ (l : List ℕ). slot_at l p.at) (sym (rest_is synced_octet s)) ∙ sym q in
        rw (complete, f, is)
