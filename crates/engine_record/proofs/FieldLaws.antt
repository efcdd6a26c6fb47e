-- The steps one after the other, of fields that are known: what the last of them finds is what recording leaves.
-- Assumes nothing.
use Prim.Native.Nat.{ℕ}
use mathlib.Core.Path.{◌≡◌, ap, ◌∙◌}
use mathlib.Core.List.{List}
use mathlib.Core.Logic.{inl, inr, ⊎_elim}
use native.Mathlib.Omega.{arith}
use lib.ListN.{take, drop, length-drop}
use Rattle.octets.specs.Numbers.{Octets}
use Rattle.octets.proofs.NumberLaws.{octets_drop}
use Rattle.runs.proofs.CompareLaws.{same_or}
use Rattle.packet_data.specs.declared.Data.{Data}
use Rattle.timestamp.specs.Timestamps.{Stamp}
use Rattle.timestamp.proofs.StampLaws.{stamp_of_lem}
use Rattle.transfer.specs.Record.{stamp_in}
use Rattle.table.specs.Record.{record_data}
use Rattle.area.specs.Places.{read_table}
use Rattle.area.specs.Stored.{stored_in}
use Rattle.area.specs.Operations.{OnArea, leaves}
use Rattle.area_splice.specs.Splice.{spliced_area, Brings, stamped_area}
use Rattle.area_locate.specs.Locate.{refused_by, given}
use Rattle.area_join.specs.Join.{recorded_area, Joins}
use Rattle.area_locate.specs.declared.Target.{Target}
use Rattle.area_join.specs.declared.Cuts.{Cuts}
use Rattle.area_join.specs.declared.Joined.{Joined}
use Rattle.std.specs.Prelude.{Result}
use Rattle.refusals.specs.declared.Refusal.{Refusal}
use Rattle.transfer.specs.declared.Receipt.{Receipt}

-- R6.14: the timestamp that the packet brings
brought_stamp : (s : List ℕ) (d : Data) → Octets s → Brings s d.timestamp → Stamp (stamp_in s d)
unfolding stamp_in
brought_stamp s d o b =
    stamp_of_lem d.timestamp (drop 8 s) (octets_drop 8 s o)
    (⊎_elim (λ (e : d.timestamp ≡ 0). inl e) (λ (e : d.timestamp ≡ 0 → ⊥). inr (b.size e)) (same_or d.timestamp 0))
    (rw (length-drop 8 s) (omega (arith, b.whole)))

-- ---- the fields d, recorded in the area a

module _ (a : List ℕ) (d : Data) where
  abbrev left : List ℕ → List ℕ
  left y = stored_in a (record_data (read_table a) d y).table

  area_of : {o p : OnArea (Result Receipt Refusal)} → o ≡ p → o.area ≡ p.area
  area_of e = ap (λ (r : OnArea (Result Receipt Refusal)). r.area) e

  -- refused with 12 to 15, the area stays
  pub place_refused : (n : ℕ) → ((y : List ℕ) → refused_by n a ≡ leaves a (record_data (read_table a) d y)) → (y : List ℕ) → a ≡ left y
  place_refused n g y = area_of (g y)

  -- ---- its place t
  module _ (t : Target) (g : (y : List ℕ) → given a t y ≡ leaves a (record_data (read_table a) d y)) where
    -- and with 16
    pub runs_refused : (n : ℕ) → ((y : List ℕ) → refused_by n a ≡ given a t y) → (y : List ℕ) → a ≡ left y
    runs_refused n h y = area_of (h y ∙ g y)

    -- and this where they are taken
    pub fields_taken : (s : List ℕ) → Octets s → Brings s d.timestamp → (c : Cuts) (j : Joined) → Joins a t c j → (x r : List ℕ)
        → x ≡ spliced_area a t.place c.count c.i c.j j.lo j.hi → r ≡ stamped_area x t.place (take d.timestamp (drop 8 s))
        → r ≡ left (stamp_in s d)
    unfolding stamp_in
    fields_taken s o b c j h x r e f =
        let m : r ≡ recorded_area a t c j (stamp_in s d) = f ∙ ap (λ (l : List ℕ). stamped_area l t.place (stamp_in s d)) e in
        m ∙ area_of (h.is (stamp_in s d) (brought_stamp s d o b) ∙ g (stamp_in s d))
