-- The page of an Id on disk: of what is synced, as it is lent.
-- Assumes nothing.
use Prim.Native.Nat.{ℕ, ◌<◌}
use mathlib.Core.Path.{◌≡◌, sym, ap, ◌∙◌}
use mathlib.Core.Bool.{true, false}
use mathlib.Core.List.{List}
use mathlib.Core.Option.{Option}
use lib.ListN.{drop}
use native.Mathlib.Omega.{arith}
use Rattle.words.specs.Words.{word_at}
use Rattle.transfer.specs.declared.Key.{Key}
use Rattle.transfer.specs.Transfers.{Transfer}
use Rattle.area.specs.Layout.{transfer_places, length_field, head_at}
use Rattle.area.specs.Places.{read_table, place_in, KeptAt}
use Rattle.area.specs.declared.Place.{Place}
use Rattle.area.proofs.KeptLaws.{place_open, kept_found, kept_transfer}
use Rattle.engine_slots.specs.declared.Slot.{Slot}
use Rattle.engine_slots.specs.Slots.{slot_at}
use Rattle.engine_model.specs.Snapshots.{file_of}
use Rattle.engine_model.proofs.FitLaws.{shut_key}
use Rattle.engine_state.specs.Layout.{synced_octet}
use Rattle.engine_state.specs.State.{snapshot_in, engine_in, held_state}
use Rattle.engine_state.proofs.StateLaws.{rest_is, held_known, open_told, slot_known, kept_used}
use Rattle.engine_may.proofs.MayLaws.{rest}
use Rattle.engine_next.specs.declared.Page.{Page}
use Rattle.engine_next.specs.Next.{page_by, page_of}

module _ (s : List ℕ) (id : ℕ) (h : held_state s ≡ true) (p : Place) (e : p ≡ place_in id (read_table (rest s))) where
  told : p ≡ place_in id (read_table (drop synced_octet s))
  told = e ∙ ap (λ (l : List ℕ). place_in id (read_table l)) (rest_is synced_octet s)

  pub page_none : p.«open» ≡ false → (x : Page) → x ≡ record { id = id; file = 0; length = 0 } → x ≡ page_of (engine_in s) id
  unfolding page_of page_by
  page_none f x q =
      let y = drop synced_octet s in
      q ∙ rw (shut_key (snapshot_in y) id (sym (open_told y id (held_known s h).synced_judged p told) ∙ f))

  module _ (f : p.«open» ≡ true) where
    kept : KeptAt id (read_table (drop synced_octet s)) p.at
    kept = place_open id (read_table (drop synced_octet s)) p told f

    pub page_few : p.at < transfer_places
    page_few = let u = kept_used (drop synced_octet s) id p.at (held_known s h).synced_judged kept in omega arith

    pub page_kept : (x : Slot) (n : ℕ) → x ≡ slot_at (rest s) p.at → n ≡ word_at (rest s) (head_at p.at length_field)
        → record { id = id; file = x.file; length = n } ≡ page_of (engine_in s) id
    unfolding page_of page_by
    page_kept x n q l =
        let y = drop synced_octet s in
        let file : x ≡ slot_at y p.at = q ∙ ap (λ (z : List ℕ). slot_at z p.at) (rest_is synced_octet s) in
        let size : n ≡ word_at y (head_at p.at length_field) = l ∙ ap (λ (z : List ℕ). word_at z (head_at p.at length_field)) (rest_is synced_octet s) in
        (λ k.
        record {
          id = id;
          file = ((file ∙ sym (slot_known y id p.at kept)) k).file;
          length = (size ∙ ap (λ (z : Transfer). z.key.length) (sym (kept_transfer y id p.at kept))) k;
        })
        ∙ ap (λ (z : Option Key). page_by z id (file_of (snapshot_in y) id)) (sym (kept_found kept))
