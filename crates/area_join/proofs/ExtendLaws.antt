-- The runs of a place with new offsets: what the cuts found are the places of the splice, and what the splice leaves is the insertion,
-- with the timestamp that the packet brings.
-- Assumes nothing.
use Prim.Native.Nat.{ℕ, ◌-◌, ◌^◌, ◌≤◌, ◌<◌}
use mathlib.Core.Path.{◌≡◌, refl, sym, ap, ap₂, subst, ◌∙◌}
use mathlib.Core.Bool.{Bool, true}
use mathlib.Core.List.{List}
use native.Mathlib.Omega.{arith}
use lib.ListN.{length}
use borrow.Author.Tests.{lt-ltb, le-ltb}
use Rattle.octets.specs.Numbers.{Octets}
use Rattle.refusals.specs.Refusals.{refusal_of}
use Rattle.runs.specs.Runs.{Run, run, Canonical, insert, absorbed, adds}
use Rattle.runs.specs.Splice.{low_of, high_of, adds_at}
use Rattle.words.specs.Words.{word_at}
use Rattle.run_rows.specs.Rows.{runs_in, RowsFit, CutTo, CutBelow}
use Rattle.run_rows.specs.declared.Rows.{Rows}
use Rattle.run_rows.proofs.RowsLaws.{length_runs}
use Rattle.run_cuts.proofs.CutLaws.{insert_cut, absorbed_cut, adds_cut}
use Rattle.timestamp.specs.Timestamps.{Stamp}
use Rattle.transfer.specs.declared.Key.{Key}
use Rattle.transfer.specs.declared.Reached.{Reached}
use Rattle.transfer.specs.Transfers.{Transfer, TransferFine, reached}
use Rattle.area.specs.Layout.{transfer_places, run_places, area_octets, run_at}
use Rattle.area.specs.Places.{rows_at, read_table, nth, HoldsHalves, with_runs}
use Rattle.area.specs.Judge.{judged}
use Rattle.area.specs.Stored.{stored_in}
use Rattle.area.proofs.PlaceLaws.{length_transfers, transfer_at_lem, rows_fit, read_holds, read_halves, Few}
use Rattle.area.proofs.JudgeLaws.{fine_at, judged_passed}
use Rattle.area.proofs.StoredLaws.{valid_few}
use Rattle.area_splice.specs.Splice.{runs_after, spliced_area, stamped_area}
use Rattle.area_splice.proofs.SplicedRowLaws.{spliced, spliced_length}
use Rattle.area_splice.proofs.OverlayLaws.{stores_is}
use Rattle.area_splice.proofs.SplicedAreaLaws.{spliced_stores}
use Rattle.area_splice.proofs.StampedAreaLaws.{stamped_stores}
use Rattle.area_locate.specs.Record.{runs_given, offsets_given}
use Rattle.std.specs.Prelude.{Ok, Err}

-- ---- an area that holds a table, and a place of it
module _ (a : List ℕ) (p : ℕ) (e : judged a ≡ true) (there : p < length (read_table a)) where
  abbrev rs : List Run
  rs = (nth (read_table a) p).runs

  few : Few (read_table a)
  few = valid_few (read_table a) (judged_passed a e).1

  halves : Octets a → HoldsHalves a (read_table a)
  halves o = read_halves a o (judged_passed a e).0 (omega (arith, few.transfers, length_transfers a 0 (word_at a 0)))

  counted : p < word_at a 0
  counted = omega (arith, length_transfers a 0 (word_at a 0))

  -- the rows there
  pub record PlaceKnown (r : Rows) : Type 0 where
    pub long : area_octets ≤ length a
    pub place : p < transfer_places
    pub starts : r.starts ≡ run_at 0 p 0
    pub stops : r.stops ≡ run_at 1 p 0
    pub count : r.count ≡ length rs
    pub few_runs : r.count ≤ run_places
    pub fit : RowsFit a r

  module _ (r : Rows) (is : r ≡ rows_at a p) where
    runs_here : runs_in a r ≡ rs
    runs_here = ap (runs_in a) is ∙ ap (λ (x : Transfer). x.runs) (sym (transfer_at_lem a p counted))

    pub known : PlaceKnown r
    known =
        let c : r.count ≡ length rs = sym (length_runs a r.starts r.stops r.count) ∙ ap length runs_here in
        let m : length rs ≤ run_places = few.runs p in
        let l : p < transfer_places = omega (arith, few.transfers) in
        record {
          long = (judged_passed a e).0;
          place = l;
          starts = ap (λ (x : Rows). x.starts) is;
          stops = ap (λ (x : Rows). x.stops) is;
          count = c;
          few_runs = omega arith;
          fit = rows_fit a p r is (judged_passed a e).0 l (omega arith);
        }

    canonical : Canonical (runs_in a r)
    canonical = let x : TransferFine (nth (read_table a) p) = fine_at 0 (read_table a) p (judged_passed a e).1.fine there in rw runs_here x.canonical

    -- the cuts
    module _ (from to i j : ℕ) (some : from < to) (u : CutTo a r.starts r.count to j) (v : CutBelow a r.stops j from i) where
      abbrev new : List Run
      new = insert from to rs

      inserted : (lo hi : ℕ) → lo ≡ low_of from (runs_in a r) i j → hi ≡ high_of to (runs_in a r) i j → new ≡ spliced rs i j (run lo hi)
      inserted lo hi f g =
          subst (λ (l : List Run). insert from to l ≡ spliced l i j (run lo hi)) runs_here (rw (f, g) (insert_cut a r from to i j u v canonical (omega arith)))

      length_new : length new ≡ runs_after r.count i j
      length_new =
          let c : r.count ≡ length rs = known.count in
          ap length (inserted _ _ refl refl) ∙ spliced_length rs i j _ (omega (arith, u.inside, v.inside)) ∙ ap (λ (n : ℕ). runs_after n i j) (sym c)

      -- the runs between the cuts are absorbed
      between_absorbed : absorbed from to rs ≡ j - i
      between_absorbed = subst (λ (l : List Run). absorbed from to l ≡ j - i) runs_here (absorbed_cut a r from to i j u v canonical some)

      -- and one of them has all of it, where nothing is added
      between_adds : adds from to rs ≡ adds_at from to (runs_in a r) i j
      between_adds = subst (λ (l : List Run). adds from to l ≡ adds_at from to (runs_in a r) i j) runs_here (adds_cut a r from to i j u v canonical some)

      -- refused, since there would be too many
      pub extend_over : (k : Key) → run_places < runs_after r.count i j
          → (y : List ℕ) → record { answer = Err (refusal_of 16); area = a } ≡ offsets_given a p k from to y
      unfolding runs_given
      extend_over k h y = rw (lt-ltb run_places (length new) (omega (arith, length_new)))

      -- taken, where there is room: the splice leaves the insertion, and what is told is what the runs after it say
      module _ (lo hi : ℕ) (f : lo ≡ low_of from (runs_in a r) i j) (g : hi ≡ high_of to (runs_in a r) i j) (lo-fits : lo < 2 ^ 64) (hi-fits : hi < 2 ^ 64)
          (room : runs_after r.count i j ≤ run_places) (o : Octets a) (y : List ℕ) (brings : Stamp y) where
        stored : stamped_area (spliced_area a p r.count i j lo hi) p y ≡ stored_in a (with_runs (read_table a) p new y)
        stored =
            let n : r.count ≡ length rs = known.count in
            let fits : runs_after (length rs) i j ≤ run_places = rw n at room in
            let inside : j ≤ length rs = omega (arith, u.inside) in
            ap (λ (m : ℕ). stamped_area (spliced_area a p m i j lo hi) p y) n
            ∙ stores_is
            (stamped_stores a _ (read_table a) p _ y there known.place
            (spliced_stores a (read_table a) p i j (run lo hi) known.long (read_holds a) few (few.runs p) there v.inside inside fits lo-fits hi-fits o (halves o))
            brings)
            ∙ ap (λ (l : List Run). stored_in a (with_runs (read_table a) p l y)) (sym (inserted lo hi f g))

        -- e and m are the edge and whether the transfer is complete after the splice, and x whether it adds something
        pub extend_taken : (k : Key) (e : ℕ) (m : Bool) (x : ℕ) → x ≡ adds_at from to (runs_in a r) i j
            → ◌≡◌ {A = Reached} (record { edge = e; complete = m }) (reached k (spliced (runs_in a r) i j (run lo hi)))
            → record {
              answer = Ok (record { reached = record { edge = e; complete = m }; absorbed = j - i; adds = x });
              area = stamped_area (spliced_area a p r.count i j lo hi) p y;
            } ≡ offsets_given a p k from to y
        unfolding runs_given
        extend_taken k e m x z d =
            let told : ◌≡◌ {A = Reached} (record { edge = e; complete = m }) (reached k new) =
            d ∙ ap (λ (l : List Run). reached k (spliced l i j (run lo hi))) runs_here ∙ ap (reached k) (sym (inserted lo hi f g)) in
            rw (le-ltb run_places (length new) (omega (arith, length_new)), between_absorbed, z ∙ sym between_adds)
            (ap₂ (λ (q : Reached) (c : List ℕ). record { answer = Ok (record { reached = q; absorbed = j - i; adds = adds from to rs }); area = c }) told stored)
