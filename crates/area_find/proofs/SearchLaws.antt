-- The search for an Id's place, one step of the loop after the other.
-- Assumes nothing.
use Prim.Native.Nat.{ℕ, zero, suc, ◌+◌, ◌-◌, ◌≤◌, ◌<◌}
use mathlib.Core.Path.{◌≡◌, refl, sym, ap, ap₂, subst, ◌∙◌}
use mathlib.Core.Bool.{Bool, true, false, cond, ◌&&◌}
use mathlib.Core.List.{List, [], ◌∷◌}
use native.Mathlib.Omega.{arith}
use lib.ListN.{length}
use lib.Dec.{ltb, eqb}
use borrow.Author.Tests.{lt-ltb, le-ltb}
use Rattle.words.specs.Words.{word_at}
use Rattle.transfer.specs.Transfers.{Transfer}
use Rattle.table.specs.Tables.{Valid}
use Rattle.area.specs.Layout.{transfer_places, area_octets, head_at, id_field}
use Rattle.area.specs.Places.{transfer_at, transfers_from, read_table, nth, place_of, open_at, place_in}
use Rattle.area.specs.Judge.{judged}
use Rattle.area.specs.declared.Place.{Place}
use Rattle.area.proofs.PlaceLaws.{length_transfers, transfer_at_lem}
use Rattle.area.proofs.JudgeLaws.{judged_passed}

-- i places are behind, and all their Ids are below
pub record Search (a : List ℕ) (id n i : ℕ) : Type 0 where
  pub long : area_octets ≤ length a
  pub few : n ≤ transfer_places
  pub count : n ≡ word_at a 0
  pub inside : i ≤ n
  pub place : place_of id (read_table a) ≡ i + place_of id (transfers_from a i (n - i))

pub search_start : (a : List ℕ) (id n : ℕ) → judged a ≡ true → n ≡ word_at a 0 → Search a id n 0
search_start a id n j e =
    let v = judged_passed a j in
    let l : length (read_table a) ≡ word_at a 0 = length_transfers a 0 (word_at a 0) in
    let m : length (read_table a) ≤ transfer_places = v.1.few in
    record {
      long = v.0;
      few = omega arith;
      count = e;
      inside = omega arith;
      place = let z : n - 0 ≡ word_at a 0 = omega arith in rw z (let y : (x : ℕ) → x ≡ 0 + x = λ x. omega arith in y _);
    }

-- the transfers from place i on
step : (a : List ℕ) (n i : ℕ) → i < n → transfers_from a i (n - i) ≡ transfer_at a i ∷ transfers_from a (suc i) (n - suc i)
unfolding transfers_from
step a n i h = let e : n - i ≡ suc (n - suc i) = omega arith in ap (transfers_from a i) e

module _ (a : List ℕ) (id n i : ℕ) (s : Search a id n i) where
  module _ (w : ℕ) (less : i < n) (is : w ≡ word_at a (head_at i id_field)) where
    pub search_more : w < id → Search a id n (i + 1)
    unfolding place_of
    search_more h =
        record {
          long = s.long;
          few = s.few;
          count = s.count;
          inside = omega arith;
          place =
              s.place ∙ ap (λ (t : List Transfer). i + place_of id t) (step a n i less)
              ∙ ap (λ (b : Bool). i + cond b (suc (place_of id (transfers_from a (suc i) (n - suc i)))) 0) (lt-ltb (word_at a (head_at i id_field)) id (omega arith))
              ∙ (let e : i + 1 ≡ suc i = omega arith in rw e (let y : (x : ℕ) → i + suc x ≡ suc i + x = λ x. omega arith in y _));
        }

    here_at : id ≤ w → place_of id (read_table a) ≡ i
    unfolding place_of
    here_at h =
        s.place ∙ ap (λ (t : List Transfer). i + place_of id t) (step a n i less)
        ∙ ap (λ (b : Bool). i + cond b (suc (place_of id (transfers_from a (suc i) (n - suc i)))) 0) (le-ltb (word_at a (head_at i id_field)) id (omega arith))
        ∙ omega arith

    here_open : open_at id (read_table a) i ≡ eqb w id
    unfolding open_at
    here_open =
        let l : length (read_table a) ≡ word_at a 0 = length_transfers a 0 (word_at a 0) in
        let c : n ≡ word_at a 0 = s.count in
        ap₂ ◌&&◌ (lt-ltb i (length (read_table a)) (omega arith))
        (ap (λ (x : ℕ). eqb x id) (ap (λ (x : Transfer). x.key.id) (transfer_at_lem a i (omega arith)) ∙ sym is))

    pub search_here : id ≤ w → record { at = i; «open» = eqb w id } ≡ place_in id (read_table a)
    unfolding place_in
    search_here h = let p = here_at h in rw p (λ k. record { at = i; «open» = sym here_open k })

  pub search_end : n ≤ i → record { at = n; «open» = false } ≡ place_in id (read_table a)
  unfolding place_in open_at place_of transfers_from
  search_end h =
      let l : length (read_table a) ≡ word_at a 0 = length_transfers a 0 (word_at a 0) in
      let c : n ≡ word_at a 0 = s.count in
      let z : n - i ≡ 0 = omega arith in
      let p : place_of id (read_table a) ≡ n = s.place ∙ ap (λ (m : ℕ). i + place_of id (transfers_from a i m)) z ∙ omega (arith, s.inside) in
      rw (p, le-ltb n (length (read_table a)) (omega (arith, s.inside)))
