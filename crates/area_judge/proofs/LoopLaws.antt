-- Judging an area: one transfer, one turn of the loop over the transfers, and the whole.
-- Assumes nothing.
use Prim.Native.Nat.{ℕ, zero, suc, ◌+◌, ◌-◌, ◌^◌, ◌≤◌, ◌<◌}
use mathlib.Core.Path.{◌≡◌, refl, sym, ◌∙◌}
use mathlib.Core.List.{List, ◌∷◌, ◌++◌}
use mathlib.Core.Bool.{Bool, true, false}
use native.Mathlib.Omega.{arith}
use lib.ListN.{length, length-append}
use lib.Dec.{ltb, leb}
use Rattle.octets.specs.Numbers.{le_digits}
use Rattle.octets.proofs.OctetLaws.{octets_append}
use Rattle.octets.proofs.LowFirstLaws.{length_low_digits, low_digits_octets}
use borrow.Author.Tests.{ltb-true, lt-ltb, le-ltb, le-leb, lt-leb}
use Rattle.words.specs.Words.{word_at}
use Rattle.run_rows.specs.Rows.{runs_from}
use Rattle.run_judge.specs.Judge.{runs_test}
use Rattle.run_rows.proofs.RowsLaws.{length_runs}
use Rattle.run_judge.proofs.JudgeLaws.{both_true}
use Rattle.transfer.specs.Transfers.{length_test}
use Rattle.area.specs.Layout.{transfer_places, run_places, area_octets, id_field, width_field, length_field, count_field, stamped_field, head_at, run_at, half_at}
use Rattle.area.specs.Places.{stamp_by, transfer_at, transfers_from}
use Rattle.area.specs.Judge.{stamp_test, transfer_test, fine_test, judged}
use Rattle.area.proofs.JudgeLaws.{octets_passes}

-- a head's number 0 or 1 says a timestamp or none
stamp_test_lem : (n x y : ℕ) → stamp_test (stamp_by n x y) ≡ leb n 1
unfolding stamp_test stamp_by
stamp_test_lem zero x y = refl
stamp_test_lem (suc zero) x y =
    let l : length (le_digits 8 x ++ le_digits 8 y) ≡ 16 = length-append (le_digits 8 x) (le_digits 8 y) ∙ omega (arith, length_low_digits 8 x, length_low_digits 8 y) in
    rw l (octets_passes (le_digits 8 x ++ le_digits 8 y) (octets_append (le_digits 8 x) (le_digits 8 y) (low_digits_octets 8 x) (low_digits_octets 8 y)))
stamp_test_lem (suc (suc n)) x y = sym (lt-leb (suc (suc n)) 1 (omega arith))

-- ---- one transfer

module _ (a : List ℕ) (i id : ℕ) (p : id ≡ word_at a (head_at i id_field)) where
  pub id_not : 2 ^ 32 ≤ id → false ≡ transfer_test (transfer_at a i)
  unfolding transfer_test
  id_not h = rw (← p, le-ltb id (2 ^ 32) h)

  module _ (size width : ℕ) (t : Bool) (small : id < 2 ^ 32) (q : size ≡ word_at a (head_at i length_field)) (r : width ≡ word_at a (head_at i width_field)) (is : t ≡ length_test width size) where
    pub width_not : t ≡ false → false ≡ transfer_test (transfer_at a i)
    unfolding transfer_test
    width_not f = rw (← p, ← q, ← r, lt-ltb id (2 ^ 32) small, ← is, f)

    module _ (runs : ℕ) (f : t ≡ true) (g : runs ≡ word_at a (head_at i count_field)) where
      pub runs_not : run_places < runs → false ≡ transfer_test (transfer_at a i)
      unfolding transfer_test
      runs_not h =
          let l : length (runs_from a (run_at 0 i 0) (run_at 1 i 0) runs) ≡ runs = length_runs a (run_at 0 i 0) (run_at 1 i 0) runs in
          rw (← p, ← q, ← r, ← g, lt-ltb id (2 ^ 32) small, ← is, f, l, lt-leb runs run_places h)

      module _ (b : Bool) (h : runs ≤ run_places) (w : b ≡ runs_test size (runs_from a (run_at 0 i 0) (run_at 1 i 0) runs)) where
        pub runs_fail : b ≡ false → false ≡ transfer_test (transfer_at a i)
        unfolding transfer_test
        runs_fail e =
            let l : length (runs_from a (run_at 0 i 0) (run_at 1 i 0) runs) ≡ runs = length_runs a (run_at 0 i 0) (run_at 1 i 0) runs in
            rw (← p, ← q, ← r, ← g, lt-ltb id (2 ^ 32) small, ← is, f, l, le-leb runs run_places h, ← w, e)

        pub stamp_decide : (n : ℕ) → b ≡ true → n ≡ word_at a (head_at i stamped_field) → leb n 1 ≡ transfer_test (transfer_at a i)
        unfolding transfer_test
        stamp_decide n e c =
            let l : length (runs_from a (run_at 0 i 0) (run_at 1 i 0) runs) ≡ runs = length_runs a (run_at 0 i 0) (run_at 1 i 0) runs in
            rw (← p, ← q, ← r, ← g, lt-ltb id (2 ^ 32) small, ← is, f, l, le-leb runs run_places h, ← w, e, ← c) (sym (stamp_test_lem n (word_at a (half_at i 0)) (word_at a (half_at i 1))))

pub id_small : (a : List ℕ) (i : ℕ) → transfer_test (transfer_at a i) ≡ true → word_at a (head_at i id_field) < 2 ^ 32
unfolding transfer_test
id_small a i e = ltb-true (word_at a (head_at i id_field)) (2 ^ 32) (both_true (ltb (word_at a (head_at i id_field)) (2 ^ 32)) _ e).0

-- ---- the transfers, at transfer i

transfers_next : (a : List ℕ) (i n : ℕ) → i < n → transfers_from a i (n - i) ≡ transfer_at a i ∷ transfers_from a (i + 1) (n - (i + 1))
unfolding transfers_from
transfers_next a i n h =
    let m : n - i ≡ suc (n - (i + 1)) = omega arith in
    let p : i + 1 ≡ suc i = omega arith in
    rw (m, p)

module _ (a : List ℕ) (i n least : ℕ) (b : Bool) (inv : fine_test least (transfers_from a i (n - i)) ≡ b) where
  pub fine_end : n ≤ i → true ≡ b
  unfolding fine_test transfers_from
  fine_end h = let m : n - i ≡ 0 = omega arith in rw m at inv

  module _ (id : ℕ) (more : i < n) (p : id ≡ word_at a (head_at i id_field)) where
    pub fine_low : id < least → false ≡ b
    unfolding fine_test
    fine_low h = rw (transfers_next a i n more, ← p, lt-leb least id h) at inv

    module _ (t : Bool) (high : least ≤ id) (is : t ≡ transfer_test (transfer_at a i)) where
      pub fine_not : t ≡ false → false ≡ b
      unfolding fine_test
      fine_not f = rw (transfers_next a i n more, ← is, f, ← p, le-leb least id high) at inv

      pub fine_more : t ≡ true → fine_test (id + 1) (transfers_from a (i + 1) (n - (i + 1))) ≡ b
      unfolding fine_test
      fine_more f = let s : id + 1 ≡ suc id = omega arith in rw s (rw (transfers_next a i n more, ← is, f, ← p, le-leb least id high) at inv)

-- ---- the area

pub judged_short : (a : List ℕ) → length a < area_octets → false ≡ judged a
unfolding judged
judged_short a h = rw (lt-leb area_octets (length a) h)

module _ (a : List ℕ) (n : ℕ) (long : area_octets ≤ length a) (is : n ≡ word_at a 0) where
  pub judged_many : transfer_places < n → false ≡ judged a
  unfolding judged
  judged_many h = rw (le-leb area_octets (length a) long, ← is, lt-leb n transfer_places h)

  pub judged_rest : (b : Bool) → n ≤ transfer_places → b ≡ fine_test 0 (transfers_from a 0 n) → b ≡ judged a
  unfolding judged
  judged_rest b h e = rw (le-leb area_octets (length a) long, ← is, le-leb n transfer_places h) e
