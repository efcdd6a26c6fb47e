-- What the tests mean: a table passes exactly where it is valid, and an area exactly where the table read from it is.
-- Assumes nothing.
use Prim.Native.Nat.{ℕ, zero, suc, ◌^◌, ◌≤◌, ◌<◌}
use mathlib.Core.Path.{◌≡◌, refl, ap}
use mathlib.Core.List.{List, [], ◌∷◌}
use mathlib.Core.Bool.{Bool, true, false, cond}
use mathlib.Core.Option.{none, some}
use mathlib.Core.Logic.{inl, inr}
use native.Mathlib.Omega.{arith}
use lib.ListN.{length}
use lib.Dec.{ltb, leb, eqb}
use borrow.Author.Tests.{ltb-true, leb-true, eqb-true, lt-ltb, le-leb}
use Rattle.octets.specs.Numbers.{Octets}
use Rattle.run_judge.specs.Judge.{runs_test}
use Rattle.words.specs.Words.{word_at}
use Rattle.run_judge.proofs.JudgeLaws.{both_true, runs_passed, runs_passes}
use Rattle.timestamp.specs.Timestamps.{Stamp}
use Rattle.transfer.specs.Transfers.{Transfer, TransferFine, length_test}
use Rattle.transfer.proofs.LengthLaws.{length_passed, length_passes}
use Rattle.table.specs.Tables.{FineFrom, Valid}
use Rattle.area.specs.Layout.{area_octets}
use Rattle.area.specs.Places.{read_table, nth, Holds, HoldsHalves}
use Rattle.area.specs.Judge.{octets_test, stamp_test, transfer_test, fine_test, judged, table_of}
use Rattle.area.proofs.PlaceLaws.{length_transfers, holds_read}

-- ---- timestamps

octets_passed : (s : List ℕ) → octets_test s ≡ true → Octets s
unfolding octets_test
octets_passed [] e i = omega arith
octets_passed (o ∷ s) e zero = ltb-true o 256 (both_true (ltb o 256) _ e).0
octets_passed (o ∷ s) e (suc i) = octets_passed s (both_true (ltb o 256) _ e).1 i

pub octets_passes : (s : List ℕ) → Octets s → octets_test s ≡ true
unfolding octets_test
octets_passes [] o = refl
octets_passes (x ∷ s) o = rw (lt-ltb x 256 (o 0)) (octets_passes s (λ i. o (suc i)))

no_octets : (s : List ℕ) → length s ≡ 0 → s ≡ []
no_octets [] e = refl
no_octets (o ∷ s) e = absurd (omega arith)

stamp_passed : (s : List ℕ) → stamp_test s ≡ true → Stamp s
unfolding stamp_test
stamp_passed s e = go (eqb (length s) 0) (eqb (length s) 16) refl refl e
  where
    go : (a b : Bool) → eqb (length s) 0 ≡ a → eqb (length s) 16 ≡ b → cond a true (cond b (octets_test s) false) ≡ true → Stamp s
    go true b p q t = inl (no_octets s (eqb-true (length s) 0 p))
    go false true p q t = inr (eqb-true (length s) 16 q, octets_passed s t)
    go false false p q t = absurd (let z : ◌≡◌ {A = ℕ} 0 1 = cc in omega arith)

stamp_passes : (s : List ℕ) → Stamp s → stamp_test s ≡ true
unfolding stamp_test
stamp_passes s (inl e) = rw e
stamp_passes s (inr h) = rw h.0 (octets_passes s h.1)

-- ---- transfers

transfer_passed : (x : Transfer) → transfer_test x ≡ true → TransferFine x
unfolding transfer_test
transfer_passed x e =
    let p = both_true (ltb x.key.id (2 ^ 32)) _ e in
    let q = both_true (length_test x.key.width x.key.length) _ p.1 in
    let r = both_true (leb (length x.runs) 64) _ q.1 in
    let u = both_true (runs_test x.key.length x.runs) _ r.1 in
    let w = length_passed x.key.width x.key.length q.0 in
    let s = runs_passed x.key.length x.runs u.0 in
    record {
      id_fits = ltb-true x.key.id (2 ^ 32) p.0;
      width_is = w.0;
      length_fits = w.1;
      length_held = w.2;
      few = leb-true (length x.runs) 64 r.0;
      canonical = s.0;
      within = s.1;
      stamp_is = stamp_passed x.stamp u.1;
    }

transfer_passes : (x : Transfer) → TransferFine x → transfer_test x ≡ true
unfolding transfer_test
transfer_passes x f =
    rw (
      lt-ltb x.key.id (2 ^ 32) f.id_fits,
      length_passes x.key.width x.key.length f.width_is f.length_fits f.length_held,
      le-leb (length x.runs) 64 f.few,
      runs_passes x.key.length x.runs f.canonical f.within,
    )
    (stamp_passes x.stamp f.stamp_is)

pub fine_passed : (k : ℕ) (t : List Transfer) → fine_test k t ≡ true → FineFrom k t
unfolding fine_test
fine_passed k [] e = tt
fine_passed k (x ∷ t) e =
    let p = both_true (leb k x.key.id) _ e in
    let q = both_true (transfer_test x) _ p.1 in
    (leb-true k x.key.id p.0, transfer_passed x q.0, fine_passed (suc x.key.id) t q.1)

pub fine_passes : (k : ℕ) (t : List Transfer) → FineFrom k t → fine_test k t ≡ true
unfolding fine_test
fine_passes k [] f = refl
fine_passes k (x ∷ t) f = rw (le-leb k x.key.id f.0, transfer_passes x f.1) (fine_passes (suc x.key.id) t f.2)

pub fine_at : (k : ℕ) (t : List Transfer) (i : ℕ) → FineFrom k t → i < length t → TransferFine (nth t i)
fine_at k [] i f h = absurd (omega arith)
fine_at k (x ∷ t) zero f h = f.1
fine_at k (x ∷ t) (suc i) f h = fine_at (suc x.key.id) t i f.2 (omega arith)

stamps_fine : (t : List Transfer) → Valid t → (i : ℕ) → i < length t → Stamp (nth t i).stamp
stamps_fine t v i h = (fine_at 0 t i v.fine h).stamp_is

-- ---- areas

pub judged_passed : (a : List ℕ) → judged a ≡ true → (area_octets ≤ length a) × Valid (read_table a)
unfolding judged
judged_passed a e =
    let p = both_true (leb area_octets (length a)) _ e in
    let q = both_true (leb (word_at a 0) 16) _ p.1 in
    let n : word_at a 0 ≤ 16 = leb-true (word_at a 0) 16 q.0 in (
      leb-true area_octets (length a) p.0,
      record { few = omega (arith, length_transfers a 0 (word_at a 0)); fine = fine_passed 0 (read_table a) q.1 },
    )

pub judged_passes : (a : List ℕ) (t : List Transfer) → area_octets ≤ length a → Valid t → Holds a t → HoldsHalves a t → judged a ≡ true
unfolding judged
judged_passes a t l v h s =
    let n : length t ≤ 16 = v.few in
    rw (le-leb area_octets (length a) l, le-leb (word_at a 0) 16 (omega (arith, h.count)), holds_read a t h s (stamps_fine t v)) (fine_passes 0 t v.fine)

-- an area holds t exactly where it is long enough, t is valid, and its used places hold t's numbers
pub held_passes : (a : List ℕ) (t : List Transfer) → area_octets ≤ length a → Valid t → Holds a t → HoldsHalves a t → table_of a ≡ some t
unfolding table_of
held_passes a t l v h s = rw (judged_passes a t l v h s) (ap some (holds_read a t h s (stamps_fine t v)))

pub held_passed : (a : List ℕ) (t : List Transfer) → table_of a ≡ some t → (judged a ≡ true) × (read_table a ≡ t)
unfolding table_of
held_passed a t e = go (judged a) refl e
  where
    go : (b : Bool) → judged a ≡ b → cond b (some (read_table a)) none ≡ some t → (judged a ≡ true) × (read_table a ≡ t)
    go true p q = (p, cc)
    go false p q = absurd (let z : ◌≡◌ {A = ℕ} 0 1 = cc in omega arith)

pub held_valid : (a : List ℕ) (t : List Transfer) → table_of a ≡ some t → Valid t
held_valid a t e = let p = held_passed a t e in rw p.1 at (judged_passed a p.0).1
