-- What is known where neither the STATUS nor the largest payload is refused: the list is one that a reader accepts. Assumes nothing.
use Prim.Native.Nat.{ℕ, suc, ◌+◌, ◌≤◌, ◌<◌}
use mathlib.Core.Path.{◌≡◌, ◌∙◌}
use mathlib.Core.Bool.{not}
use mathlib.Core.List.{List}
use mathlib.Core.Logic.{⊎_elim}
use native.Mathlib.Omega.{arith}
use lib.ListN.{length, drop, drop_of_length-le}
use lib.Dec.{ltb, leb, eqb}
use borrow.Author.Tests.{eqb-true, leb-true, ltb-true, eq-eqb, lt-ltb, not-false}
use Rattle.refusals.specs.Refusals.{when}
use Rattle.refusals.proofs.RefusalLaws.{first_none, rest_none, failed}
use Rattle.refusals.proofs.TestLaws.{and_iff}
use Rattle.header.specs.FirstWord.{status_of}
use Rattle.header.specs.Start.{word_of}
use Rattle.packet_status.specs.Status.{progress_of, response_of, partial_told, unasked_told, hole_count, hole_list, status_refusal, hole_refusal, indexed_hole}
use Rattle.hole_list.proofs.AcceptedLaws.{ListAccepted, nth}
use Rattle.packet_status.proofs.StatusLaws.{status_fine, status_long, success_fine, length_list, hole_fine, listed_hole}
use Rattle.runs.specs.declared.Hole.{Hole}
use Rattle.plan.specs.Pieces.{piece_count, plan_of}
use Rattle.plan.proofs.PieceLaws.{count_below, length_dropped}
use Rattle.plan.specs.Planning.{allowed, resend_refusal, Readable}

pub record ResendFine (m : ℕ) (s : List ℕ) : Type 0 where
  pub read : status_refusal s ≡ 0
  pub success : status_of (word_of s) ≡ 0
  pub some : 0 < m
  pub small : m ≤ 65000

pub resend_fine : (m : ℕ) (s : List ℕ) → resend_refusal m s ≡ 0 → ResendFine m s
unfolding resend_refusal
resend_fine m s e =
    let r = rest_none (status_refusal s) _ e in
    let z = not-false _ (failed (not (eqb (status_of (word_of s)) 0)) 10 (first_none _ _ r)) in
    let b = (and_iff (ltb 0 m) (leb m 65000)).0 (not-false _ (failed (not (allowed m)) 20 (rest_none (when (not (eqb (status_of (word_of s)) 0)) 11) _ r))) in
    record { read = first_none _ _ e; success = eqb-true _ _ z; some = ltb-true _ _ b.0; small = leb-true _ _ b.1 }

pub resend_read : (m : ℕ) (s : List ℕ) → resend_refusal m s ≡ 0 → status_refusal s ≡ 0
resend_read m s e = (resend_fine m s e).read

pub resend_long : (m : ℕ) (s : List ℕ) → resend_refusal m s ≡ 0 → 8 ≤ length s
resend_long m s e = status_long s (resend_read m s e)

pub resend_success : (m : ℕ) (s : List ℕ) → resend_refusal m s ≡ 0 → status_of (word_of s) ≡ 0
resend_success m s e = (resend_fine m s e).success

module _ (m : ℕ) (s : List ℕ) (f : ResendFine m s) where
  -- the last STATUS, which has no hole, or a list of holes one after the other
  accepted : ListAccepted (partial_told s) (unasked_told s) (progress_of s) (response_of s) (hole_list s)
  accepted = (success_fine s ((status_fine s f.read).success f.success)).list

  -- a STATUS has its first word
  pub long : 8 ≤ length s
  long = (status_fine s f.read).typed.long

  pub full : (i : ℕ) → i < length (hole_list s) → (nth (hole_list s) i).start < (nth (hole_list s) i).end
  full i l = ⊎_elim (λ a. absurd (omega (arith, l, a.no_holes))) (λ a. a.less i l) accepted

  pub apart : (i : ℕ) → suc i < length (hole_list s) → (nth (hole_list s) i).end < (nth (hole_list s) (suc i)).start
  apart i l = ⊎_elim (λ a. absurd (omega (arith, l, a.no_holes))) (λ a. a.apart i l) accepted

  -- each hole may be read where it stands
  pub readable : Readable s (length (hole_list s))
  unfolding hole_refusal
  readable i l =
      let k : i < hole_count s = rw length_list at l in
      rw (f.read, eq-eqb (status_of (word_of s)) 0 f.success, lt-ltb i (hole_count s) k)

-- a hole that may be read is the one with that index
pub hole_indexed : (s : List ℕ) (count i : ℕ) → Readable s count → i < count → nth (hole_list s) i ≡ indexed_hole i s
hole_indexed s count i r l = listed_hole i s (record { start = 0; end = 0 }) (hole_fine i s (r i l)).below

-- the holes of a STATUS that is not refused, as they are read
pub hole_read : (m : ℕ) (s : List ℕ) (i : ℕ) → resend_refusal m s ≡ 0 → i < length (hole_list s) → hole_refusal i s ≡ 0
hole_read m s i e l = readable m s (resend_fine m s e) i l

pub hole_ordered : (m : ℕ) (s : List ℕ) (i : ℕ) → resend_refusal m s ≡ 0 → i < length (hole_list s) → (indexed_hole i s).start < (indexed_hole i s).end
hole_ordered m s i e l =
    let f = resend_fine m s e in
    rw (hole_indexed s (length (hole_list s)) i (readable m s f) l) at (full m s f i l)

pub largest_some : (m : ℕ) (s : List ℕ) → resend_refusal m s ≡ 0 → 0 < m
largest_some m s e = (resend_fine m s e).some

-- the pieces of the holes from the index i on
pub counted_next : (m : ℕ) (s : List ℕ) (i : ℕ) → resend_refusal m s ≡ 0 → i < length (hole_list s)
    → length (plan_of m (drop i (hole_list s)))
    ≡ piece_count m (record { start = (indexed_hole i s).start; end = (indexed_hole i s).end }) + length (plan_of m (drop (i + 1) (hole_list s)))
counted_next m s i e l =
    let one : i + 1 ≡ suc i = omega arith in
    let f = resend_fine m s e in
    rw one (length_dropped m (hole_list s) i l ∙ rw (hole_indexed s (length (hole_list s)) i (readable m s f) l))

-- they are not more than the octets of its hole, and the next one starts above
pub counted_octets : (m : ℕ) (s : List ℕ) (i : ℕ) → resend_refusal m s ≡ 0 → i < length (hole_list s)
    → (indexed_hole i s).start + piece_count m (record { start = (indexed_hole i s).start; end = (indexed_hole i s).end }) ≤ (indexed_hole i s).end
counted_octets m s i e l =
    let o = hole_ordered m s i e l in
    omega (arith, count_below m (indexed_hole i s).start (indexed_hole i s).end (largest_some m s e) o)

pub next_above : (m : ℕ) (s : List ℕ) (i : ℕ) → resend_refusal m s ≡ 0 → i + 1 < length (hole_list s) → (indexed_hole i s).end < (indexed_hole (i + 1) s).start
next_above m s i e l =
    let one : i + 1 ≡ suc i = omega arith in
    let f = resend_fine m s e in
    let r = readable m s f in
    rw one
    (rw (hole_indexed s (length (hole_list s)) i r (omega arith), hole_indexed s (length (hole_list s)) (suc i) r (omega arith)) at (apart m s f i (omega arith)))

pub counted_all : (m : ℕ) (hs : List Hole) (i : ℕ) → length hs ≤ i → length (plan_of m (drop i hs)) ≡ 0
unfolding plan_of
counted_all m hs i l = rw (drop_of_length-le hs l)
