-- R9: when each refusal is given, for the bitmap receiver: 20 and 22 of the marks, and 9 of opening; and that opening answers a refusal exactly
-- when its definition gives the number.
-- Assumes nothing.
use Prim.Native.Nat.{ℕ, suc, ◌-◌, ◌^◌, ◌≤◌, ◌<◌}
use mathlib.Core.Path.{◌≡◌, refl}
use mathlib.Core.Bool.{Bool, true, false, not, ◌&&◌}
use mathlib.Core.List.{List}
use mathlib.Core.Logic.Iff
use mathlib.Core.Logic.{◌⊎◌, inl, inr, ⊎_elim, ◌↔◌}
use native.Mathlib.Omega.{arith}
use lib.ListN.{length}
use lib.Dec.{leb}
use borrow.Author.Tests.{leb-true, leb-false, le-leb, lt-leb, le-ltb}
use Rattle.octets.specs.Numbers.{Width}
use Rattle.refusals.specs.Refusals.{refusal_of}
use Rattle.refusals.proofs.TestLaws.{not_iff, and_iff}
use Rattle.refusals.proofs.LimitLaws.{refused_iff}
use Rattle.refusals.proofs.ReasonLaws.{Reasons, given, one, below, equal, says, ◌▸◌, named}
use Rattle.runs.specs.Holes.{edge}
use Rattle.runs.proofs.EdgeLaws.{edge_member, edge_above}
use Rattle.packet_metadata.specs.Metadata.{metadata_refusal, metadata_of}
use Rattle.transfer.specs.declared.Key.{Key}
use Rattle.header.specs.FirstWord.{sum_type}
use Rattle.transfer.specs.Transfers.{key_of, length_test}
use Rattle.transfer.specs.Opening.{new_refusal}
use Rattle.transfer.proofs.LengthLaws.{length_passed, length_passes}
use Rattle.marks.specs.Marks.{mark_octets, mark_count, marked}
use Rattle.marks.specs.MarkedRuns.{marked_runs}
use Rattle.marks.proofs.MarkLaws.{marked_canonical, marked_member}
use Rattle.bitmap.specs.State.{longest, openable, state_test, marks_refusal, state_refusal}
use Rattle.bitmap.specs.Open.{open_refusal, open_as, open_marks}
use Rattle.std.specs.Prelude.{Err}

-- ---- 20 and 22

-- a w and L that an opening takes
pub openable_iff : (k : Key) → (openable k ≡ true) ↔ (Width k.width × (k.length < 256 ^ k.width) × (k.length ≤ longest))
unfolding openable
openable_iff k = (
  (λ e. let p = (and_iff (length_test k.width k.length) (leb k.length longest)).0 e in
      let w = length_passed k.width k.length p.0 in
      (w.0, w.1, leb-true k.length longest p.1)),
  (λ f. let h : k.length ≤ longest = f.2 in
      (and_iff (length_test k.width k.length) (leb k.length longest)).1 (length_passes k.width k.length f.0 f.1 (omega arith), le-leb k.length longest h)),
)

-- R12.4: a mark at or above L, more than 64 runs, or a width and length that no opening takes
abbrev pub Unfit : Key → List ℕ → Type 0
Unfit k s = ((n : ℕ) × (k.length ≤ n) × (n < mark_count) × (marked s n ≡ true)) ⊎ ((64 < length (marked_runs s)) ⊎ (openable k ≡ false))

three : (a b c : Bool) → (a && (b && c)) ≡ false → (c ≡ false) ⊎ ((b ≡ false) ⊎ (a ≡ false))
three true true c e = inl e
three true false c e = inr (inl refl)
three false b c e = inr (inr refl)

module _ (k : Key) (s : List ℕ) where
  -- the highest mark is the one before the edge
  mark_above : leb (edge (marked_runs s)) k.length ≡ false → (n : ℕ) × (k.length ≤ n) × (n < mark_count) × (marked s n ≡ true)
  mark_above e =
      let h = leb-false (edge (marked_runs s)) k.length e in
      let m = (marked_member s (edge (marked_runs s) - 1)).0 (edge_member (marked_runs s) (edge (marked_runs s) - 1) (marked_canonical s) (omega arith)) in
      (edge (marked_runs s) - 1, omega arith, m.0, m.1)

  pub unfit_iff : (state_test k s ≡ false) ↔ Unfit k s
  unfolding state_test
  unfit_iff = (
    (λ e. ⊎_elim (λ c. inl (mark_above c)) (⊎_elim (λ b. inr (inl (leb-false (length (marked_runs s)) 64 b))) (λ a. inr (inr a)))
        (three (openable k) (leb (length (marked_runs s)) 64) (leb (edge (marked_runs s)) k.length) e)),
    ⊎_elim
        (λ x. let h = edge_above (marked_runs s) x.0 (marked_canonical s) ((marked_member s x.0).1 (x.2, x.3)) in
        let l : k.length ≤ x.0 = x.1 in
        last_false (openable k) (leb (length (marked_runs s)) 64) (leb (edge (marked_runs s)) k.length) (lt-leb (edge (marked_runs s)) k.length (omega arith)))
        (⊎_elim (λ h. middle_false (openable k) (leb (length (marked_runs s)) 64) _ (lt-leb (length (marked_runs s)) 64 h)) (λ a. rw a)),
  )
    where
      last_false : (a b c : Bool) → c ≡ false → (a && (b && c)) ≡ false
      last_false true true c e = e
      last_false true false c e = refl
      last_false false b c e = refl

      middle_false : (a b c : Bool) → b ≡ false → (a && (b && c)) ≡ false
      middle_false true true c e = absurd (let z : ◌≡◌ {A = ℕ} 0 1 = cc in omega arith)
      middle_false true false c e = refl
      middle_false false b c e = refl

  abbrev pub tests : Reasons
  tests = one 20 (below (length s) mark_octets) ▸ one 22 (says (not (state_test k s)) (Iff.trans (not_iff (state_test k s)) unfit_iff))

  pub state_is : state_refusal k s ≡ tests.refusal
  unfolding state_refusal marks_refusal
  state_is = refl

  abbrev pub reasons : Reasons
  reasons = named (state_refusal k s) tests state_is

  pub twenty_iff : (state_refusal k s ≡ 20) ↔ (length s < mark_octets)
  twenty_iff = given reasons 20

  pub twenty_two_iff : (state_refusal k s ≡ 22) ↔ ((mark_octets ≤ length s) × Unfit k s)
  twenty_two_iff = given reasons 22

-- ---- 9 of opening, after the marks and the reader's
abbrev after_read : List ℕ → Reasons
after_read packet = one 9 (below longest (key_of (metadata_of packet)).length) ▸ one 23 (equal (sum_type (metadata_of packet).flags) 1)

pub nine_iff : (s packet : List ℕ) → mark_octets ≤ length s → metadata_refusal packet ≡ 0
    → (open_refusal s packet ≡ 9) ↔ (longest < (key_of (metadata_of packet)).length)
unfolding open_refusal marks_refusal new_refusal
nine_iff s packet long read = rw (le-ltb (length s) mark_octets long, read) (given (after_read packet) 9)

-- ---- 23 of opening, after all others
pub twenty_three_iff : (s packet : List ℕ) → mark_octets ≤ length s → metadata_refusal packet ≡ 0
    → (open_refusal s packet ≡ 23) ↔ (((key_of (metadata_of packet)).length ≤ longest) × (sum_type (metadata_of packet).flags ≡ 1))
unfolding open_refusal marks_refusal new_refusal
twenty_three_iff s packet long read = rw (le-ltb (length s) mark_octets long, read) (given (after_read packet) 23)

-- ---- the answers

pub open_refused_iff : (s packet : List ℕ) (n : ℕ) → ((open_marks s packet).answer ≡ Err (refusal_of (suc n))) ↔ (open_refusal s packet ≡ suc n)
unfolding open_marks open_as
open_refused_iff s packet n =
    refused_iff Err (λ m. (open_as m s (key_of (metadata_of packet))).answer) (λ m. refl)
    (λ r e. let z : ◌≡◌ {A = ℕ} 0 1 = cc in omega arith) (λ q r e. cc) (open_refusal s packet) n
