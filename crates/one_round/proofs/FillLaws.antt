-- Pieces of a good plan, recorded in their order: after each of them all offsets below its end are received, and above it nothing
-- has changed. So the runs are those of the start with one stretch from 0 inserted, and there is at most one more of them.
-- Assumes nothing.
use Prim.Native.Nat.{ℕ, zero, suc, ◌+◌, ◌≤◌, ◌<◌}
use mathlib.Core.Path.{◌≡◌, refl, sym, ap, subst, ◌∙◌}
use mathlib.Core.Bool.{Bool, true, false, cond, false≢true}
use mathlib.Core.List.{List, [], ◌∷◌}
use mathlib.Core.Logic.{◌⊎◌, inl, inr, ⊎_elim}
use native.Mathlib.Nat.{le_trans}
use native.Mathlib.Omega.{arith}
use lib.ListN.{length, take}
use lib.Dec.{ltb}
use borrow.Author.Tests.{ltb-true, ltb-false}
use Rattle.refusals.proofs.TestLaws.{and_iff}
use Rattle.runs.specs.Runs.{Run, run, Within, Member, contains, Canonical, insert}
use Rattle.runs.specs.Holes.{edge, edge_from, holes, holes_from, InHole, HolesApart}
use Rattle.runs.specs.declared.Hole.{Hole}
use Rattle.runs.proofs.CompareLaws.{le_or_lt}
use Rattle.runs.proofs.CanonicalLaws.{canonical_unique, contains_sound, contains_holds}
use Rattle.runs.proofs.InsertLaws.{insert_only, insert_holds, insert_canonical}
use Rattle.runs.proofs.CountLaws.{insert_count}
use Rattle.runs.proofs.EdgeLaws.{edge_above}
use Rattle.runs.proofs.HoleLaws.{hole_iff, holes_apart, apart_weaken}
use Rattle.plan.specs.declared.Piece.{Piece}
use Rattle.plan.proofs.PieceLaws.{hole}
use Rattle.plan.proofs.CursorLaws.{after_done}
use Rattle.plan_check.specs.GoodPlan.{Each, GoodPlan}
use Rattle.plan_check.specs.Checking.{fits}
use Rattle.plan_check.proofs.GoodPlanLaws.{Spaced, Fits, fits_means, goes, means_goes}
use Rattle.one_round.specs.Fills.{filled, whole, GoodPlanFills}

-- ---- all offsets below n received, and above that what was

unfoldable up_to : ℕ → List Run → List Run
up_to zero rs = rs
up_to (suc n) rs = insert 0 (suc n) rs

up_canonical : (n : ℕ) (rs : List Run) → Canonical rs → Canonical (up_to n rs)
unfolding up_to
up_canonical zero rs c = c
up_canonical (suc n) rs c = insert_canonical 0 (suc n) rs (omega arith) c

up_only : (n : ℕ) (rs : List Run) (x : ℕ) → Member (up_to n rs) x → (x < n) ⊎ Member rs x
unfolding up_to
up_only zero rs x m = inr m
up_only (suc n) rs x m = ⊎_elim (λ w. inl w.1) inr (insert_only 0 (suc n) rs x m)

up_holds : (n : ℕ) (rs : List Run) (x : ℕ) → (x < n) ⊎ Member rs x → Member (up_to n rs) x
unfolding up_to
up_holds zero rs x m = ⊎_elim (λ (l : x < 0). absurd (omega arith)) (λ h. h) m
up_holds (suc n) rs x m = insert_holds 0 (suc n) rs x (⊎_elim (λ (l : x < suc n). inl (omega arith, l)) inr m)

-- there is at most one run more
up_length : (n : ℕ) (rs : List Run) → Canonical rs → length (up_to n rs) ≤ suc (length rs)
unfolding up_to
up_length zero rs c = omega arith
up_length (suc n) rs c = omega (arith, insert_count 0 (suc n) rs (omega arith) c)

-- a stretch from a to b, where all from `at` to a was received
up_next : (at a b : ℕ) (rs : List Run) → Canonical rs → at ≤ a → a < b → ((x : ℕ) → at ≤ x → x < a → Member rs x)
    → insert a b (up_to at rs) ≡ up_to b rs
up_next at a b rs c h o between =
    canonical_unique _ _ (insert_canonical a b (up_to at rs) o (up_canonical at rs c)) (up_canonical b rs c)
    (λ x m. up_holds b rs x (⊎_elim (λ w. inl w.1) (λ n. ⊎_elim (λ (l : x < at). inl (omega arith)) inr (up_only at rs x n)) (insert_only a b (up_to at rs) x m)))
    (λ x m. insert_holds a b (up_to at rs) x (⊎_elim (below x) (λ n. inr (up_holds at rs x (inr n))) (up_only b rs x m)))
  where
    low : (x : ℕ) → x < a → Member (up_to at rs) x
    low x l = up_holds at rs x (⊎_elim (λ (p : at ≤ x). inr (between x p l)) inl (le_or_lt at x))

    below : (x : ℕ) → x < b → Within (run a b) x ⊎ Member (up_to at rs) x
    below x l = ⊎_elim (λ (p : a ≤ x). inl (p, l)) (λ (p : x < a). inr (low x p)) (le_or_lt a x)

-- ---- the end

whole_canonical : (e : ℕ) → Canonical (whole e)
whole_canonical zero = tt
whole_canonical (suc n) = (omega arith, omega arith, tt)

whole_only : (e x : ℕ) → Member (whole e) x → x < e
whole_only zero x m = absurd m
whole_only (suc n) x (inl w) = w.1
whole_only (suc n) x (inr m) = absurd m

whole_holds : (e x : ℕ) → x < e → Member (whole e) x
whole_holds zero x l = absurd (omega arith)
whole_holds (suc n) x l = inl (omega arith, l)

pub whole_holes : (e : ℕ) → holes (whole e) ≡ []
unfolding holes_from
whole_holes zero = refl
whole_holes (suc n) = refl

pub whole_edge : (e : ℕ) → edge (whole e) ≡ e
unfolding edge_from
whole_edge zero = refl
whole_edge (suc n) = refl

up_end : (at : ℕ) (rs : List Run) → Canonical rs → at ≤ edge rs → ((x : ℕ) → at ≤ x → x < edge rs → Member rs x) → up_to at rs ≡ whole (edge rs)
up_end at rs c h rest =
    canonical_unique _ _ (up_canonical at rs c) (whole_canonical (edge rs))
    (λ x m. whole_holds (edge rs) x (⊎_elim (λ (l : x < at). omega arith) (λ n. edge_above rs x c n) (up_only at rs x m)))
    (λ x m. up_holds at rs x (high x (whole_only (edge rs) x m)))
  where
    high : (x : ℕ) → x < edge rs → (x < at) ⊎ Member rs x
    high x l = ⊎_elim (λ (p : at ≤ x). inr (rest x p l)) inl (le_or_lt at x)

-- ---- along a plan

-- a piece brings something, and ends at the edge or below
abbrev pub Below : ℕ → Piece → Type 0
Below e p = (0 < p.length) × (p.offset + p.length ≤ e)

record Along (rs : List Run) (at : ℕ) (ps : List Piece) : Type 0 where
  pub ends : filled (up_to at rs) ps ≡ whole (edge rs)
  pub most : (n : ℕ) → length (filled (up_to at rs) (take n ps)) ≤ suc (length rs)
  pub below : Each (Below (edge rs)) ps

module _ (m : ℕ) (rs : List Run) (c : Canonical rs) where
  -- from `at` on the holes below the edge are hs
  abbrev Rest : ℕ → List Hole → Type 0
  Rest at hs = (x : ℕ) → at ≤ x → x < edge rs → (InHole hs x → ⊥) → Member rs x

  -- a piece more
  next : (at : ℕ) (p : Piece) (ps : List Piece) → at ≤ p.offset → Below (edge rs) p → ((x : ℕ) → at ≤ x → x < p.offset → Member rs x)
      → Along rs (p.offset + p.length) ps → Along rs at (p ∷ ps)
  unfolding filled
  next at p ps h b between a =
      let stop = p.offset + p.length in
      let e : insert p.offset stop (up_to at rs) ≡ up_to stop rs = up_next at p.offset stop rs c h (omega arith) between in
      record {
        ends = ap (λ (l : List Run). filled l ps) e ∙ a.ends;
        most = most_of e;
        below = (b, a.below);
      }
    where
      most_of : insert p.offset (p.offset + p.length) (up_to at rs) ≡ up_to (p.offset + p.length) rs
          → (n : ℕ) → length (filled (up_to at rs) (take n (p ∷ ps))) ≤ suc (length rs)
      most_of e zero = up_length at rs c
      most_of e (suc n) = subst (λ (l : List Run). length (filled l (take n ps)) ≤ suc (length rs)) (sym e) (a.most n)

  -- what is left of a hole of which a piece was taken
  module _ (at : ℕ) (h : Hole) (hs : List Hole) (apart : HolesApart (suc h.end) (edge rs) hs) (top : h.end ≤ edge rs) where
    left_apart : (t : Bool) → ltb at h.end ≡ t → at ≤ h.end → HolesApart at (edge rs) (cond t (hole at h.end ∷ hs) hs)
    left_apart true e l = (omega arith, ltb-true at h.end e, top, apart)
    left_apart false e l = apart_weaken at (suc h.end) (edge rs) hs (omega arith) apart

    left_rest : (t : Bool) → ltb at h.end ≡ t → at ≤ h.end → h.start ≤ at → Rest h.start (h ∷ hs) → Rest at (cond t (hole at h.end ∷ hs) hs)
    left_rest true e l s r x a b f = r x (omega arith) b (⊎_elim (λ w. f (inl (a, w.1))) (λ i. f (inr i)))
    left_rest false e l s r x a b f = r x (omega arith) b (⊎_elim (λ w. omega (arith, ltb-false at h.end e)) f)

  -- an offset below k is in no hole from k on
  no_hole_below : (x k : ℕ) (hs : List Hole) → HolesApart k (edge rs) hs → x < k → InHole hs x → ⊥
  no_hole_below x k [] a l i = i
  no_hole_below x k (h ∷ hs) a l (inl w) = omega arith
  no_hole_below x k (h ∷ hs) a l (inr i) = no_hole_below x (suc h.end) hs a.3 (omega arith) i

  before_hole : (at : ℕ) (h : Hole) (hs : List Hole) → HolesApart at (edge rs) (h ∷ hs) → Rest at (h ∷ hs) → (x : ℕ) → at ≤ x → x < h.start → Member rs x
  before_hole at h hs a r x l b = r x l (omega arith) (⊎_elim (λ w. omega arith) (no_hole_below x (suc h.end) hs a.3 (omega arith)))

  along : (ps : List Piece) (at : ℕ) (hs : List Hole) → at ≤ edge rs → HolesApart at (edge rs) hs → Rest at hs → goes m hs ps ≡ true → Along rs at ps
  unfolding filled
  along [] at [] l a r g = record { ends = up_end at rs c l (λ x p q. r x p q (λ i. i)); most = none; below = tt }
    where
      none : (n : ℕ) → length (filled (up_to at rs) (take n [])) ≤ suc (length rs)
      none zero = up_length at rs c
      none (suc n) = up_length at rs c
  along [] at (h ∷ hs) l a r g = absurd (false≢true g)
  along (p ∷ ps) at [] l a r g = absurd (false≢true g)
  along (p ∷ ps) at (h ∷ hs) l a r g =
      let b = (and_iff (fits m h.start h.end p) _).0 g in
      let f : Fits m h.start h.end p = fits_means m h.start h.end p b.0 in
      let begins : p.offset ≡ h.start = f.begins in
      let ends : h.start + p.length ≤ h.end = f.ends in
      let some : 0 < p.length = f.some in
      let stop = h.start + p.length in
      let same : p.offset + p.length ≡ stop = omega arith in
      let r2 : Rest h.start (h ∷ hs) = λ x u v n. r x (omega arith) v n in
      next at p ps (omega arith) (some, omega arith) (λ x u v. before_hole at h hs a r x u (omega arith))
      (rw same
      (along ps stop (after_done stop h.end hs) (omega arith)
      (left_apart stop h hs a.3 a.2 (ltb stop h.end) refl ends)
      (left_rest stop h hs a.3 a.2 (ltb stop h.end) refl ends (omega arith) r2) b.1))

-- from the start

apart_spaced : (k top : ℕ) (hs : List Hole) → HolesApart k top hs → Spaced k hs
apart_spaced k top [] a = tt
apart_spaced k top (h ∷ hs) a = (a.0, (a.1, apart_spaced h.end top hs (apart_weaken h.end (suc h.end) top hs (omega arith) a.3)))

pub holes_spaced : (rs : List Run) → Canonical rs → Spaced 0 (holes rs)
holes_spaced rs c = apart_spaced 0 (edge rs) (holes rs) (holes_apart rs c)

all_of : (m : ℕ) (rs : List Run) (ps : List Piece) → Canonical rs → GoodPlan m (holes rs) ps → Along rs 0 ps
all_of m rs ps c g = along m rs c ps 0 (holes rs) (omega arith) (holes_apart rs c) rest (means_goes m 0 (holes rs) ps (holes_spaced rs c) g)
  where
    held : (x : ℕ) (t : Bool) → contains rs x ≡ t → x < edge rs → (InHole (holes rs) x → ⊥) → Member rs x
    held x true e l f = contains_sound rs x e
    held x false e l f = absurd (f ((hole_iff rs x c).1 (l, λ n. false≢true (sym e ∙ contains_holds rs x n))))

    rest : (x : ℕ) → 0 ≤ x → x < edge rs → (InHole (holes rs) x → ⊥) → Member rs x
    rest x z l f = held x (contains rs x) refl l f

-- the pieces end at the edge or below, and none is empty
pub pieces_below : (m : ℕ) (rs : List Run) (ps : List Piece) → Canonical rs → GoodPlan m (holes rs) ps → Each (Below (edge rs)) ps
pieces_below m rs ps c g = (all_of m rs ps c g).below

pub good_plan_fills : GoodPlanFills
unfolding up_to
good_plan_fills m rs ps c few g =
    let a = all_of m rs ps c g in
    let e : filled rs ps ≡ whole (edge rs) = a.ends in
    record {
      room = λ n. le_trans (a.most n) (omega arith);
      no_hole = rw e (whole_holes (edge rs));
      same_edge = rw e (whole_edge (edge rs));
      one_run = e;
    }
