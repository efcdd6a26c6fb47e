-- The five conditions, piece by piece: a list is a good plan exactly when its first piece is the lowest of the first hole, and
-- the others are a good plan for what is left. So a test that goes once through both lists decides them.
-- Assumes nothing.
use Prim.Native.Nat.{ℕ, ◌+◌, ◌-◌, ◌≤◌, ◌<◌}
use mathlib.Core.Path.{◌≡◌, refl, sym}
use mathlib.Core.Bool.{Bool, true, false, cond, ◌&&◌, false≢true}
use mathlib.Core.List.{List, [], ◌∷◌}
use mathlib.Core.Logic.{inl, inr}
use native.Mathlib.Omega.{arith}
use lib.Dec.{ltb, leb, eqb}
use borrow.Author.Tests.{ltb-true, ltb-false, leb-true, leb-false, eqb-true, lt-ltb, le-leb, lt-leb, eq-eqb}
use Rattle.runs.specs.declared.Hole.{Hole}
use Rattle.refusals.proofs.TestLaws.{and_iff}
use Rattle.plan_check.specs.GoodPlan.{Each, Some, InPiece, InHole, LiesIn, GoodPlan}
use Rattle.plan_check.specs.Checking.{fits}
use Rattle.plan.specs.Pieces.{piece}
use Rattle.plan.specs.declared.Piece.{Piece}
use Rattle.plan.proofs.PieceLaws.{hole}
use Rattle.plan.proofs.CursorLaws.{after_done}

-- ---- each and some

pub each_map : {A : Type 0} (P Q : A → Type 0) (xs : List A) → ((x : A) → P x → Q x) → Each P xs → Each Q xs
each_map P Q [] f e = tt
each_map P Q (x ∷ xs) f e = (f x e.0, each_map P Q xs f e.1)

pub each_both : {A : Type 0} (P Q : A → Type 0) (xs : List A) → Each P xs → Each Q xs → Each (λ x. P x × Q x) xs
each_both P Q [] e f = tt
each_both P Q (x ∷ xs) e f = ((e.0, f.0), each_both P Q xs e.1 f.1)

-- what an element tells that is both
some_each : {A : Type 0} (P Q : A → Type 0) (C : Type 0) (xs : List A) → ((x : A) → P x → Q x → C) → Some P xs → Each Q xs → C
some_each P Q C [] f s e = absurd s
some_each P Q C (x ∷ xs) f (inl p) e = f x p e.0
some_each P Q C (x ∷ xs) f (inr s) e = some_each P Q C xs f s e.1

-- ---- hole lists as a reader accepts them: none is empty, and they come one after the other, the first at k or above

abbrev pub Spaced : ℕ → List Hole → Type 0
Spaced k [] = Unit
Spaced k (h ∷ hs) = (k ≤ h.start) × ((h.start < h.end) × Spaced h.end hs)

lower : (j k : ℕ) (hs : List Hole) → j ≤ k → Spaced k hs → Spaced j hs
lower j k [] l s = tt
lower j k (h ∷ hs) l s = (omega (arith, s.0), s.1)

starts_above : (k : ℕ) (hs : List Hole) → Spaced k hs → Each (λ h. k ≤ h.start) hs
starts_above k [] s = tt
starts_above k (h ∷ hs) s = (s.0, starts_above k hs (lower k h.end hs (omega (arith, s.0, s.1.0)) s.1.1))

lies_above : (k : ℕ) (hs : List Hole) (p : Piece) → Spaced k hs → Some (LiesIn p) hs → k ≤ p.offset
lies_above k hs p s i = some_each (LiesIn p) (λ h. k ≤ h.start) (k ≤ p.offset) hs (λ h l a. omega (arith, l.0)) i (starts_above k hs s)

-- ---- the lowest piece of a hole, and what is left after it

pub record Fits (m at end : ℕ) (p : Piece) : Type 0 where
  pub begins : p.offset ≡ at
  pub some : 0 < p.length
  pub short : p.length ≤ m
  pub ends : at + p.length ≤ end

pub fits_means : (m at end : ℕ) (p : Piece) → fits m at end p ≡ true → Fits m at end p
unfolding fits
fits_means m at end p e =
    let a = (and_iff (eqb p.offset at) _).0 e in
    let b = (and_iff (ltb 0 p.length) _).0 a.1 in
    let d = (and_iff (leb p.length m) _).0 b.1 in
    record { begins = eqb-true _ _ a.0; some = ltb-true _ _ b.0; short = leb-true _ _ d.0; ends = leb-true _ _ d.1 }

pub fits_ends : (m at end offset length : ℕ) → fits m at end (piece offset length) ≡ true → at + length ≤ end
fits_ends m at end offset length e = (fits_means m at end (piece offset length) e).ends

pub means_fits : (m at end : ℕ) (p : Piece) → Fits m at end p → fits m at end p ≡ true
unfolding fits
means_fits m at end p f =
    rw (eq-eqb p.offset at f.begins, lt-ltb 0 p.length f.some, le-leb p.length m f.short) (le-leb (at + p.length) end f.ends)

-- as the code tests the end, with no sum that could run over
pub ends_shifted : (at len end : ℕ) → at ≤ end → (t : Bool) → leb len (end - at) ≡ t → t ≡ leb (at + len) end
ends_shifted at len end h true e = sym (le-leb (at + len) end (omega (arith, leb-true len (end - at) e)))
ends_shifted at len end h false e = sym (lt-leb (at + len) end (omega (arith, leb-false len (end - at) e)))

module _ (at end : ℕ) (hs : List Hole) (spaced : Spaced end hs) (l : at ≤ end) where
  abbrev Left : Bool → List Hole
  Left t = cond t (hole at end ∷ hs) hs

  left_spaced : (t : Bool) → ltb at end ≡ t → Spaced at (Left t)
  left_spaced true e = (omega arith, (ltb-true at end e, spaced))
  left_spaced false e = lower at end hs l spaced

pub after_spaced : (at end : ℕ) (hs : List Hole) → Spaced end hs → at ≤ end → Spaced at (after_done at end hs)
after_spaced at end hs s l = left_spaced at end hs s l (ltb at end) refl

module _ (m : ℕ) (h : Hole) (hs : List Hole) (p : Piece) (ps : List Piece) (some : h.start < h.end) (spaced : Spaced h.end hs) where
  abbrev at : ℕ
  at = h.start + p.length

  abbrev Rest : Bool → List Hole
  Rest t = cond t (hole at h.end ∷ hs) hs

  -- ---- the first piece goes before a good plan for what is left

  module _ (f : Fits m h.start h.end p) where
    rest_spaced : (t : Bool) → ltb at h.end ≡ t → Spaced at (Rest t)
    rest_spaced t e = left_spaced at h.end hs spaced f.ends t e

    above : (t : Bool) → ltb at h.end ≡ t → (q : Piece) → Some (LiesIn q) (Rest t) → at ≤ q.offset
    above t e q s = lies_above at (Rest t) q (rest_spaced t e) s

    back : (t : Bool) (q : Piece) → Some (LiesIn q) (Rest t) → Some (LiesIn q) (h ∷ hs)
    back true q (inl l) = inl (omega (arith, l.0), l.1)
    back true q (inr s) = inr s
    back false q s = inr s

    covered : (t : Bool) → ltb at h.end ≡ t → GoodPlan m (Rest t) ps → (x : ℕ) → InHole x h → (u : Bool) → ltb x at ≡ u → Some (InPiece x) (p ∷ ps)
    covered t e g x i true b = inl (omega (arith, f.begins, i.0), omega (arith, f.begins, ltb-true x at b))
    covered true e g x i false b = inr (g.cover.0 x (ltb-false x at b, i.1))
    covered false e g x i false b = absurd (omega (arith, ltb-false x at b, ltb-false at h.end e, i.1))

    others : (t : Bool) → GoodPlan m (Rest t) ps → Each (λ k. (x : ℕ) → InHole x k → Some (InPiece x) ps) hs
    others true g = g.cover.1
    others false g = g.cover

    good_by : (t : Bool) → ltb at h.end ≡ t → GoodPlan m (Rest t) ps → GoodPlan m (h ∷ hs) (p ∷ ps)
    good_by t e g =
        record {
          rise = (each_map (λ q. Some (LiesIn q) (Rest t)) (λ q. p.offset < q.offset) ps (λ q s. omega (arith, above t e q s, f.begins, f.some)) g.in_holes, g.rise);
          sized = ((f.some, f.short), g.sized);
          in_holes = (inl (omega (arith, f.begins), omega (arith, f.begins, f.ends)), each_map (λ q. Some (LiesIn q) (Rest t)) (λ q. Some (LiesIn q) (h ∷ hs)) ps (back t) g.in_holes);
          no_overlap = (each_map (λ q. Some (LiesIn q) (Rest t)) (λ q. (x : ℕ) → InPiece x p → InPiece x q → ⊥) ps (λ q s x a b. omega (arith, above t e q s, f.begins, a.1, b.0)) g.in_holes, g.no_overlap);
          cover = (λ x i. covered t e g x i (ltb x at) refl, each_map (λ k. (x : ℕ) → InHole x k → Some (InPiece x) ps) (λ k. (x : ℕ) → InHole x k → Some (InPiece x) (p ∷ ps)) hs (λ k c x i. inr (c x i)) (others t g));
        }

    pub good_next : GoodPlan m (after_done at h.end hs) ps → GoodPlan m (h ∷ hs) (p ∷ ps)
    good_next g = good_by (ltb at h.end) refl g

  -- ---- the first piece of a good plan, and the others

  module _ (g : GoodPlan m (h ∷ hs) (p ∷ ps)) where
    not_below : h.start ≤ p.offset
    not_below = lies_above h.start (h ∷ hs) p (omega arith, (some, spaced)) g.in_holes.0

    begins_by : Some (InPiece h.start) (p ∷ ps) → p.offset ≡ h.start
    begins_by (inl i) = omega (arith, i.0, not_below)
    begins_by (inr s) =
        absurd (some_each (InPiece h.start) (λ q. p.offset < q.offset) ⊥ ps (λ q i r. omega (arith, i.0, not_below)) s g.rise.0)

    begins : p.offset ≡ h.start
    begins = begins_by (g.cover.0 h.start (omega arith, some))

    ends_by : Some (LiesIn p) (h ∷ hs) → h.start + p.length ≤ h.end
    ends_by (inl l) = omega (arith, l.1, begins)
    ends_by (inr s) = absurd (omega (arith, lies_above h.end hs p spaced s, begins))

    pub good_first : Fits m h.start h.end p
    good_first = record { begins = begins; some = g.sized.0.0; short = g.sized.0.1; ends = ends_by g.in_holes.0 }

    -- a piece after the first lies in what is left
    forth : (t : Bool) → ltb at h.end ≡ t → (q : Piece) → Some (LiesIn q) (h ∷ hs) → (0 < q.length) × (q.length ≤ m) → at ≤ q.offset → Some (LiesIn q) (Rest t)
    forth true e q (inl l) z a = inl (a, l.1)
    forth true e q (inr s) z a = inr s
    forth false e q (inl l) z a = absurd (omega (arith, ltb-false at h.end e, l.1, z.0))
    forth false e q (inr s) z a = s

    after : (q : Piece) → 0 < q.length → p.offset < q.offset → ((x : ℕ) → InPiece x p → InPiece x q → ⊥) → (t : Bool) → leb at q.offset ≡ t → at ≤ q.offset
    after q z r d true e = leb-true at q.offset e
    after q z r d false e = absurd (d q.offset (omega arith, omega (arith, begins, leb-false at q.offset e)) (omega arith, omega arith))

    -- an octet that the first piece does not have
    drop_first : (x : ℕ) → at ≤ x → Some (InPiece x) (p ∷ ps) → Some (InPiece x) ps
    drop_first x a (inl i) = absurd (omega (arith, i.1, begins))
    drop_first x a (inr s) = s

    others_covered : Each (λ k. (x : ℕ) → InHole x k → Some (InPiece x) ps) hs
    others_covered =
        each_map (λ k. ((x : ℕ) → InHole x k → Some (InPiece x) (p ∷ ps)) × (h.end ≤ k.start)) (λ k. (x : ℕ) → InHole x k → Some (InPiece x) ps) hs
        (λ k c x i. drop_first x (omega (arith, c.1, i.0, good_first.ends)) (c.0 x i))
        (each_both (λ k. (x : ℕ) → InHole x k → Some (InPiece x) (p ∷ ps)) (λ k. h.end ≤ k.start) hs g.cover.1 (starts_above h.end hs spaced))

    rest_covered : (t : Bool) → Each (λ k. (x : ℕ) → InHole x k → Some (InPiece x) ps) (Rest t)
    rest_covered true = (λ x i. drop_first x i.0 (g.cover.0 x (omega (arith, i.0), i.1)), others_covered)
    rest_covered false = others_covered

    abbrev Later : Piece → Type 0
    Later q = (Some (LiesIn q) (h ∷ hs) × ((0 < q.length) × (q.length ≤ m))) × ((p.offset < q.offset) × ((x : ℕ) → InPiece x p → InPiece x q → ⊥))

    later : Each Later ps
    later =
        each_both (λ q. Some (LiesIn q) (h ∷ hs) × ((0 < q.length) × (q.length ≤ m))) (λ q. (p.offset < q.offset) × ((x : ℕ) → InPiece x p → InPiece x q → ⊥)) ps
        (each_both (λ q. Some (LiesIn q) (h ∷ hs)) (λ q. (0 < q.length) × (q.length ≤ m)) ps g.in_holes.1 g.sized.1)
        (each_both (λ q. p.offset < q.offset) (λ q. (x : ℕ) → InPiece x p → InPiece x q → ⊥) ps g.rise.0 g.no_overlap.0)

    rest_by : (t : Bool) → ltb at h.end ≡ t → GoodPlan m (Rest t) ps
    rest_by t e =
        record {
          rise = g.rise.1;
          sized = g.sized.1;
          in_holes = each_map Later (λ q. Some (LiesIn q) (Rest t)) ps (λ q k. forth t e q k.0.0 k.0.1 (after q k.0.1.0 k.1.0 k.1.1 (leb at q.offset) refl)) later;
          no_overlap = g.no_overlap.1;
          cover = rest_covered t;
        }

    pub good_rest : GoodPlan m (after_done at h.end hs) ps
    good_rest = rest_by (ltb at h.end) refl

-- ---- the test that goes once through both lists

abbrev pub goes : ℕ → List Hole → List Piece → Bool
goes m [] [] = true
goes m (h ∷ hs) [] = false
goes m [] (p ∷ ps) = false
goes m (h ∷ hs) (p ∷ ps) = fits m h.start h.end p && goes m (after_done (h.start + p.length) h.end hs) ps

pub goes_means : (m k : ℕ) (hs : List Hole) (ps : List Piece) → Spaced k hs → goes m hs ps ≡ true → GoodPlan m hs ps
goes_means m k [] [] s e = record { rise = tt; sized = tt; in_holes = tt; no_overlap = tt; cover = tt }
goes_means m k (h ∷ hs) [] s e = absurd (false≢true e)
goes_means m k [] (p ∷ ps) s e = absurd (false≢true e)
goes_means m k (h ∷ hs) (p ∷ ps) s e =
    let a = (and_iff (fits m h.start h.end p) _).0 e in
    let f = fits_means m h.start h.end p a.0 in
    let at = h.start + p.length in
    good_next m h hs p ps s.1.0 s.1.1 f (goes_means m at (after_done at h.end hs) ps (after_spaced at h.end hs s.1.1 f.ends) a.1)

pub means_goes : (m k : ℕ) (hs : List Hole) (ps : List Piece) → Spaced k hs → GoodPlan m hs ps → goes m hs ps ≡ true
means_goes m k [] [] s g = refl
means_goes m k (h ∷ hs) [] s g = absurd (g.cover.0 h.start (omega arith, s.1.0))
means_goes m k [] (p ∷ ps) s g = absurd g.in_holes.0
means_goes m k (h ∷ hs) (p ∷ ps) s g =
    let f = good_first m h hs p ps s.1.0 s.1.1 g in
    let at = h.start + p.length in
    rw (means_fits m h.start h.end p f) (means_goes m at (after_done at h.end hs) ps (after_spaced at h.end hs s.1.1 f.ends) (good_rest m h hs p ps s.1.0 s.1.1 g))
