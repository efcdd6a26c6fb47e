-- R3.6, R3.7: the hole lists that a reader accepts, sentence by sentence: they are the lists that `list_well` accepts. Assumes nothing.
use Prim.Native.Nat.{ℕ, zero, suc, ◌-◌, ◌<◌, ◌≤◌}
use mathlib.Core.Path.{◌≡◌, refl, sym, ◌∙◌}
use mathlib.Core.Bool.{Bool, true, false, not, ◌&&◌}
use mathlib.Core.List.{List, [], ◌∷◌}
use native.Mathlib.Omega.{arith}
use lib.ListN.{length, get_or}
use mathlib.Core.Logic.{◌⊎◌, inl, inr, ⊎_elim, ◌↔◌}
use lib.Dec.{ltb, leb, eqb}
use borrow.Author.Tests.{ltb-true, leb-true, eqb-true, eqb-false, lt-ltb, le-leb, eq-eqb, ne_eqb}
use Rattle.refusals.proofs.TestLaws.{not_iff, or_iff}
use Rattle.hole_list.specs.HoleList.{holes_after, starts_well, holes_well, points_to_last, list_well}
use Rattle.runs.specs.declared.Hole.{Hole}

-- the hole with this index; past the list's end, one from 0 to 0
abbrev pub nth : List Hole → ℕ → Hole
nth hs i = get_or hs i (record { start = 0; end = 0 })

-- each hole of the list
abbrev Each : (Hole → Type 0) → List Hole → Type 0
Each P hs = (i : ℕ) → i < length hs → P (nth hs i)

-- R3.6: what a list has to be; partial is bit 14
pub record HoleListAccepted (partial : Bool) (progress response : ℕ) (hs : List Hole) : Type 0 where
  -- Progress is at most In-Response-To
  pub ordered : progress ≤ response
  -- no hole is empty
  pub less : (i : ℕ) → i < length hs → (nth hs i).start < (nth hs i).end
  -- each starts above the end before it
  pub apart : (i : ℕ) → suc i < length hs → (nth hs i).end < (nth hs (suc i)).start
  -- all lie between Progress and In-Response-To
  pub low : (i : ℕ) → i < length hs → progress ≤ (nth hs i).start
  pub high : (i : ℕ) → i < length hs → (nth hs i).end ≤ response
  -- a complete list starts at Progress
  pub first : partial ≡ false → 0 < length hs → progress ≡ (nth hs 0).start
  -- and where it is empty, Progress is In-Response-To
  pub none : partial ≡ false → length hs ≡ 0 → progress ≡ response

-- the holes after one that ends at `last`
record Chain (last response : ℕ) (hs : List Hole) : Type 0 where
  pub above : 0 < length hs → last < (nth hs 0).start
  pub less : (i : ℕ) → i < length hs → (nth hs i).start < (nth hs i).end
  pub apart : (i : ℕ) → suc i < length hs → (nth hs i).end < (nth hs (suc i)).start
  pub high : (i : ℕ) → i < length hs → (nth hs i).end ≤ response

both : (a b : Bool) → a && b ≡ true → (a ≡ true) × (b ≡ true)
both true b e = (refl, e)
both false b e = absurd (let z : ◌≡◌ {A = ℕ} 0 1 = cc in omega arith)

each_cons : (P : Hole → Type 0) (h : Hole) (hs : List Hole) → P h → Each P hs → Each P (h ∷ hs)
each_cons P h hs p r zero l = p
each_cons P h hs p r (suc i) l = r i (omega arith)

apart_cons : (h : Hole) (hs : List Hole) (top : ℕ) → Chain h.end top hs
    → (i : ℕ) → suc i < length (h ∷ hs) → (nth (h ∷ hs) i).end < (nth (h ∷ hs) (suc i)).start
apart_cons h hs top r zero l = r.above (omega arith)
apart_cons h hs top r (suc i) l = r.apart i (omega arith)

-- none of them starts at or below `last`
all_above : (last top : ℕ) (hs : List Hole) → Chain last top hs → (i : ℕ) → i < length hs → last < (nth hs i).start
all_above last top hs r zero l = r.above l
all_above last top hs r (suc i) l = omega (arith, all_above last top hs r i (omega arith), r.less i (omega arith), r.apart i l)

after_chain : (last top : ℕ) (hs : List Hole) → holes_after last top hs ≡ true → Chain last top hs
after_chain last top [] e =
    record { above = λ l. absurd (omega arith); less = λ i l. absurd (omega arith); apart = λ i l. absurd (omega arith); high = λ i l. absurd (omega arith) }
after_chain last top (h ∷ hs) e =
    let a = both (ltb last h.start) _ e in
    let b = both (ltb h.start h.end) _ a.1 in
    let t = both (leb h.end top) _ b.1 in
    let r = after_chain h.end top hs t.1 in
    record {
      above = λ l. ltb-true _ _ a.0;
      less = each_cons (λ x. x.start < x.end) h hs (ltb-true _ _ b.0) r.less;
      apart = apart_cons h hs top r;
      high = each_cons (λ x. x.end ≤ top) h hs (leb-true _ _ t.0) r.high;
    }

chain_after : (last top : ℕ) (hs : List Hole) → Chain last top hs → holes_after last top hs ≡ true
chain_after last top [] r = refl
chain_after last top (h ∷ hs) r =
    rw (
      lt-ltb last h.start (r.above (omega arith)),
      lt-ltb h.start h.end (r.less 0 (omega arith)),
      le-leb h.end top (r.high 0 (omega arith)),
    )
    (chain_after h.end top hs
    (record {
      above = λ l. r.apart 0 (omega arith);
      less = λ i l. r.less (suc i) (omega arith);
      apart = λ i l. r.apart (suc i) (omega arith);
      high = λ i l. r.high (suc i) (omega arith);
    }))

starts : (partial : Bool) (progress first : ℕ) → starts_well partial progress first ≡ true → (progress ≤ first) × (partial ≡ false → progress ≡ first)
unfolding starts_well
starts true progress first e = (leb-true progress first e, λ z. absurd (let o : ◌≡◌ {A = ℕ} 0 1 = cc in omega arith))
starts false progress first e = let q = eqb-true progress first e in (omega arith, λ z. q)

pub starts_back : (partial : Bool) (progress first : ℕ) → progress ≤ first → (partial ≡ false → progress ≡ first) → starts_well partial progress first ≡ true
unfolding starts_well
starts_back true progress first h q = le-leb progress first h
starts_back false progress first h q = eq-eqb progress first (q refl)

pub holes_well_means : (partial : Bool) (progress response : ℕ) (hs : List Hole)
    → holes_well partial progress response hs ≡ true → HoleListAccepted partial progress response hs
unfolding holes_well
holes_well_means partial progress response [] e =
    let s = starts partial progress response e in
    record {
      ordered = s.0;
      less = λ i l. absurd (omega arith);
      apart = λ i l. absurd (omega arith);
      low = λ i l. absurd (omega arith);
      high = λ i l. absurd (omega arith);
      first = λ z l. absurd (omega arith);
      none = λ z l. s.1 z;
    }
holes_well_means partial progress response (h ∷ hs) e =
    let a = both (starts_well partial progress h.start) _ e in
    let b = both (ltb h.start h.end) _ a.1 in
    let t = both (leb h.end response) _ b.1 in
    let r = after_chain h.end response hs t.1 in
    let s = starts partial progress h.start a.0 in
    let l : h.start < h.end = ltb-true _ _ b.0 in
    let u : h.end ≤ response = leb-true _ _ t.0 in
    record {
      ordered = omega arith;
      less = each_cons (λ x. x.start < x.end) h hs l r.less;
      apart = apart_cons h hs response r;
      low = each_cons (λ x. progress ≤ x.start) h hs s.0 (λ i k. omega (arith, all_above h.end response hs r i k));
      high = each_cons (λ x. x.end ≤ response) h hs u r.high;
      first = λ z k. s.1 z;
      none = λ z k. absurd (omega arith);
    }

pub means_holes_well : (partial : Bool) (progress response : ℕ) (hs : List Hole)
    → HoleListAccepted partial progress response hs → holes_well partial progress response hs ≡ true
unfolding holes_well
means_holes_well partial progress response [] a = starts_back partial progress response a.ordered (λ z. a.none z refl)
means_holes_well partial progress response (h ∷ hs) a =
    rw (
      starts_back partial progress h.start (a.low 0 (omega arith)) (λ z. a.first z (omega arith)),
      lt-ltb h.start h.end (a.less 0 (omega arith)),
      le-leb h.end response (a.high 0 (omega arith)),
    )
    (chain_after h.end response hs
    (record {
      above = λ l. a.apart 0 (omega arith);
      less = λ i l. a.less (suc i) (omega arith);
      apart = λ i l. a.apart (suc i) (omega arith);
      high = λ i l. a.high (suc i) (omega arith);
    }))

-- ---- the last STATUS

-- R3.7: In-Response-To names the last octet
pub record LastAccepted (partial unasked : Bool) (count progress response : ℕ) : Type 0 where
  pub whole : partial ≡ false
  pub unasked_told_lem : unasked ≡ true
  pub no_holes : count ≡ 0
  pub last : suc response ≡ progress

-- where Progress is not 0, its difference with 1 says it too
pub before_same : (progress top : ℕ) → (progress ≡ 0 → ⊥) → eqb (progress - 1) top ≡ eqb (suc top) progress
before_same zero top h = absurd (h refl)
before_same (suc n) top h = let p : suc n - 1 ≡ n = omega arith in rw p (go (eqb n top) refl)
  where
    go : (b : Bool) → eqb n top ≡ b → eqb n top ≡ eqb (suc top) (suc n)
    go true e = e ∙ sym (eq-eqb (suc top) (suc n) (omega (arith, eqb-true n top e)))
    go false e = e ∙ sym (ne_eqb (suc top) (suc n) (λ z. eqb-false n top e (omega arith)))

pub last_means : (partial unasked : Bool) (count progress response : ℕ)
    → points_to_last partial unasked count progress response ≡ true → LastAccepted partial unasked count progress response
unfolding points_to_last
last_means partial unasked count progress response e =
    let a = both (not partial) _ e in
    let b = both unasked _ a.1 in
    let t = both (eqb count 0) _ b.1 in
    record {
      whole = (not_iff partial).0 a.0;
      unasked_told_lem = b.0;
      no_holes = eqb-true count 0 t.0;
      last = eqb-true (suc response) progress t.1;
    }

pub means_last : (partial unasked : Bool) (count progress response : ℕ)
    → LastAccepted partial unasked count progress response → points_to_last partial unasked count progress response ≡ true
unfolding points_to_last
means_last partial unasked count progress response a =
    rw (a.whole, a.unasked_told_lem, eq-eqb count 0 a.no_holes, eq-eqb (suc response) progress a.last)

-- ---- by either rule

abbrev pub ListAccepted : Bool → Bool → ℕ → ℕ → List Hole → Type 0
ListAccepted partial unasked progress response hs =
    LastAccepted partial unasked (length hs) progress response ⊎ HoleListAccepted partial progress response hs

pub list_well_iff : (partial unasked : Bool) (progress response : ℕ) (hs : List Hole)
    → (list_well partial unasked progress response hs ≡ true) ↔ ListAccepted partial unasked progress response hs
unfolding list_well
list_well_iff partial unasked progress response hs = (
  (λ e. ⊎_elim (λ p. inl (last_means _ _ _ _ _ p)) (λ p. inr (holes_well_means _ _ _ _ p)) ((or_iff _ _).0 e)),
  (λ a. (or_iff _ _).1 (⊎_elim (λ p. inl (means_last _ _ _ _ _ p)) (λ p. inr (means_holes_well _ _ _ _ p)) a)),
)
