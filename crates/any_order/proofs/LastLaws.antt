-- The last timestamp of a list of recordings: which one it is, and that whether there is one does not depend on the order.
-- Assumes nothing.
use Prim.Native.Nat.{ℕ}
use mathlib.Core.Path.{◌≡◌, refl, sym, ap, ◌∙◌}
use mathlib.Core.Bool.{Bool, true, false, cond, ◌&&◌, ◌||◌}
use mathlib.Core.List.{List, [], ◌∷◌, ◌++◌}
use mathlib.Core.Logic.{◌⊎◌, inl, inr}
use native.Mathlib.Omega.{arith}
use native.Mathlib.Decide.{ℕ_discrete}
use borrow.Author.Tests.{eq-eqb, ne_eqb}
use Rattle.refusals.proofs.TestLaws.{or_iff}
use Rattle.any_order.specs.Order.{Packet, id_in, In, with_stamp, stamp_octets, stamps, any_stamp, last_stamp}

-- ---- one recording

stamps_own : (p : Packet) → stamps (id_in p) p ≡ with_stamp p
unfolding stamps
stamps_own p = rw (eq-eqb (id_in p) (id_in p) refl)

pub stamps_same : (i : ℕ) (p : Packet) → id_in p ≡ i → stamps i p ≡ with_stamp p
stamps_same i p e = ap (λ (j : ℕ). stamps j p) (sym e) ∙ stamps_own p

pub stamps_other : (i : ℕ) (p : Packet) → (id_in p ≡ i → ⊥) → stamps i p ≡ false
unfolding stamps
stamps_other i p n = ap (λ (b : Bool). b && with_stamp p) (ne_eqb (id_in p) i n)

-- where it has bit 12 clear or another Id
pub stamps_not : (i : ℕ) (p : Packet) → (id_in p ≡ i → with_stamp p ≡ false) → stamps i p ≡ false
stamps_not i p h = go (ℕ_discrete (id_in p) i)
  where
    go : Dec (id_in p ≡ i) → stamps i p ≡ false
    go (yes e) = stamps_same i p e ∙ h e
    go (no n) = stamps_other i p n

-- ---- whether there is one

any_in : (i : ℕ) (ps : List Packet) → any_stamp i ps ≡ true → (p : Packet) × In p ps × (stamps i p ≡ true)
unfolding any_stamp
any_in i [] e = absurd (let z : ◌≡◌ {A = ℕ} 0 1 = cc in omega arith)
any_in i (p ∷ ps) e = go (λ h. any_in i ps h) ((or_iff (stamps i p) (any_stamp i ps)).0 e)
  where
    go : (any_stamp i ps ≡ true → (q : Packet) × In q ps × (stamps i q ≡ true)) → (stamps i p ≡ true) ⊎ (any_stamp i ps ≡ true)
        → (q : Packet) × In q (p ∷ ps) × (stamps i q ≡ true)
    go f (inl h) = (p, inl refl, h)
    go f (inr h) = let r = f h in (r.0, inr r.1, r.2)

in_any : (i : ℕ) (ps : List Packet) (p : Packet) → In p ps → stamps i p ≡ true → any_stamp i ps ≡ true
unfolding any_stamp
in_any i [] p m e = absurd m
in_any i (q ∷ ps) p (inl m) e = (or_iff (stamps i q) (any_stamp i ps)).1 (inl (ap (stamps i) (sym m) ∙ e))
in_any i (q ∷ ps) p (inr m) e = (or_iff (stamps i q) (any_stamp i ps)).1 (inr (in_any i ps p m e))

-- lists with the same recordings
pub any_same : (i : ℕ) (ps qs : List Packet) → ((p : Packet) → In p ps → In p qs) → ((p : Packet) → In p qs → In p ps) → any_stamp i ps ≡ any_stamp i qs
any_same i ps qs f g = go (any_stamp i ps) (any_stamp i qs) refl refl
  where
    go : (a b : Bool) → any_stamp i ps ≡ a → any_stamp i qs ≡ b → a ≡ b
    go true b d e = let r = any_in i ps d in sym (in_any i qs r.0 (f r.0 r.1) r.2) ∙ e
    go false true d e = let r = any_in i qs e in sym d ∙ in_any i ps r.0 (g r.0 r.1) r.2
    go false false d e = refl

pub none_any : (i : ℕ) (ps : List Packet) → ((p : Packet) → In p ps → id_in p ≡ i → with_stamp p ≡ false) → any_stamp i ps ≡ false
unfolding any_stamp
none_any i [] h = refl
none_any i (p ∷ ps) h = rw (stamps_not i p (h p (inl refl)), none_any i ps (λ q m. h q (inr m)))

-- ---- which one

any_behind : (i : ℕ) (ps qs : List Packet) → any_stamp i qs ≡ true → any_stamp i (ps ++ qs) ≡ true
unfolding any_stamp
any_behind i [] qs e = e
any_behind i (p ∷ ps) qs e = (or_iff (stamps i p) (any_stamp i (ps ++ qs))).1 (inr (any_behind i ps qs e))

-- what stands before one does not matter
last_behind : (i : ℕ) (ps qs : List Packet) → any_stamp i qs ≡ true → last_stamp i (ps ++ qs) ≡ last_stamp i qs
unfolding last_stamp
last_behind i [] qs e = refl
last_behind i (p ∷ ps) qs e =
    ap (λ (b : Bool). cond b (last_stamp i (ps ++ qs)) (cond (stamps i p) (stamp_octets p) [])) (any_behind i ps qs e) ∙ last_behind i ps qs e

here : (i : ℕ) (p : Packet) (qs : List Packet) → id_in p ≡ i → with_stamp p ≡ true → any_stamp i (p ∷ qs) ≡ true
unfolding any_stamp
here i p qs e h = (or_iff (stamps i p) (any_stamp i qs)).1 (inl (stamps_same i p e ∙ h))

first_last : (i : ℕ) (p : Packet) (qs : List Packet) → id_in p ≡ i → with_stamp p ≡ true → any_stamp i qs ≡ false → last_stamp i (p ∷ qs) ≡ stamp_octets p
unfolding last_stamp
first_last i p qs e h n = rw (n, stamps_same i p e, h)

-- the last one: a recording with the Id and bit 12 set, after which no other has both
pub last_is : (i : ℕ) (ps : List Packet) (p : Packet) (qs : List Packet) → id_in p ≡ i → with_stamp p ≡ true
    → ((q : Packet) → In q qs → id_in q ≡ i → with_stamp q ≡ false) → last_stamp i (ps ++ (p ∷ qs)) ≡ stamp_octets p
last_is i ps p qs e h n = last_behind i ps (p ∷ qs) (here i p qs e h) ∙ first_last i p qs e h (none_any i qs n)

-- and none where there is none
pub last_none : (i : ℕ) (ps : List Packet) → any_stamp i ps ≡ false → last_stamp i ps ≡ []
unfolding any_stamp last_stamp
last_none i [] e = refl
last_none i (p ∷ ps) e = go (stamps i p) (any_stamp i ps) e
  where
    go : (a b : Bool) → a || b ≡ false → cond b (last_stamp i ps) (cond a (stamp_octets p) []) ≡ []
    go true b z = absurd (let y : ◌≡◌ {A = ℕ} 0 1 = cc in omega arith)
    go false true z = absurd (let y : ◌≡◌ {A = ℕ} 0 1 = cc in omega arith)
    go false false z = refl
