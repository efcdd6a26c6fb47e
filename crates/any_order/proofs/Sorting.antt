-- Every list of calls has a sorted order: by Id, then by offset.
-- Assumes nothing.
use Prim.Native.Nat.{ℕ, ◌≤◌, ◌<◌}
use mathlib.Core.Path.{◌≡◌, refl, sym, ap, ◌∙◌}
use mathlib.Core.Bool.{Bool, true, false}
use mathlib.Core.List.Permᴰ
use mathlib.Core.List.{List, [], ◌∷◌, Permᴰ}
use mathlib.Core.Logic.{◌⊎◌, inl, inr}
use native.Mathlib.Omega.{arith}
use native.Mathlib.Decide.{ℕ_discrete}
use lib.Dec.{eqb, ltb}
use borrow.Author.Tests.{eqb-true, eqb-false, ltb-true, ltb-false, leb-true, leb-false}
use Rattle.any_order.specs.Order.{Packet, Call, recordings, id_in, offset_in, In, Rising, Grouped, TransferByTransfer, earlier, place, sort, sort_calls}
use Rattle.table.proofs.TableLaws.{by_test}
use Rattle.any_order.proofs.FillLaws.{in_perm}

abbrev Before : Packet → Packet → Type 0
Before p q = (id_in p < id_in q) ⊎ ((id_in p ≡ id_in q) × (offset_in p ≤ offset_in q))

earlier_yes : (p q : Packet) → earlier p q ≡ true → Before p q
earlier_yes p q =
    by_test (λ (b : Bool). b ≡ true → Before p q) (ltb (id_in p) (id_in q)) _ _ (λ b e. inl (ltb-true _ _ b))
    (λ b. by_test (λ (c : Bool). c ≡ true → Before p q) (eqb (id_in p) (id_in q)) _ _ (λ c e. inr (eqb-true _ _ c, leb-true _ _ e))
    (λ c e. absurd (let z : ◌≡◌ {A = ℕ} 0 1 = cc in omega arith)))

earlier_no : (p q : Packet) → earlier p q ≡ false → Before q p
earlier_no p q =
    by_test (λ (b : Bool). b ≡ false → Before q p) (ltb (id_in p) (id_in q)) _ _
    (λ b e. absurd (let z : ◌≡◌ {A = ℕ} 0 1 = cc in omega arith))
    (λ b. by_test (λ (c : Bool). c ≡ false → Before q p) (eqb (id_in p) (id_in q)) _ _
    (λ c e. inr (sym (eqb-true _ _ c), omega (arith, leb-false (offset_in p) (offset_in q) e)))
    (λ c e. let n : id_in p ≡ id_in q → ⊥ = eqb-false _ _ c in inl (omega (arith, ltb-false (id_in p) (id_in q) b))))

before_trans : (p q x : Packet) → Before p q → Before q x → Before p x
before_trans p q x (inl a) (inl b) = inl (omega arith)
before_trans p q x (inl a) (inr b) = inl (omega arith)
before_trans p q x (inr a) (inl b) = inl (omega arith)
before_trans p q x (inr a) (inr b) = inr (omega arith)

-- ---- a permutation

place_perm : (p : Packet) (ps : List Packet) → Permᴰ (place p ps) (p ∷ ps)
unfolding place
place_perm p [] = Permᴰ.refl _
place_perm p (q ∷ ps) =
    by_test (λ (l : List Packet). Permᴰ l (p ∷ q ∷ ps)) (earlier p q) _ _ (λ b. Permᴰ.refl _)
    (λ b. Permᴰ.trans (Permᴰ.cons refl (place_perm p ps)) (Permᴰ.swap refl refl))

sort_perm : (ps : List Packet) → Permᴰ (sort ps) ps
unfolding sort
sort_perm [] = Permᴰ.nil
sort_perm (p ∷ ps) = Permᴰ.trans (place_perm p (sort ps)) (Permᴰ.cons refl (sort_perm ps))

-- ---- in order

abbrev Ordered : List Packet → Type 0
Ordered [] = Unit
Ordered (p ∷ ps) = ((q : Packet) → In q ps → Before p q) × Ordered ps

place_ordered : (p : Packet) (ps : List Packet) → Ordered ps → Ordered (place p ps)
unfolding place
place_ordered p [] h = ((λ q m. absurd m), tt)
place_ordered p (q ∷ ps) h =
    by_test Ordered (earlier p q) _ _ (λ b. ((λ x m. first (earlier_yes p q b) x m), h))
    (λ b. ((λ x m. later (earlier_no p q b) x (in_perm x (place_perm p ps) m)), place_ordered p ps h.1))
  where
    first : Before p q → (x : Packet) → In x (q ∷ ps) → Before p x
    first b x (inl e) = rw e b
    first b x (inr m) = before_trans p q x b (h.0 x m)

    later : Before q p → (x : Packet) → In x (p ∷ ps) → Before q x
    later b x (inl e) = rw e b
    later b x (inr m) = h.0 x m

sort_ordered : (ps : List Packet) → Ordered (sort ps)
unfolding sort
sort_ordered [] = tt
sort_ordered (p ∷ ps) = place_ordered p (sort ps) (sort_ordered ps)

before_rises : (p q : Packet) → Before p q → id_in q ≡ id_in p → offset_in p ≤ offset_in q
before_rises p q (inl b) e = absurd (omega arith)
before_rises p q (inr b) e = b.1

ordered_rising : (ps : List Packet) → Ordered ps → Rising ps
ordered_rising [] h = tt
ordered_rising (p ∷ ps) h = ((λ q m e. before_rises p q (h.0 q m) e), ordered_rising ps h.1)

before_ids : (p q : Packet) → Before p q → id_in p ≤ id_in q
before_ids p q (inl b) = omega arith
before_ids p q (inr b) = omega arith

ordered_grouped : (ps : List Packet) → Ordered ps → Grouped ps
ordered_grouped [] h = tt
ordered_grouped (p ∷ []) h = tt
ordered_grouped (p ∷ q ∷ ps) h = (go (ℕ_discrete (id_in q) (id_in p)), ordered_grouped (q ∷ ps) h.1)
  where
    away : (id_in q ≡ id_in p → ⊥) → (x : Packet) → In x (q ∷ ps) → id_in x ≡ id_in p → ⊥
    away n x (inl e) k = n (ap id_in (sym e) ∙ k)
    away n x (inr m) k = n (omega (arith, before_ids p q (h.0 q (inl refl)), before_ids q x (h.1.0 x m)))

    go : Dec (id_in q ≡ id_in p) → (id_in q ≡ id_in p) ⊎ ((x : Packet) → In x (q ∷ ps) → id_in x ≡ id_in p → ⊥)
    go (yes e) = inl e
    go (no n) = inr (away n)

pub sort_sorts : (cs : List Call) → TransferByTransfer cs (sort_calls cs)
unfolding sort_calls
sort_sorts cs =
    let ps : List Packet = recordings cs in
    record {
      sorted = record { last = sort ps; is = refl; all = sort_perm ps; rising = ordered_rising (sort ps) (sort_ordered ps) };
      grouped = ordered_grouped (sort ps) (sort_ordered ps);
    }
