-- The sum of the runs' lengths is the number of members, and the length of the transfer exactly when it is complete. Assumes nothing.
use Prim.Native.Nat.{ℕ, zero, suc, ◌+◌, ◌-◌, ◌≤◌, ◌<◌, min}
use mathlib.Core.Path.{◌≡◌, refl, sym, ap, ◌∙◌}
use mathlib.Core.Bool.{Bool, true, false, cond}
use mathlib.Core.List.{List, [], ◌∷◌}
use mathlib.Core.Logic.{inl, inr, ⊎_elim, ◌↔◌}
use native.Mathlib.Omega.{arith}
use lib.ListN.{length, take}
use Rattle.runs.specs.Runs.{Run, nth_run, Within, Member, contains, CanonicalFrom, Canonical, StopsTo}
use Rattle.runs.specs.Holes.{complete}
use Rattle.runs.specs.Received.{received, members_below}
use Rattle.runs.proofs.CompareLaws.{le_or_lt}
use Rattle.runs.proofs.CanonicalLaws.{member_from, contains_iff}
use Rattle.runs.proofs.CompleteLaws.{complete_iff}

-- ---- counted one by one

-- by whether offset n is a member
members_cases : (P : ℕ → Type 0) (n : ℕ) (rs : List Run)
    → (Member rs n → P (suc (members_below n rs))) → ((Member rs n → ⊥) → P (members_below n rs)) → P (members_below (suc n) rs)
unfolding members_below
members_cases P n rs f g = go (contains rs n) (contains_iff rs n)
  where
    go : (b : Bool) → (b ≡ true) ↔ Member rs n → P (cond b (suc (members_below n rs)) (members_below n rs))
    go true h = f (h.0 refl)
    go false h = g (λ m. let z : false ≡ true = h.1 m in absurd (let y : ◌≡◌ {A = ℕ} 0 1 = cc in omega arith))

members_most : (n : ℕ) (rs : List Run) → members_below n rs ≤ n
unfolding members_below
members_most zero rs = omega arith
members_most (suc n) rs = members_cases (λ k. k ≤ suc n) n rs (λ m. omega (arith, members_most n rs)) (λ m. omega (arith, members_most n rs))

-- all of them exactly when each is a member
members_all : (n : ℕ) (rs : List Run) → members_below n rs ≡ n → (x : ℕ) → x < n → Member rs x
unfolding members_below
members_all zero rs e x l = absurd (omega arith)
members_all (suc n) rs e x l =
    members_cases (λ k. k ≡ suc n → Member rs x) n rs
    (λ m z. ⊎_elim (λ (p : n ≤ x). let same : x ≡ n = omega arith in rw same m) (λ (p : x < n). members_all n rs (omega arith) x p) (le_or_lt n x))
    (λ m z. absurd (omega (arith, members_most n rs))) e

all_members : (n : ℕ) (rs : List Run) → ((x : ℕ) → x < n → Member rs x) → members_below n rs ≡ n
unfolding members_below
all_members zero rs f = refl
all_members (suc n) rs f =
    members_cases (λ k. k ≡ suc n) n rs (λ m. ap suc (all_members n rs (λ x l. f x (omega arith)))) (λ m. absurd (m (f n (omega arith))))

-- ---- run by run

members_nil : (n : ℕ) → members_below n [] ≡ 0
unfolding members_below
members_nil zero = refl
members_nil (suc n) = members_cases (λ k. k ≡ 0) n [] (λ m. absurd m) (λ m. members_nil n)

-- the first run has those of its offsets that are below n, and the other runs have none of them
members_cons : (k n : ℕ) (r : Run) (rs : List Run) → CanonicalFrom k (r ∷ rs) → members_below n (r ∷ rs) ≡ (min n r.stop - min n r.start) + members_below n rs
unfolding members_below
members_cons k zero r rs h = omega arith
members_cons k (suc n) r rs h =
    let before : members_below n (r ∷ rs) ≡ (min n r.stop - min n r.start) + members_below n rs = members_cons k n r rs h in
    members_cases (λ x. x ≡ (min (suc n) r.stop - min (suc n) r.start) + members_below (suc n) rs) n (r ∷ rs)
    (λ m. members_cases (λ y. suc (members_below n (r ∷ rs)) ≡ (min (suc n) r.stop - min (suc n) r.start) + y) n rs
    (λ u. let low : suc r.stop ≤ n = member_from (suc r.stop) rs n h.2 u in omega (arith, h.1))
    (λ u. let in-first : Within r n = ⊎_elim (λ w. w) (λ v. absurd (u v)) m in omega (arith, h.1)))
    (λ m. members_cases (λ y. members_below n (r ∷ rs) ≡ (min (suc n) r.stop - min (suc n) r.start) + y) n rs
    (λ u. absurd (m (inr u)))
    (λ u.
    ⊎_elim
    (λ (p : r.start ≤ n).
    ⊎_elim (λ (q : r.stop ≤ n). omega (arith, h.1)) (λ (q : n < r.stop). absurd (m (inl (p, q)))) (le_or_lt r.stop n))
    (λ (p : n < r.start). omega (arith, h.1))
    (le_or_lt r.start n)))

-- ---- the sum

counts_from : (k L : ℕ) (rs : List Run) → CanonicalFrom k rs → StopsTo L rs → received rs ≡ members_below L rs
unfolding received
counts_from k L [] h s = sym (members_nil L)
counts_from k L (r ∷ rs) h s =
    let rest : received rs ≡ members_below L rs = counts_from (suc r.stop) L rs h.2 s.1 in
    omega (arith, members_cons k L r rs h, h.1, s.0)

-- R5.10: the sum is the number of offsets below L that are members
pub received_counts : (L : ℕ) (rs : List Run) → Canonical rs → StopsTo L rs → received rs ≡ members_below L rs
received_counts L rs h s = counts_from 0 L rs h s

pub received_most : (L : ℕ) (rs : List Run) → Canonical rs → StopsTo L rs → received rs ≤ L
received_most L rs h s = omega (arith, received_counts L rs h s, members_most L rs)

-- and it is L exactly when the transfer is complete
pub received_complete : (L : ℕ) (rs : List Run) → Canonical rs → StopsTo L rs → (received rs ≡ L) ↔ (complete L rs ≡ true)
received_complete L rs h s =
    let same : received rs ≡ members_below L rs = received_counts L rs h s in
    ((λ e. (complete_iff L rs h).1 (members_all L rs (sym same ∙ e))), (λ e. same ∙ all_members L rs ((complete_iff L rs h).0 e)))

-- ---- added up one run after the other

pub received_next : (rs : List Run) (i : ℕ) → i < length rs → received (take (suc i) rs) ≡ received (take i rs) + ((nth_run rs i).stop - (nth_run rs i).start)
unfolding received
received_next [] i l = absurd (omega arith)
received_next (r ∷ rs) zero l = omega arith
received_next (r ∷ rs) (suc i) l = omega (arith, received_next rs i (omega arith))

-- the runs before a run have no more offsets than lie below its start
received_to_from : (k : ℕ) (rs : List Run) (i : ℕ) → CanonicalFrom k rs → i < length rs → k + received (take i rs) ≤ (nth_run rs i).start
unfolding received
received_to_from k [] i h l = absurd (omega arith)
received_to_from k (r ∷ rs) zero h l = omega (arith, h.0)
received_to_from k (r ∷ rs) (suc i) h l = omega (arith, h.0, h.1, received_to_from (suc r.stop) rs i h.2 (omega arith))

pub received_to : (rs : List Run) (i : ℕ) → Canonical rs → i < length rs → received (take i rs) ≤ (nth_run rs i).start
received_to rs i h l = omega (arith, received_to_from 0 rs i h l)
