-- Bit 14 of a STATUS: it is set exactly when fewer holes are written than there are.
-- Assumes nothing.
use Prim.Native.Nat.{ℕ, zero, suc, ◌-◌, ◌<◌, ◌≤◌, min}
use mathlib.Core.Path.{◌≡◌, refl}
use mathlib.Core.Bool.{Bool, true, false, ◌||◌}
use mathlib.Core.List.{List}
use mathlib.Core.Logic.{◌⊎◌, inl, inr, ⊎_elim, ◌↔◌}
use native.Mathlib.Omega.{arith}
use lib.ListN.{length, take, drop}
use lib.Seq.{take_all}
use lib.Dec.{ltb}
use borrow.Author.Tests.{ltb-true, ltb-false, lt-ltb, le-ltb}
use Rattle.refusals.proofs.TestLaws.{or_iff}
use Rattle.runs.specs.declared.Hole.{Hole}
use Rattle.runs.proofs.CompareLaws.{le_or_lt}
use Rattle.transfer_status.specs.WriteStatus.{hole_room, holes_sent, partial_sent}
use Rattle.transfer_status.proofs.StatusSize.{holes_sent_count}

or_none : (a b : Bool) → a || b ≡ false → (a ≡ false) × (b ≡ false)
or_none true b e = absurd (let z : ◌≡◌ {A = ℕ} 0 1 = cc in omega arith)
or_none false b e = (refl, e)

-- R7.3: the first k are skipped, and of the others those past the
-- room do not fit
pub partial_means : (ts d k room n : ℕ) → (partial_sent ts d k room n ≡ true) ↔ ((0 < k) ⊎ (hole_room ts d room < n - k))
unfolding partial_sent
partial_means ts d k room n =
    let o = or_iff (ltb 0 k) (ltb (hole_room ts d room) (n - k)) in (
      (λ e. ⊎_elim (λ p. inl (ltb-true 0 k p)) (λ p. inr (ltb-true (hole_room ts d room) (n - k) p)) (o.0 e)),
      (λ p. o.1 (⊎_elim (λ q. inl (lt-ltb 0 k q)) (λ q. inr (lt-ltb (hole_room ts d room) (n - k) q)) p)),
    )

-- where k is allowed and there are no holes, bit 14 is clear
pub none_whole : (ts d k room n : ℕ) → (k ≡ 0) ⊎ (k < n) → n ≡ 0 → partial_sent ts d k room n ≡ false
unfolding partial_sent
none_whole ts d k room n a z =
    let p : k ≡ 0 = ⊎_elim (λ e. e) (λ (l : k < n). absurd (omega arith)) a in
    rw (le-ltb 0 k (omega arith), le-ltb (hole_room ts d room) (n - k) (omega arith))

module _ (ts d k room : ℕ) (hs : List Hole) where
  -- where k is allowed: exactly when fewer holes are written than there are
  pub partial_iff : (k ≡ 0) ⊎ (k < length hs) → (partial_sent ts d k room (length hs) ≡ true) ↔ (length (holes_sent ts d k room hs) < length hs)
  partial_iff a =
      let m = partial_means ts d k room (length hs) in
      let c : length (holes_sent ts d k room hs) ≡ min (length hs - k) (hole_room ts d room) = holes_sent_count ts d k room hs in (
        (λ e. ⊎_elim (λ (p : 0 < k). ⊎_elim (λ (z : k ≡ 0). omega arith) (λ (q : k < length hs). omega arith) a)
            (λ (p : hole_room ts d room < length hs - k). omega arith) (m.0 e)),
        (λ l. m.1 (⊎_elim (λ (p : k ≤ 0). inr (omega arith)) (λ (p : 0 < k). inl p) (le_or_lt k 0))),
      )

  -- with bit 14 clear the whole list is written
  pub whole_sent : partial_sent ts d k room (length hs) ≡ false → holes_sent ts d k room hs ≡ hs
  unfolding partial_sent holes_sent
  whole_sent e =
      let o = or_none (ltb 0 k) (ltb (hole_room ts d room) (length hs - k)) e in
      whole k (ltb-false 0 k o.0) (ltb-false _ _ o.1)
    where
      whole : (k : ℕ) → k ≤ 0 → length hs - k ≤ hole_room ts d room → take (hole_room ts d room) (drop k hs) ≡ hs
      whole zero z l = take_all (hole_room ts d room) hs (omega arith)
      whole (suc k) z l = absurd (omega arith)
