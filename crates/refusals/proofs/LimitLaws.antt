-- R9: when each refusal is given: what a chain gives where a number stands in several places, and the room that a packet needs.
-- Assumes nothing.
use Prim.Native.Nat.{ℕ, zero, suc, ◌<◌, ◌≤◌}
use mathlib.Core.Path.{◌≡◌, refl, sym, ap, ◌∙◌}
use mathlib.Core.Logic.{◌↔◌}
use native.Mathlib.Omega.{arith}
use Rattle.refusals.specs.Refusals.{◌▹◌, refusal_of, answered}
use Rattle.refusals.specs.Writing.{room_refusal, written_of}
use Rattle.refusals.specs.declared.Refusal.{Refusal}
pub use Rattle.refusals.proofs.RefusalLaws.{when_all, chain_all, link_all}
use Rattle.refusals.proofs.ReasonLaws.{Reasons, given, one, below, ◌▸◌}
use Rattle.std.specs.Prelude.{Ok, Err}

-- ---- chains

pub chain_assoc : (l m r : ℕ) → (l ▹ m) ▹ r ≡ l ▹ m ▹ r
chain_assoc zero m r = refl
chain_assoc (suc l) m r = refl

pub nothing_after : (m : ℕ) → m ▹ 0 ≡ m
nothing_after zero = refl
nothing_after (suc m) = refl

-- ---- the room for a packet of so many octets

module _ (size room : ℕ) where
  abbrev pub room_reasons : Reasons
  room_reasons = one 2 (below 65535 size) ▸ one 20 (below room size)

  -- R9.2
  pub two_iff : (room_refusal size room ≡ 2) ↔ (65535 < size)
  unfolding room_refusal
  two_iff = given room_reasons 2

  -- R9.20
  pub twenty_iff : (room_refusal size room ≡ 20) ↔ ((size ≤ 65535) × (room < size))
  unfolding room_refusal
  twenty_iff = given room_reasons 20

-- ---- answers

-- an operation answers the refusal n exactly when its number is n
pub refused_iff : {A : Type 0} (refused : Refusal → A) (answer : ℕ → A) → ((m : ℕ) → answer (suc m) ≡ refused (refusal_of (suc m)))
    → ((r : Refusal) → answer 0 ≡ refused r → ⊥) → ((q r : Refusal) → refused q ≡ refused r → q ≡ r)
    → (m n : ℕ) → (answer m ≡ refused (refusal_of (suc n))) ↔ (m ≡ suc n)
refused_iff refused answer is apart same zero n = ((λ e. absurd (apart (refusal_of (suc n)) e)), (λ e. absurd (omega arith)))
refused_iff refused answer is apart same (suc m) n = (
  (λ e. ap (λ (r : Refusal). r.number) (same (refusal_of (suc m)) (refusal_of (suc n)) (sym (is m) ∙ e))),
  (λ e. is m ∙ ap (λ (i : ℕ). refused (refusal_of i)) e),
)

pub answered_iff : {A : Type 0} (refused : Refusal → A) (m n : ℕ) (result : A) → ((r : Refusal) → result ≡ refused r → ⊥)
    → ((q r : Refusal) → refused q ≡ refused r → q ≡ r) → (answered refused m result ≡ refused (refusal_of (suc n))) ↔ (m ≡ suc n)
answered_iff refused m n result apart same = refused_iff refused (λ i. answered refused i result) (λ i. refl) apart same m n

pub written_iff : (m n size : ℕ) → (written_of m size ≡ Err (refusal_of (suc n))) ↔ (m ≡ suc n)
written_iff m n size = answered_iff Err m n (Ok size) (λ r e. let z : ◌≡◌ {A = ℕ} 0 1 = cc in omega arith) (λ q r e. cc)
