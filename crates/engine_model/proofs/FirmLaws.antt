-- Where every write to an offset is due, or durable; and what the file holds there then.
-- Assumes nothing.
use Prim.Native.Nat.{ℕ, suc}
use mathlib.Core.Path.{◌≡◌, refl, ap, ap₂}
use mathlib.Core.Bool.{Bool, true, false, cond, ◌&&◌, ◌||◌}
use mathlib.Core.List.{List, [], ◌∷◌, map}
use mathlib.Core.Option.{Option, none, some}
use native.Mathlib.Omega.{arith}
use borrow.Author.Tests.{eqb-true}
use lib.Dec.{eqb}
use Rattle.engine_model.specs.Disk.{Write, or_else, octet_in, content, as_due, as_forced, forced, as_left, left, surviving, losing}
use Rattle.engine_model.proofs.DiskLaws.{is_due, is_durable, or_left, or_right, cond_some, octet_in_lem}

-- the write has an octet there
abbrev pub At : Write → ℕ → ℕ → ℕ → ℕ → ℕ → Type 0
At w i f p o v = (w.id ≡ i) × (w.file ≡ f) × (w.of ≡ p) × (w.octet o ≡ some v)

-- every write that has an octet at the offset o of the part p of the file has the property q
abbrev pub Firm : (q : Write → Bool) → List Write → ℕ → ℕ → ℕ → ℕ → Type 0
Firm q [] i f p o = Unit
Firm q (w ∷ ws) i f p o = ((v : ℕ) → At w i f p o v → q w ≡ true) × Firm q ws i f p o

module _ (i f p o : ℕ) where
  pub due_firm : (ws : List Write) → Firm is_durable ws i f p o → Firm is_durable (map as_due ws) i f p o
  unfolding as_due
  due_firm [] h = tt
  due_firm (w ∷ ws) h = (h.0, due_firm ws h.1)

  pub all_due_firm : (ws : List Write) → Firm is_due (map as_due ws) i f p o
  unfolding as_due
  all_due_firm [] = tt
  all_due_firm (w ∷ ws) = ((λ v a. refl), all_due_firm ws)

  pub forced_firm : (ws : List Write) → Firm is_durable ws i f p o → Firm is_durable (forced ws) i f p o
  unfolding as_forced forced
  forced_firm [] h = tt
  forced_firm (w ∷ ws) h = ((λ v a. or_right w.due w.durable (h.0 v a)), forced_firm ws h.1)

  pub forced_due_firm : (ws : List Write) → Firm is_due ws i f p o → Firm is_durable (forced ws) i f p o
  unfolding as_forced forced
  forced_due_firm [] h = tt
  forced_due_firm (w ∷ ws) h = ((λ v a. or_left w.due w.durable (h.0 v a)), forced_due_firm ws h.1)

  pub forced_still_due_firm : (ws : List Write) → Firm is_due ws i f p o → Firm is_due (forced ws) i f p o
  unfolding as_forced forced
  forced_still_due_firm [] h = tt
  forced_still_due_firm (w ∷ ws) h = (h.0, forced_still_due_firm ws h.1)

  pub surviving_firm : (c : ℕ → ℕ → Bool) (ws : List Write) → Firm is_durable (surviving c ws) i f p o
  unfolding as_left left
  surviving_firm c [] = tt
  surviving_firm c (w ∷ ws) = ((λ v a. refl), surviving_firm (λ n. c (suc n)) ws)

  pub losing_firm : (c : ℕ → ℕ → Bool) (ws : List Write) → Firm is_durable ws i f p o → Firm is_durable (losing c ws) i f p o
  unfolding as_left left
  losing_firm c [] h = tt
  losing_firm c (w ∷ ws) h = (
    (λ v a. h.0 v (a.0, a.1, a.2, cond_some (w.durable || c 0 o) (w.octet o) v a.3)),
    losing_firm (λ n. c (suc n)) ws h.1,
  )

  -- ---- and what the file holds there stays

  pub due_content : (ws : List Write) → content (map as_due ws) i f p o ≡ content ws i f p o
  unfolding content as_due octet_in
  due_content [] = refl
  due_content (w ∷ ws) = ap (or_else (octet_in w i f p o)) (due_content ws)

  pub forced_content : (ws : List Write) → content (forced ws) i f p o ≡ content ws i f p o
  unfolding content as_forced forced octet_in
  forced_content [] = refl
  forced_content (w ∷ ws) = ap (or_else (octet_in w i f p o)) (forced_content ws)

  cond_none : (b : Bool) → ◌≡◌ {A = Option ℕ} (cond b none none) none
  cond_none true = refl
  cond_none false = refl

  left_octet : (b : Bool) (k : ℕ → Bool) (w : Write) → ((v : ℕ) → At w i f p o v → w.durable ≡ true)
      → octet_in (as_left b k w) i f p o ≡ octet_in w i f p o
  unfolding as_left octet_in
  left_octet b k w h = go (eqb w.id i) (eqb w.file f) (eqb w.of p) (w.octet o) refl refl refl refl
    where
      inner : (b : Bool) → b ≡ true → (x : Option ℕ) → cond (b || k o) x none ≡ x
      inner true e x = refl
      inner false e x = absurd (let z : ◌≡◌ {A = ℕ} 0 1 = cc in omega arith)

      go : (a b c : Bool) (x : Option ℕ) → eqb w.id i ≡ a → eqb w.file f ≡ b → eqb w.of p ≡ c → w.octet o ≡ x
          → cond (a && b && c) (cond (w.durable || k o) x none) none ≡ cond (a && b && c) x none
      go false b c x y z u r = refl
      go true false c x y z u r = refl
      go true true false x y z u r = refl
      go true true true none y z u r = cond_none (w.durable || k o)
      go true true true (some v) y z u r =
          inner w.durable (h v (eqb-true w.id i y, eqb-true w.file f z, eqb-true w.of p u, r)) (some v)

  pub firm_content : (b : Bool) (c : ℕ → ℕ → Bool) (ws : List Write) → Firm is_durable ws i f p o
      → content (left b c ws) i f p o ≡ content ws i f p o
  unfolding content left
  firm_content b c [] h = refl
  firm_content b c (w ∷ ws) h = ap₂ or_else (left_octet b (c 0) w h.0) (firm_content b (λ n. c (suc n)) ws h.1)

  -- a write that has no octet there changes nothing
  pub silent_content : (w : Write) (ws : List Write) → ((v : ℕ) → At w i f p o v → ⊥) → content (w ∷ ws) i f p o ≡ content ws i f p o
  unfolding content or_else
  silent_content w ws h = go (octet_in w i f p o) refl
    where
      go : (x : Option ℕ) → octet_in w i f p o ≡ x → or_else x (content ws i f p o) ≡ content ws i f p o
      go none e = refl
      go (some v) e = absurd (h v (octet_in_lem w i f p o v e))
