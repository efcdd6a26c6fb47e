-- R9.24, R9.25: which versions, keys and values are refused, exactly.
-- Assumes nothing.
use Prim.Native.Nat.{ℕ, ◌^◌, ◌<◌, ◌≤◌}
use mathlib.Core.Path.{◌≡◌}
use mathlib.Core.Bool.{Bool, true, false, not, cond}
use mathlib.Core.Logic.{◌⊎◌, ◌↔◌}
use native.Mathlib.Omega.{arith}
use lib.Dec.{ltb, eqb}
use borrow.Author.Tests.{ltb-true, not-false}
use Rattle.refusals.specs.Refusals.{when}
use Rattle.refusals.proofs.RefusalLaws.{when_all, link_all, failed}
use Rattle.refusals.proofs.ReasonLaws.{Reasons, given, one, again, below, reaches}
use Rattle.settings.specs.Settings.{version_refusal, highest_key, key_refusal, range_refusal, value_refusal}

-- ---- versions

module _ (known version : ℕ) where
  abbrev version_reasons : Reasons
  version_reasons = again 24 (below version 1) (again 24 (below known version) (one 24 (below 2 version)))

  pub version_known_iff : (version_refusal known version ≡ 0) ↔ ((1 ≤ version) × ((version ≤ known) × (version ≤ 2)))
  unfolding version_refusal
  version_known_iff = given version_reasons 0

  pub version_unknown_iff : (version_refusal known version ≡ 24) ↔ ((version < 1) ⊎ ((known < version) ⊎ (2 < version)))
  unfolding version_refusal
  version_unknown_iff = given version_reasons 24

  pub version_all : (P : ℕ → Type 0) → P 0 → P 24 → P (version_refusal known version)
  unfolding version_refusal
  version_all P z p =
      link_all P (ltb version 1) 24 _ p (link_all P (ltb known version) 24 _ p (when_all P (ltb 2 version) 24 z p))

-- ---- keys

module _ (version last key : ℕ) where
  abbrev key_reasons : Reasons
  key_reasons = again 25 (reaches last key) (one 25 (below (highest_key version) key))

  pub key_taken_iff : (key_refusal version last key ≡ 0) ↔ ((last < key) × (key ≤ highest_key version))
  unfolding key_refusal
  key_taken_iff = given key_reasons 0

  pub key_refused_iff : (key_refusal version last key ≡ 25) ↔ ((key ≤ last) ⊎ (highest_key version < key))
  unfolding key_refusal
  key_refused_iff = given key_reasons 25

  pub key_all : (P : ℕ → Type 0) → P 0 → P 25 → P (key_refusal version last key)
  unfolding key_refusal
  key_all P z p = link_all P (not (ltb last key)) 25 _ p (when_all P (ltb (highest_key version) key) 25 z p)

pub highest_le : (version : ℕ) → highest_key version ≤ 3
highest_le version = go (eqb version 1)
  where
    go : (b : Bool) → cond b 2 3 ≤ 3
    go true = omega arith
    go false = omega arith

-- ---- values

module _ (most value : ℕ) where
  abbrev range_reasons : Reasons
  range_reasons = again 25 (below value 1) (one 25 (below most value))

  range_iff : (range_refusal most value ≡ 0) ↔ ((1 ≤ value) × (value ≤ most))
  unfolding range_refusal
  range_iff = given range_reasons 0

  range_all : (P : ℕ → Type 0) → P 0 → P 25 → P (range_refusal most value)
  unfolding range_refusal
  range_all P z p = link_all P (ltb value 1) 25 _ p (when_all P (ltb most value) 25 z p)

-- the largest payload, the seconds, and the partner's Id
pub payload_iff : (value : ℕ) → (value_refusal 1 value ≡ 0) ↔ ((1 ≤ value) × (value ≤ 65000))
unfolding value_refusal
payload_iff value = range_iff 65000 value

pub interval_iff : (value : ℕ) → (value_refusal 2 value ≡ 0) ↔ ((1 ≤ value) × (value ≤ 3600))
unfolding value_refusal
interval_iff value = range_iff 3600 value

pub partner_iff : (value : ℕ) → (value_refusal 3 value ≡ 0) ↔ (value < 2 ^ 32)
unfolding value_refusal
partner_iff value = given (one 25 (reaches value (2 ^ 32))) 0

module _ (key value : ℕ) where
  pub value_all : (P : ℕ → Type 0) → P 0 → P 25 → P (value_refusal key value)
  unfolding value_refusal
  value_all P z p = go (eqb key 1) (eqb key 2)
    where
      go : (a b : Bool) → P (cond a (range_refusal 65000 value) (cond b (range_refusal 3600 value) (when (not (ltb value (2 ^ 32))) 25)))
      go true b = range_all 65000 value P z p
      go false true = range_all 3600 value P z p
      go false false = when_all P (not (ltb value (2 ^ 32))) 25 z p

  -- every value that is taken is a number of 64 bits
  pub value_lt : value_refusal key value ≡ 0 → value < 2 ^ 64
  unfolding value_refusal
  value_lt = go (eqb key 1) (eqb key 2)
    where
      go : (a b : Bool) → cond a (range_refusal 65000 value) (cond b (range_refusal 3600 value) (when (not (ltb value (2 ^ 32))) 25)) ≡ 0 → value < 2 ^ 64
      go true b e = omega (arith, ((range_iff 65000 value).0 e).1)
      go false true e = omega (arith, ((range_iff 3600 value).0 e).1)
      go false false e = omega (arith, ltb-true value (2 ^ 32) (not-false _ (failed _ 24 e)))
