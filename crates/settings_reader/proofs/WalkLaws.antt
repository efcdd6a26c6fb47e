-- The pairs, read one after the other: one step, and the end.
-- Assumes nothing.
use Prim.Native.Nat.{ℕ, zero, suc, ◌-◌, ◌<◌, ◌≤◌}
use mathlib.Core.Path.{◌≡◌}
use mathlib.Core.List.{List}
use native.Mathlib.Omega.{arith}
use lib.ListN.{length}
use borrow.Author.Tests.{le-ltb, ne_eqb}
use Rattle.refusals.specs.Refusals.{answered}
use Rattle.settings.specs.declared.Settings.{Settings}
use Rattle.settings_pairs.specs.Pairs.{key_in, value_in, after_pair, pair_refusal}
use Rattle.settings.proofs.LimitLaws.{highest_le}
use Rattle.settings_pairs.proofs.PairLaws.{pair_fine}
use Rattle.settings_reader.specs.ReadSettings.{with_pair, settings_from}
use Rattle.std.specs.Prelude.{Ok, Err}

-- the next pair
pub from_step : (version last : ℕ) (got : Settings) (left : ℕ) (s : List ℕ) → 0 < left
    → settings_from version last got left s
    ≡ answered Err (pair_refusal version last s) (settings_from version (key_in s) (with_pair (key_in s) (value_in s) got) (left - 1) (after_pair s))
from_step version last got zero s h = absurd (omega arith)
from_step version last got (suc n) s h = let e : suc n - 1 ≡ n = omega arith in rw e

-- a pair that is taken has a key above the last one, and none is above 3
module _ (version last : ℕ) (s : List ℕ) (e : pair_refusal version last s ≡ 0) where
  pub key_rises : last < key_in s
  key_rises = (pair_fine version last s e).rises

  pub key_le : key_in s ≤ 3
  key_le = omega (arith, (pair_fine version last s e).had, highest_le version)

-- no pair is left
module _ (version last : ℕ) (got : Settings) (s : List ℕ) where
  pub end_taken : length s ≤ 0 → (got.largest ≡ 0 → ⊥) → Ok got ≡ settings_from version last got 0 s
  end_taken h z = rw (le-ltb 0 (length s) h, ne_eqb got.largest 0 z)
