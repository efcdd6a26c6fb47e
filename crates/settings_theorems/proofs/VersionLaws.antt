-- R18.10: readers that know a file's version agree on it.
-- Assumes nothing.
use Prim.Native.Nat.{ℕ, ◌<◌, ◌≤◌}
use mathlib.Core.Path.{◌≡◌, sym}
use mathlib.Core.List.{List}
use mathlib.Core.Logic.{⊎_elim}
use native.Mathlib.Nat.{eq-or-lt_of_le}
use native.Mathlib.Omega.{arith}
use borrow.Author.Tests.{lt-ltb, le-ltb}
use Rattle.varint.specs.Varint.{varint_value}
use Rattle.varint.proofs.WrittenLaws.{below_or}
use Rattle.settings.specs.Settings.{version_refusal}
use Rattle.settings_reader.specs.ReadSettings.{head_refusal, read_settings}
use Rattle.settings_theorems.specs.Theorems.{ReadersAgree, VersionsAgree}

-- what the reader knows is looked at in one place
same_known : (k l : ℕ) (s : List ℕ) → version_refusal k (varint_value s) ≡ version_refusal l (varint_value s) → read_settings k s ≡ read_settings l s
unfolding read_settings head_refusal
same_known k l s e = rw e

pub readers_agree : ReadersAgree
unfolding version_refusal
readers_agree k l s a b = same_known k l s (rw (le-ltb k (varint_value s) a, le-ltb l (varint_value s) b))

pub versions_agree : VersionsAgree
versions_agree s e = readers_agree 1 2 s (omega arith) (omega arith)

-- and on every other file whose version is not 2: version 3, say, is unknown to both
pub versions_agree_else : (s : List ℕ) → (varint_value s ≡ 2 → ⊥) → read_settings 1 s ≡ read_settings 2 s
unfolding version_refusal
versions_agree_else s n = ⊎_elim (λ h. readers_agree 1 2 s (omega arith) (omega arith)) large (below_or (varint_value s) 2)
  where
    large : 2 ≤ varint_value s → read_settings 1 s ≡ read_settings 2 s
    large h =
        let above : 2 < varint_value s = ⊎_elim (λ z. absurd (n (sym z))) (λ l. l) (eq-or-lt_of_le h) in
        same_known 1 2 s (rw (le-ltb (varint_value s) 1 (omega arith), lt-ltb 1 (varint_value s) (omega arith), lt-ltb 2 (varint_value s) above))
