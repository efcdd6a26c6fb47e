-- A file, read: the version, the count, and the pairs after them.
-- Assumes nothing.
use Prim.Native.Nat.{ℕ}
use mathlib.Core.Path.{◌≡◌, sym, ◌∙◌}
use mathlib.Core.List.{List}
use Rattle.refusals.specs.Refusals.{◌▹◌}
use Rattle.refusals.proofs.RefusalLaws.{first_none, rest_none}
use Rattle.refusals.proofs.LimitLaws.{chain_assoc}
use Rattle.varint.specs.Varint.{varint_refusal, varint_value, after_varint}
use Rattle.settings.specs.Settings.{version_refusal}
use Rattle.settings_pairs.specs.Pairs.{after_pair}
use Rattle.settings_reader.specs.ReadSettings.{no_settings, settings_from, head_refusal, read_settings}

module _ (known : ℕ) (s : List ℕ) where
  -- what the version gives
  abbrev pub version_part : ℕ
  version_part = varint_refusal s ▹ version_refusal known (varint_value s)

  pub head_parts : head_refusal known s ≡ version_part ▹ varint_refusal (after_varint s)
  unfolding head_refusal
  head_parts = sym (chain_assoc (varint_refusal s) (version_refusal known (varint_value s)) (varint_refusal (after_varint s)))

  module _ (version-none : version_part ≡ 0) where
    count_next : head_refusal known s ≡ varint_refusal (after_varint s)
    count_next = head_parts ∙ rw version-none

    module _ (count_none : varint_refusal (after_varint s) ≡ 0) where
      pub pairs_next : read_settings known s ≡ settings_from (varint_value s) 0 (no_settings (varint_value s)) (varint_value (after_varint s)) (after_pair s)
      unfolding read_settings
      pairs_next = rw (count_next, count_none)

-- a file whose version and count are not refused
pub record HeadFine (known : ℕ) (s : List ℕ) : Type 0 where
  pub form : varint_refusal s ≡ 0
  pub taken : version_refusal known (varint_value s) ≡ 0
  pub count_form : varint_refusal (after_varint s) ≡ 0

pub head_fine : (known : ℕ) (s : List ℕ) → head_refusal known s ≡ 0 → HeadFine known s
unfolding head_refusal
head_fine known s e =
    let later = rest_none (varint_refusal s) _ e in
    record {
      form = first_none _ _ e;
      taken = first_none _ _ later;
      count_form = rest_none (version_refusal known (varint_value s)) _ later;
    }
