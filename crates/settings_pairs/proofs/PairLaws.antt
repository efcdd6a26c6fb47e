-- One pair, read: what each of its two numbers gives, and what is known of a pair that is not refused.
-- Assumes nothing.
use Prim.Native.Nat.{ℕ, ◌+◌, ◌<◌, ◌≤◌}
use mathlib.Core.Path.{◌≡◌, sym, ◌∙◌}
use mathlib.Core.List.{List}
use native.Mathlib.Omega.{arith}
use lib.ListN.{length, drop, length-drop}
use lib.Seq.{drop-drop}
use Rattle.refusals.specs.Refusals.{◌▹◌}
use Rattle.refusals.proofs.RefusalLaws.{first_none, rest_none, chain_all}
use Rattle.refusals.proofs.LimitLaws.{chain_assoc}
use Rattle.varint.specs.Varint.{varint_refusal, varint_size, after_varint}
use Rattle.varint.proofs.ReadLaws.{size_le}
use Rattle.varint.proofs.LimitLaws.{refusal_all}
use Rattle.settings.specs.Settings.{highest_key, key_refusal, value_refusal}
use Rattle.settings.proofs.LimitLaws.{key_taken_iff, key_all, value_all}
use Rattle.settings_pairs.specs.Pairs.{key_in, value_in, pair_size, after_pair, pair_refusal}

-- a pair ends in the file
pub pair_le : (s : List ℕ) → pair_size s ≤ length s
pair_le s = omega (arith, size_le s, size_le (after_varint s), length-drop (varint_size s) s)

-- what is left after a number
pub after_number : (at : ℕ) (f : List ℕ) → drop (at + varint_size (drop at f)) f ≡ after_varint (drop at f)
after_number at f = sym (drop-drop (varint_size (drop at f)) at f)

-- what is left after a pair
pub after_both : (at : ℕ) (f : List ℕ) → drop (at + pair_size (drop at f)) f ≡ after_pair (drop at f)
after_both at f =
    let s = drop at f in
    sym (drop-drop (varint_size (after_varint s)) (varint_size s) s ∙ drop-drop (pair_size s) at f)

module _ (version last : ℕ) (s : List ℕ) where
  -- what the key gives, and what the value gives
  abbrev pub key_part : ℕ
  key_part = varint_refusal s ▹ key_refusal version last (key_in s)

  abbrev pub value_part : ℕ
  value_part = varint_refusal (after_varint s) ▹ value_refusal (key_in s) (value_in s)

  pub pair_parts : pair_refusal version last s ≡ key_part ▹ value_part
  unfolding pair_refusal
  pair_parts = sym (chain_assoc (varint_refusal s) (key_refusal version last (key_in s)) value_part)

  pub pair_none : key_part ≡ 0 → value_part ≡ 0 → pair_refusal version last s ≡ 0
  pair_none k v = pair_parts ∙ rw (k, v)

  -- 1 and 25 alone
  pub pair_all : (P : ℕ → Type 0) → P 0 → P 1 → P 25 → P (pair_refusal version last s)
  unfolding pair_refusal
  pair_all P z a b =
      chain_all P (varint_refusal s) _ (refusal_all P s z a b)
      (chain_all P (key_refusal version last (key_in s)) _ (key_all version last (key_in s) P z b)
      (chain_all P (varint_refusal (after_varint s)) _ (refusal_all P (after_varint s) z a b) (value_all (key_in s) (value_in s) P z b)))

-- what is known of a pair that is not refused
pub record PairFine (version last : ℕ) (s : List ℕ) : Type 0 where
  pub key_form : varint_refusal s ≡ 0
  pub rises : last < key_in s
  pub had : key_in s ≤ highest_key version
  pub value_form : varint_refusal (after_varint s) ≡ 0
  pub fits : value_refusal (key_in s) (value_in s) ≡ 0

pub pair_fine : (version last : ℕ) (s : List ℕ) → pair_refusal version last s ≡ 0 → PairFine version last s
pair_fine version last s e =
    let parts : key_part version last s ▹ value_part version last s ≡ 0 = sym (pair_parts version last s) ∙ e in
    let key = first_none (key_part version last s) _ parts in
    let value = rest_none (key_part version last s) _ parts in
    let taken = (key_taken_iff version last (key_in s)).0 (rest_none (varint_refusal s) _ key) in
    record {
      key_form = first_none _ _ key;
      rises = taken.0;
      had = taken.1;
      value_form = first_none _ _ value;
      fits = rest_none (varint_refusal (after_varint s)) _ value;
    }
