-- R9.24, R9.25, R9.20: when settings to be written are refused, exactly; and what is known of settings that are not.
-- Assumes nothing.
use Prim.Native.Nat.{ℕ, suc, ◌<◌, ◌≤◌}
use mathlib.Core.Path.{◌≡◌, refl}
use mathlib.Core.Bool.{Bool, true, false, not}
use mathlib.Core.List.{List}
use mathlib.Core.Logic.Iff
use mathlib.Core.Logic.{◌⊎◌, inl, inr, ⊎_elim, ◌↔◌}
use native.Mathlib.Omega.{arith}
use lib.ListN.{length}
use lib.Dec.{ltb, eqb}
use Rattle.refusals.specs.Refusals.{◌▹◌, when, refusal_of}
use Rattle.refusals.proofs.TestLaws.{ltb_iff, both}
use Rattle.refusals.proofs.RefusalLaws.{first_none, rest_none, when_all, chain_all, chain_iff, first_only, when_given}
use Rattle.refusals.proofs.ReasonLaws.{given, one, unequal}
use Rattle.refusals.proofs.LimitLaws.{chain_assoc, written_iff}
use Rattle.settings.specs.Settings.{version_refusal, highest_key, key_refusal, value_refusal}
use Rattle.settings.specs.declared.Settings.{Settings}
use Rattle.settings.proofs.LimitLaws.{version_unknown_iff, version_all, key_taken_iff, key_all, value_all}
use Rattle.settings_writer.specs.WriteSettings.{option_refusal, settings_refusal, settings_octets, settings_write_refusal, settings_written}
use Rattle.std.specs.Prelude.{Err}

-- ---- a key that may be left out

module _ (version : ℕ) (key value : ℕ) where
  -- it is given: the version has it, and allows the value
  pub given_taken : option_refusal version true key value ≡ 0 → (key ≤ highest_key version) × (value_refusal key value ≡ 0)
  unfolding option_refusal
  given_taken e = (((key_taken_iff version 0 key).0 (first_none _ _ e)).1, rest_none (key_refusal version 0 key) _ e)

  pub taken_given : 0 < key → key ≤ highest_key version → value_refusal key value ≡ 0 → option_refusal version true key value ≡ 0
  unfolding option_refusal
  taken_given s h e = rw ((key_taken_iff version 0 key).1 (s, h), e)

  -- it is left out: its number is 0
  pub left_out_iff : (option_refusal version false key value ≡ 0) ↔ (value ≡ 0)
  unfolding option_refusal
  left_out_iff = given (one 25 (unequal value 0)) 0

  pub option_all : (given : Bool) (P : ℕ → Type 0) → P 0 → P 25 → P (option_refusal version given key value)
  unfolding option_refusal
  option_all true P z p = chain_all P (key_refusal version 0 key) _ (key_all version 0 key P z p) (value_all key value P z p)
  option_all false P z p = when_all P (not (eqb value 0)) 25 z p

-- ---- settings

module _ (s : Settings) where
  -- what each of the keys gives
  abbrev largest_part : ℕ
  largest_part = value_refusal 1 s.largest

  abbrev interval_part : ℕ
  interval_part = option_refusal s.version s.timed 2 s.interval

  abbrev partner_part : ℕ
  partner_part = option_refusal s.version s.paired 3 s.partner

  abbrev keys_part : ℕ
  keys_part = largest_part ▹ interval_part ▹ partner_part

  keys_all : (P : ℕ → Type 0) → P 0 → P 25 → P keys_part
  keys_all P z p =
      chain_all P largest_part _ (value_all 1 s.largest P z p)
      (chain_all P interval_part _ (option_all s.version 2 s.interval s.timed P z p) (option_all s.version 3 s.partner s.paired P z p))

  -- R18.8: what no file holds
  abbrev pub Unfit : Type 0
  Unfit =
      (value_refusal 1 s.largest ≡ 25)
      ⊎ ((option_refusal s.version s.timed 2 s.interval ≡ 25) ⊎ (option_refusal s.version s.paired 3 s.partner ≡ 25))

  -- of two parts that give 0 or 25, one gives 25
  two_parts_lem : (m r : ℕ) → ((m ≡ 0) ⊎ (m ≡ 25)) → (m ▹ r ≡ 25) ↔ ((m ≡ 25) ⊎ (r ≡ 25))
  two_parts_lem m r d =
      Iff.trans (chain_iff m r 25 (λ e. omega arith))
      (⊎_elim inl (λ p. inr p.1), ⊎_elim inl (λ e. ⊎_elim (λ z. inr (z, e)) inl d))

  unfit_iff : (keys_part ≡ 25) ↔ Unfit
  unfit_iff =
      let either : (n : ℕ) → Type 0 = λ n. (n ≡ 0) ⊎ (n ≡ 25) in
      Iff.trans (two_parts_lem largest_part (interval_part ▹ partner_part) (value_all 1 s.largest either (inl refl) (inr refl)))
      ((⊎_elim inl (λ e. inr (rest.0 e))), (⊎_elim inl (λ e. inr (rest.1 e))))
    where
      rest : (interval_part ▹ partner_part ≡ 25) ↔ ((interval_part ≡ 25) ⊎ (partner_part ≡ 25))
      rest = two_parts_lem interval_part partner_part (option_all s.version 2 s.interval s.timed (λ n. (n ≡ 0) ⊎ (n ≡ 25)) (inl refl) (inr refl))

  module _ (room : ℕ) where
    abbrev size : ℕ
    size = length (settings_octets s)

    small : (P : ℕ → Type 0) → P 0 → P 20 → P (when (ltb room size) 20)
    small P z p = when_all P (ltb room size) 20 z p

    order : settings_write_refusal s room ≡ version_refusal 2 s.version ▹ keys_part ▹ when (ltb room size) 20
    unfolding settings_write_refusal settings_refusal
    order = chain_assoc (version_refusal 2 s.version) keys_part (when (ltb room size) 20)

    -- R9.24: before all
    pub write_twenty_four_iff : (settings_write_refusal s room ≡ 24) ↔ ((s.version < 1) ⊎ (2 < s.version))
    write_twenty_four_iff =
        let P : ℕ → Type 0 = λ m. m ≡ 24 → ⊥ in
        rw order
        (Iff.trans (first_only (version_refusal 2 s.version) _ 24 (λ e. omega arith)
        (chain_all P keys_part _ (keys_all P (λ e. omega arith) (λ e. omega arith)) (small P (λ e. omega arith) (λ e. omega arith))))
        (Iff.trans (version_unknown_iff 2 s.version) (⊎_elim inl (⊎_elim inr inr), ⊎_elim inl (λ h. inr (inl h)))))

    -- R9.25: of a version that is known
    pub write_twenty_five_iff : (settings_write_refusal s room ≡ 25) ↔ ((version_refusal 2 s.version ≡ 0) × Unfit)
    write_twenty_five_iff =
        let v = version_refusal 2 s.version in
        let none : v ≡ 25 → ⊥ = version_all 2 s.version (λ m. m ≡ 25 → ⊥) (λ e. omega arith) (λ e. omega arith) in
        rw order
        (Iff.trans (chain_iff v _ 25 (λ e. omega arith))
        (Iff.trans (⊎_elim (λ e. absurd (none e)) (λ p. p), inr)
        (both Iff.rfl
        (Iff.trans (first_only keys_part _ 25 (λ e. omega arith) (small (λ m. m ≡ 25 → ⊥) (λ e. omega arith) (λ e. omega arith))) unfit_iff))))

    -- R9.20: last
    pub write_twenty_iff : (settings_write_refusal s room ≡ 20) ↔ ((settings_refusal s ≡ 0) × (room < size))
    unfolding settings_write_refusal settings_refusal
    write_twenty_iff =
        let n = version_refusal 2 s.version ▹ keys_part in
        let P : ℕ → Type 0 = λ m. m ≡ 20 → ⊥ in
        let none : n ≡ 20 → ⊥ =
        chain_all P (version_refusal 2 s.version) _ (version_all 2 s.version P (λ e. omega arith) (λ e. omega arith)) (keys_all P (λ e. omega arith) (λ e. omega arith)) in
        Iff.trans (chain_iff n _ 20 (λ e. omega arith))
        (Iff.trans (⊎_elim (λ e. absurd (none e)) (λ p. p), inr)
        (both Iff.rfl (Iff.trans (when_given (ltb room size) 20 (λ e. omega arith)) (ltb_iff room size))))

-- the writer answers the refusal with the number that these laws speak of
pub write_refused_iff : (s : Settings) (old : List ℕ) (n : ℕ)
    → (settings_written s old ≡ Err (refusal_of (suc n))) ↔ (settings_write_refusal s (length old) ≡ suc n)
unfolding settings_written
write_refused_iff s old n = written_iff (settings_write_refusal s (length old)) n (length (settings_octets s))

-- ---- settings that a file holds

pub record SettingsFine (s : Settings) : Type 0 where
  pub version : version_refusal 2 s.version ≡ 0
  pub first : value_refusal 1 s.largest ≡ 0
  pub second : option_refusal s.version s.timed 2 s.interval ≡ 0
  pub third : option_refusal s.version s.paired 3 s.partner ≡ 0

pub settings_fine : (s : Settings) → settings_refusal s ≡ 0 → SettingsFine s
unfolding settings_refusal
settings_fine s e =
    let keys = rest_none (version_refusal 2 s.version) _ e in
    let options = rest_none (largest_part s) _ keys in
    record {
      version = first_none _ _ e;
      first = first_none _ _ keys;
      second = first_none _ _ options;
      third = rest_none (interval_part s) _ options;
    }

pub settings_none : (s : Settings) → SettingsFine s → settings_refusal s ≡ 0
unfolding settings_refusal
settings_none s f = rw (f.version, f.first, f.second, f.third)
