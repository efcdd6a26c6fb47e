-- Which files are accepted: exactly those that the writer writes; and none of them has more than 15 octets.
-- Assumes nothing.
use Prim.Native.Nat.{ℕ, suc, ◌+◌, ◌^◌, ◌<◌, ◌≤◌}
use mathlib.Core.Path.{◌≡◌, sym, ap, ◌∙◌}
use mathlib.Core.Bool.{Bool, true, false}
use mathlib.Core.List.{List}
use mathlib.Core.Logic.{◌↔◌}
use native.Mathlib.Omega.{arith}
use lib.ListN.{length, length-append}
use Rattle.octets.specs.Numbers.{Octets}
use Rattle.refusals.proofs.TestLaws.{bit_le}
use Rattle.varint.specs.Varint.{varint_octets}
use Rattle.varint.proofs.WrittenLaws.{length_small, length_most}
use Rattle.settings.specs.Settings.{value_refusal}
use Rattle.settings.specs.declared.Settings.{Settings}
use Rattle.settings.proofs.LimitLaws.{version_known_iff, payload_iff, interval_iff, partner_iff, value_lt}
use Rattle.settings_writer.specs.WriteSettings.{option_refusal, settings_refusal, option_octets, pair_count, settings_octets}
use Rattle.settings_writer.proofs.WritingLaws.{settings_length}
use Rattle.settings_writer.proofs.LimitLaws.{given_taken, SettingsFine, settings_fine}
use Rattle.settings_theorems.specs.Theorems.{number_in, number_of}
use Rattle.settings_theorems.proofs.NumberLaws.{read_accepted}
use Rattle.settings_theorems.proofs.ReadsBack.{octets_read}
use Rattle.settings_theorems.proofs.WritesBack.{version_le, same_octets_lem, read_fine}
use Rattle.std.specs.Prelude.{Result}
use Rattle.refusals.specs.declared.Refusal.{Refusal}

-- R18.11, R18.12
pub accepted_iff : (known : ℕ) (s : List ℕ) → Octets s
    → (number_of known s ≡ 0) ↔ ((st : Settings) × (settings_refusal st ≡ 0) × (st.version ≤ known) × (settings_octets st ≡ s))
accepted_iff known s o = (to, from)
  where
    to : number_of known s ≡ 0 → (st : Settings) × (settings_refusal st ≡ 0) × (st.version ≤ known) × (settings_octets st ≡ s)
    to e =
        let a = read_accepted known s e in
        (a.0, read_fine known s a.0 o a.1, version_le known s a.0 o a.1, same_octets_lem known s a.0 o a.1)

    from : (st : Settings) × (settings_refusal st ≡ 0) × (st.version ≤ known) × (settings_octets st ≡ s) → number_of known s ≡ 0
    from p =
        ap (λ (l : List ℕ). number_of known l) (sym p.3)
        ∙ ap (λ (r : Result Settings Refusal). number_in r) (octets_read known p.0 p.1 p.2)

-- a key that may be left out has its own octet and at most g + 1 groups
option_length : (version key value g : ℕ) → key < 128 → (value_refusal key value ≡ 0 → value < 128 ^ suc g) → (given : Bool)
    → option_refusal version given key value ≡ 0 → length (option_octets given key value) ≤ 2 + g
option_length version key value g k a true f =
    let fits = (given_taken version key value f).1 in
    omega (arith, length-append (varint_octets key) (varint_octets value), length_small key k, length_most g value (a fits) (value_lt key value fits))
option_length version key value g k a false f = omega arith

pub settings_most : (s : Settings) → settings_refusal s ≡ 0 → length (settings_octets s) ≤ 15
settings_most s ok =
    let f : SettingsFine s = settings_fine s ok in
    let v = (version_known_iff 2 s.version).0 f.version in
    let l = (payload_iff s.largest).0 f.first in
    omega (
      arith,
      settings_length s,
      length_small s.version (omega (arith, v.1.1)),
      length_small (pair_count s) (omega (arith, bit_le s.timed, bit_le s.paired)),
      length-append (varint_octets 1) (varint_octets s.largest),
      length_small 1 (omega arith),
      length_most 2 s.largest (omega (arith, l.1)) (omega (arith, l.1)),
      option_length s.version 2 s.interval 1 (omega arith) (λ h. omega (arith, ((interval_iff s.interval).0 h).1)) s.timed f.second,
      option_length s.version 3 s.partner 4 (omega arith) (λ h. omega (arith, (partner_iff s.partner).0 h)) s.paired f.third,
    )
