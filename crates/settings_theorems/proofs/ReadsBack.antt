-- R18.11: settings that were written are read back the same.
-- Assumes nothing.
use Prim.Native.Nat.{ℕ, suc, ◌+◌, ◌^◌, ◌<◌, ◌≤◌}
use mathlib.Core.Path.{◌≡◌, refl, sym, ap, ◌∙◌}
use mathlib.Core.Bool.{Bool, true, false, cond}
use mathlib.Core.List.{List, [], ◌++◌, append_assoc, append-nil}
use native.Mathlib.Omega.{arith}
use lib.ListN.{length}
use lib.Dec.{eqb}
use Rattle.octets.proofs.PutLaws.{take_put}
use Rattle.refusals.specs.Tests.{bit}
use Rattle.refusals.proofs.TestLaws.{bit_le}
use Rattle.refusals.proofs.WritingLaws.{written_size}
use Rattle.varint.specs.Varint.{varint_octets, varint_value, after_varint}
use Rattle.varint.proofs.ReadLaws.{refusal_written, value_written, after_written}
use Rattle.settings.specs.Settings.{version_refusal, highest_key, value_refusal}
use Rattle.settings.specs.declared.Settings.{Settings}
use Rattle.settings.proofs.LimitLaws.{version_known_iff, key_taken_iff, highest_le, payload_iff, value_lt}
use Rattle.settings_pairs.specs.Pairs.{key_in, value_in, after_pair, pair_refusal}
use Rattle.settings_pairs.proofs.PairLaws.{pair_none}
use Rattle.settings_reader.specs.ReadSettings.{no_settings, with_pair, settings_from, read_settings}
use Rattle.settings_reader.proofs.WalkLaws.{end_taken}
use Rattle.settings_reader.proofs.FileLaws.{pairs_next}
use Rattle.settings_writer.specs.WriteSettings.{option_refusal, settings_refusal, pair_octets, option_octets, pair_count, settings_octets, settings_write_refusal, settings_written, settings_buffer}
use Rattle.settings_writer.proofs.WritingLaws.{writable}
use Rattle.settings_writer.proofs.LimitLaws.{given_taken, left_out_iff, SettingsFine, settings_fine}
use Rattle.settings_theorems.specs.Theorems.{ReadsBack}
use Rattle.std.specs.Prelude.{Ok}

-- ---- one pair

module _ (version last : ℕ) (got : Settings) (n key value : ℕ) (r : List ℕ) (rises : last < key) (had : key ≤ highest_key version)
    (fits : value_refusal key value ≡ 0) where
  abbrev t : List ℕ
  t = varint_octets key ++ (varint_octets value ++ r)

  small : key < 2 ^ 64
  small = omega (arith, highest_le version)

  key_is : key_in t ≡ key
  key_is = value_written key _ small

  after_key : after_varint t ≡ varint_octets value ++ r
  after_key = after_written key _ small

  value_is : value_in t ≡ value
  value_is = rw after_key (value_written value r (value_lt key value fits))

  after_is : after_pair t ≡ r
  after_is = rw after_key (after_written value r (value_lt key value fits))

  none : pair_refusal version last t ≡ 0
  none =
      pair_none version last t
      (rw (refusal_written key (varint_octets value ++ r) small, key_is) ((key_taken_iff version last key).1 (rises, had)))
      (rw (key_is, value_is, after_key, refusal_written value r (value_lt key value fits)) fits)

  from_pair : settings_from version last got (suc n) (pair_octets key value ++ r) ≡ settings_from version key (with_pair key value got) n r
  from_pair = rw (append_assoc (varint_octets key) (varint_octets value) r, none, key_is, value_is, after_is)

-- ---- a pair that may be left out: the last key, and the settings, after it

module _ (version last : ℕ) (got : Settings) (n key value : ℕ) (r : List ℕ) (rises : last < key) where
  from_option : (given : Bool) → option_refusal version given key value ≡ 0
      → settings_from version last got (bit given + n) (option_octets given key value ++ r)
      ≡ settings_from version (cond given key last) (cond given (with_pair key value got) got) n r
  from_option true f =
      let e : 1 + n ≡ suc n = omega arith in
      let p = given_taken version key value f in
      rw e (from_pair version last got n key value r rises p.0 p.1)
  from_option false f = let e : 0 + n ≡ n = omega arith in rw e

-- ---- all pairs

module _ (s : Settings) (fine : SettingsFine s) where
  abbrev v : ℕ
  v = s.version

  -- what is read after each key
  abbrev one : Settings
  one = with_pair 1 s.largest (no_settings v)

  abbrev two : Settings
  two = cond s.timed (with_pair 2 s.interval one) one

  abbrev three : Settings
  three = cond s.paired (with_pair 3 s.partner two) two

  abbrev last_of : ℕ
  last_of = cond s.timed 2 1

  all_told : three ≡ s
  unfolding with_pair
  all_told = go s.timed s.paired fine.second fine.third
    where
      go : (a b : Bool) → option_refusal v a 2 s.interval ≡ 0 → option_refusal v b 3 s.partner ≡ 0
          → cond b (with_pair 3 s.partner (cond a (with_pair 2 s.interval one) one)) (cond a (with_pair 2 s.interval one) one)
          ≡ record { version = v; largest = s.largest; timed = a; interval = s.interval; paired = b; partner = s.partner }
      go true true e f = refl
      go true false e f = rw ((left_out_iff v 3 s.partner).0 f)
      go false true e f = rw ((left_out_iff v 2 s.interval).0 e)
      go false false e f = rw ((left_out_iff v 2 s.interval).0 e, (left_out_iff v 3 s.partner).0 f)

  below_three : last_of < 3
  below_three = go s.timed
    where
      go : (b : Bool) → cond b 2 1 < 3
      go true = omega arith
      go false = omega arith

  one_had : 1 ≤ highest_key v
  one_had = go (eqb v 1)
    where
      go : (b : Bool) → 1 ≤ cond b 2 3
      go true = omega arith
      go false = omega arith

  from_all : settings_from v 0 (no_settings v) (pair_count s)
      (pair_octets 1 s.largest ++ (option_octets s.timed 2 s.interval ++ option_octets s.paired 3 s.partner))
      ≡ Ok s
  from_all =
      let o2 = option_octets s.timed 2 s.interval in
      let o3 = option_octets s.paired 3 s.partner in
      let n2 = bit s.paired + 0 in
      let lastKey = cond s.paired 3 last_of in
      let e : pair_count s ≡ suc (bit s.timed + n2) = omega arith in
      let some : s.largest ≡ 0 → ⊥ = λ z. omega (arith, ((payload_iff s.largest).0 fine.first).0) in
      ap (λ (n : ℕ). settings_from v 0 (no_settings v) n (pair_octets 1 s.largest ++ (o2 ++ o3))) e
      ∙ from_pair v 0 (no_settings v) (bit s.timed + n2) 1 s.largest (o2 ++ o3) (omega arith) one_had fine.first
      ∙ from_option v 1 one n2 2 s.interval o3 (omega arith) s.timed fine.second
      ∙ ap (λ (l : List ℕ). settings_from v last_of two n2 l) (sym (append-nil o3))
      ∙ from_option v last_of two 0 3 s.partner [] below_three s.paired fine.third
      ∙ ap (λ (g : Settings). settings_from v lastKey g 0 []) all_told
      ∙ sym (end_taken v lastKey s [] (omega arith) some)

-- ---- the file, by every reader that knows its version

pub octets_read : (known : ℕ) (s : Settings) → settings_refusal s ≡ 0 → s.version ≤ known → read_settings known (settings_octets s) ≡ Ok s
unfolding settings_octets
octets_read known s ok h =
    let fine : SettingsFine s = settings_fine s ok in
    let k = (version_known_iff 2 s.version).0 fine.version in
    let c = pair_count s in
    let body = pair_octets 1 s.largest ++ (option_octets s.timed 2 s.interval ++ option_octets s.paired 3 s.partner) in
    let file = varint_octets s.version ++ (varint_octets c ++ body) in
    let sv : s.version < 2 ^ 64 = omega (arith, k.1.1) in
    let sc : c < 2 ^ 64 = omega (arith, bit_le s.timed, bit_le s.paired) in
    let ev : varint_value file ≡ s.version = value_written s.version _ sv in
    let ea : after_varint file ≡ varint_octets c ++ body = after_written s.version _ sv in
    let ec : varint_value (after_varint file) ≡ c = rw ea (value_written c body sc) in
    let eb : after_pair file ≡ body = rw ea (after_written c body sc) in
    let known_version : version_refusal known s.version ≡ 0 = (version_known_iff known s.version).1 (k.0, (h, k.1.1)) in
    pairs_next known file (rw (refusal_written s.version (varint_octets c ++ body) sv, ev) known_version) (rw ea (refusal_written c body sc))
    ∙ rw (ev, ec, eb) (from_all s fine)

-- what a writer leaves
pub reads_back : ReadsBack
unfolding settings_written settings_buffer
reads_back known s buffer n e h =
    let w = written_size (settings_write_refusal s (length buffer)) (length (settings_octets s)) n e in
    let r = writable s (length buffer) w.0 in
    rw (w.0, take_put n (settings_octets s) buffer w.1) (octets_read known s r.0 h)
