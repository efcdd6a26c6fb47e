-- How many octets the parts of a file have, and the parts put one after the other.
-- Assumes nothing.
use Prim.Native.Nat.{ℕ, ◌+◌, ◌≤◌}
use mathlib.Core.Path.{◌≡◌, sym}
use mathlib.Core.Bool.{Bool, true, false}
use mathlib.Core.List.{List, ◌++◌, append_assoc}
use native.Mathlib.Omega.{arith}
use lib.ListN.{length, length-append}
use borrow.Author.Tests.{ltb-false}
use Rattle.octets.specs.Put.{put}
use Rattle.octets.proofs.PutLaws.{put_next}
use Rattle.refusals.proofs.RefusalLaws.{first_none, rest_none, failed}
use Rattle.varint.specs.Varint.{varint_octets}
use Rattle.varint.proofs.WrittenLaws.{octets_most}
use Rattle.settings.specs.declared.Settings.{Settings}
use Rattle.settings_writer.specs.WriteSettings.{pair_octets, option_octets, pair_count, settings_octets, settings_refusal, settings_write_refusal}

pub pair_most : (key value : ℕ) → length (pair_octets key value) ≤ 20
pair_most key value =
    omega (arith, length-append (varint_octets key) (varint_octets value), octets_most key, octets_most value)

pub option_most : (given : Bool) (key value : ℕ) → length (option_octets given key value) ≤ 20
option_most true key value = pair_most key value
option_most false key value = omega arith

five_length : (v k p t q : List ℕ) → length (v ++ (k ++ (p ++ (t ++ q)))) ≡ length v + (length k + (length p + (length t + length q)))
five_length v k p t q = simp length-append

pub settings_length : (s : Settings) → length (settings_octets s)
    ≡ length (varint_octets s.version)
    + (length (varint_octets (pair_count s))
    + (length (pair_octets 1 s.largest) + (length (option_octets s.timed 2 s.interval) + length (option_octets s.paired 3 s.partner))))
unfolding settings_octets
settings_length s =
    five_length (varint_octets s.version) (varint_octets (pair_count s)) (pair_octets 1 s.largest) (option_octets s.timed 2 s.interval)
    (option_octets s.paired 3 s.partner)

-- of any settings; those that a file holds need far fewer (settings_theorems: AcceptedLaws)
pub settings_below : (s : Settings) → length (settings_octets s) ≤ 80
settings_below s =
    omega (
      arith,
      settings_length s,
      octets_most s.version,
      octets_most (pair_count s),
      pair_most 1 s.largest,
      option_most s.timed 2 s.interval,
      option_most s.paired 3 s.partner,
    )

-- two parts, put one after the other
pub put_two : (at n : ℕ) (a b old : List ℕ) → n ≡ at + length a → at + length (a ++ b) ≤ length old → put n b (put at a old) ≡ put at (a ++ b) old
put_two at n a b old e h = put_next at n a b old (sym e) (omega (arith, length-append a b))

-- and the five of a file
pub put_five : (v k p t q old : List ℕ) (a b c d : ℕ) → a ≡ 0 + length v → b ≡ a + length k → c ≡ b + length p → d ≡ c + length t
    → length v + (length k + (length p + (length t + length q))) ≤ length old
    → put d q (put c t (put b p (put a k (put 0 v old)))) ≡ put 0 (v ++ (k ++ (p ++ (t ++ q)))) old
put_five v k p t q old a b c d ea eb ec ed h =
    let vk = v ++ k in
    let vkp = vk ++ p in
    let vkpt = vkp ++ t in
    let l2 : length vk ≡ length v + length k = length-append v k in
    let l3 : length vkp ≡ length vk + length p = length-append vk p in
    let l4 : length vkpt ≡ length vkp + length t = length-append vkp t in
    rw (
      put_next 0 a v k old (omega arith) (omega arith),
      put_next 0 b vk p old (omega arith) (omega arith),
      put_next 0 c vkp t old (omega arith) (omega arith),
      put_next 0 d vkpt q old (omega arith) (omega arith),
    )
    (simp append_assoc)

-- settings that are not refused, in a buffer with room
pub writable : (s : Settings) (room : ℕ) → settings_write_refusal s room ≡ 0 → (settings_refusal s ≡ 0) × (length (settings_octets s) ≤ room)
unfolding settings_write_refusal
writable s room e = (first_none (settings_refusal s) _ e, ltb-false _ _ (failed _ 19 (rest_none (settings_refusal s) _ e)))
