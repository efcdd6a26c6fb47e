-- `settings_writer::put_settings` meets its contract: the parts stand one after the other. Assumes nothing.
use Prim.Native.Nat.{ℕ, ◌+◌}
use mathlib.Core.Path.{◌≡◌, ap, ◌∙◌}
use lib.ListN.{length}
use native.Mathlib.Omega.{arith}
use Rattle.varint.specs.Varint.{varint_octets}
use Rattle.settings_writer.specs.WriteSettings.{pair_octets, option_octets, pair_count, settings_octets}
use Rattle.settings_writer.proofs.WritingLaws.{settings_length, put_five}
use Rattle.settings_writer.proofs.put_settings.Goals as goal

pub returns : goal.returns
unfolding settings_octets
returns c =
    let second : c.write-first.result ≡ c.write-count.result + length (varint_octets (pair_count c.args.s)) = c.write-first.ensures.0 ∙ ap (λ (n : ℕ). c.write-count.result + length (varint_octets n)) c.pair_count.ensures in
    let s = c.args.s in
    let l = settings_length s in
    let e = second in (
      omega (arith, l, e),
      rw (
        c.put_option.ensures.1,
        c.put_option-third.ensures.1,
        c.put_pair-second.ensures.1,
        c.write-first.ensures.1,
        c.write-count.ensures.1,
        c.pair_count.ensures,
      )
          (put_five (varint_octets s.version) (varint_octets (pair_count s)) (pair_octets 1 s.largest) (option_octets s.timed 2 s.interval) (option_octets s.paired 3 s.partner)
          c.args.out.now _ _ _ _ c.write-count.ensures.0 e c.put_pair-second.ensures.0 c.put_option-third.ensures.0 (omega arith)),
    )
