-- `engine_digest::digest_of` meets its contract: what is read are the two halves of the MD5. Assumes nothing.
use Prim.Native.Nat.{ℕ}
use mathlib.Core.List.{List}
use mathlib.Core.Path.{◌≡◌}
use lib.ListN.{take, drop}
use native.Mathlib.Omega.{arith}
use Rattle.octets.specs.Numbers.{le_value}
use Rattle.md5_blocks.specs.Md5.{md5}
use Rattle.engine_slots.specs.declared.Digest.{Digest}
use Rattle.engine_model.specs.Meetings.{digest_of}
use Rattle.engine_digest.proofs.DigestLaws.{digested}
use Rattle.engine_digest.proofs.digest_of.Goals as goal

halves : (d out : List ℕ) → out ≡ d → (x y : ℕ) → x ≡ le_value (take 8 (drop 0 out)) → y ≡ le_value (take 8 (drop 8 out))
    → ◌≡◌ {A = Digest} (record { first = x; second = y }) (record { first = le_value (take 8 d); second = le_value (take 8 (drop 8 d)) })
halves d out e x y f g = rw (f, g, e)

pub returns : goal.returns
unfolding digest_of
returns c =
    let p = c.args.packet.now in
    let e : c.end.new.out ≡ md5 p =
    digested _ p c.begin.new.state c.add.new.state c.end.new.out (omega arith) c.begin.ensures.1 c.add.ensures.1 c.end.ensures.1 in
    halves (md5 p) c.end.new.out e c.read_low_eight.result c.read_low_eight-2.result c.read_low_eight.ensures c.read_low_eight-2.ensures
