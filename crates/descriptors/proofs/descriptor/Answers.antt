-- `descriptors::descriptor` meets its contract: each width by itself; of 16 octets the upper ones are zero. Assumes nothing.
use Prim.Native.Nat.{◌+◌, ◌≤◌}
use mathlib.Core.Path.{◌≡◌, sym, ◌∙◌}
use lib.ListN.{length}
use native.Mathlib.Omega.{arith}
use Rattle.octets.proofs.NumberLaws.{width_wide}
use Rattle.header.specs.Descriptor.{descriptor_refusal}
use Rattle.header.proofs.DescriptorLaws.{descriptor_there, descriptor_wide}
use Rattle.descriptors.proofs.descriptor.Goals as goal

pub read_two-requires : goal.read_two-requires
read_two-requires c =
    let there : c.args.at + c.args.d ≤ length c.args.s.now = descriptor_there c.args.d c.args.at c.args.s.now c.requires.1 in
    omega (arith, there)

pub read_four-requires : goal.read_four-requires
read_four-requires c =
    let there : c.args.at + c.args.d ≤ length c.args.s.now = descriptor_there c.args.d c.args.at c.args.s.now c.requires.1 in
    omega (arith, there)

pub read_eight-requires : goal.read_eight-requires
read_eight-requires c =
    let there : c.args.at + c.args.d ≤ length c.args.s.now = descriptor_there c.args.d c.args.at c.args.s.now c.requires.1 in
    omega (arith, there)

pub overflow_add-at : goal.overflow_add-at
overflow_add-at c =
    let there : c.args.at + c.args.d ≤ length c.args.s.now = descriptor_there c.args.d c.args.at c.args.s.now c.requires.1 in
    let sixteen : c.args.d ≡ 16 = width_wide c.requires.0 (λ e. omega arith) (λ e. omega arith) (λ e. omega arith) in
    omega (arith, there, sixteen)

pub read_eight-requires-2 : goal.read_eight-requires-2
read_eight-requires-2 c =
    let there : c.args.at + c.args.d ≤ length c.args.s.now = descriptor_there c.args.d c.args.at c.args.s.now c.requires.1 in
    let sixteen : c.args.d ≡ 16 = width_wide c.requires.0 (λ e. omega arith) (λ e. omega arith) (λ e. omega arith) in
    omega (arith, there, sixteen)

pub returns : goal.returns
returns c =
    let sixteen : c.args.d ≡ 16 = width_wide c.requires.0 (λ e. omega arith) (λ e. omega arith) (λ e. omega arith) in
    let a = c.args in
    let s = a.s.now in
    let e : a.d ≡ 16 = sixteen in
    let p : descriptor_refusal 16 a.at s ≡ 0 = rw e at c.requires.1 in
    c.read_eight-2.ensures ∙ sym (rw e (descriptor_wide a.at s p))
