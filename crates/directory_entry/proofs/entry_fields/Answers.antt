-- `directory_entry::entry_fields` meets its contract: an entry that is not refused is long enough for its fields. Assumes nothing.
use Prim.Native.Nat.{ℕ, ◌+◌, ◌<◌, ◌≤◌}
use mathlib.Core.Path.{◌≡◌, ap, ◌∙◌}
use lib.ListN.{length}
use Rattle.octets.specs.Numbers.{Width}
use Rattle.header.specs.Descriptor.{descriptor_refusal}
use Rattle.entry_parts.specs.Properties.{size_octets}
use Rattle.directory_entry.specs.Entry.{properties_of, entry_of}
use Rattle.directory_entry.proofs.EntryLaws.{entry_fine}
use Rattle.entry_parts.proofs.PropertyLaws.{size_width_lem, size_le}
use borrow.Author.Rules.{rules}
use native.Mathlib.Omega.{arith}
use Rattle.directory_entry.proofs.entry_fields.Goals as goal

pub read_two-properties-requires : goal.read_two-properties-requires
read_two-properties-requires c =
    omega (arith, (entry_fine c.args.d c.args.e.now c.requires.0).long)

pub descriptor-requires : goal.descriptor-requires
descriptor-requires c =
    let known : (c.size_octets-k.result ≡ size_octets (properties_of c.args.e.now)) × Width c.size_octets-k.result × (c.size_octets-k.result ≤ 16) × (10 + c.size_octets-k.result < length c.args.e.now) × (descriptor_refusal c.size_octets-k.result 2 c.args.e.now ≡ 0) = let f = entry_fine c.args.d c.args.e.now c.requires.0 in let k : c.size_octets-k.result ≡ size_octets (properties_of c.args.e.now) = c.size_octets-k.ensures ∙ ap (λ (x : ℕ). size_octets x) c.read_two-properties.ensures in let x = properties_of c.args.e.now in (k, rw k (size_width_lem x), omega (arith, size_le x), omega (arith, f.long), rw k f.size) in
    (known.1, known.4)

pub read_four-requires : goal.read_four-requires
read_four-requires c =
    let known : (c.size_octets-k.result ≡ size_octets (properties_of c.args.e.now)) × Width c.size_octets-k.result × (c.size_octets-k.result ≤ 16) × (10 + c.size_octets-k.result < length c.args.e.now) × (descriptor_refusal c.size_octets-k.result 2 c.args.e.now ≡ 0) = let f = entry_fine c.args.d c.args.e.now c.requires.0 in let k : c.size_octets-k.result ≡ size_octets (properties_of c.args.e.now) = c.size_octets-k.ensures ∙ ap (λ (x : ℕ). size_octets x) c.read_two-properties.ensures in let x = properties_of c.args.e.now in (k, rw k (size_width_lem x), omega (arith, size_le x), omega (arith, f.long), rw k f.size) in
    omega (arith, known)

pub read_four-requires-2 : goal.read_four-requires-2
read_four-requires-2 c =
    let known : (c.size_octets-k.result ≡ size_octets (properties_of c.args.e.now)) × Width c.size_octets-k.result × (c.size_octets-k.result ≤ 16) × (10 + c.size_octets-k.result < length c.args.e.now) × (descriptor_refusal c.size_octets-k.result 2 c.args.e.now ≡ 0) = let f = entry_fine c.args.d c.args.e.now c.requires.0 in let k : c.size_octets-k.result ≡ size_octets (properties_of c.args.e.now) = c.size_octets-k.ensures ∙ ap (λ (x : ℕ). size_octets x) c.read_two-properties.ensures in let x = properties_of c.args.e.now in (k, rw k (size_width_lem x), omega (arith, size_le x), omega (arith, f.long), rw k f.size) in
    omega (arith, known)

pub overflow_sub-result : goal.overflow_sub-result
overflow_sub-result c =
    let known : (c.size_octets-k.result ≡ size_octets (properties_of c.args.e.now)) × Width c.size_octets-k.result × (c.size_octets-k.result ≤ 16) × (10 + c.size_octets-k.result < length c.args.e.now) × (descriptor_refusal c.size_octets-k.result 2 c.args.e.now ≡ 0) = let f = entry_fine c.args.d c.args.e.now c.requires.0 in let k : c.size_octets-k.result ≡ size_octets (properties_of c.args.e.now) = c.size_octets-k.ensures ∙ ap (λ (x : ℕ). size_octets x) c.read_two-properties.ensures in let x = properties_of c.args.e.now in (k, rw k (size_width_lem x), omega (arith, size_le x), omega (arith, f.long), rw k f.size) in
    omega (arith, known)

pub overflow_sub-result-2 : goal.overflow_sub-result-2
overflow_sub-result-2 c =
    let known : (c.size_octets-k.result ≡ size_octets (properties_of c.args.e.now)) × Width c.size_octets-k.result × (c.size_octets-k.result ≤ 16) × (10 + c.size_octets-k.result < length c.args.e.now) × (descriptor_refusal c.size_octets-k.result 2 c.args.e.now ≡ 0) = let f = entry_fine c.args.d c.args.e.now c.requires.0 in let k : c.size_octets-k.result ≡ size_octets (properties_of c.args.e.now) = c.size_octets-k.ensures ∙ ap (λ (x : ℕ). size_octets x) c.read_two-properties.ensures in let x = properties_of c.args.e.now in (k, rw k (size_width_lem x), omega (arith, size_le x), omega (arith, f.long), rw k f.size) in
    omega (arith, known)

pub returns : goal.returns
unfolding entry_of
returns c =
    let known : (c.size_octets-k.result ≡ size_octets (properties_of c.args.e.now)) × Width c.size_octets-k.result × (c.size_octets-k.result ≤ 16) × (10 + c.size_octets-k.result < length c.args.e.now) × (descriptor_refusal c.size_octets-k.result 2 c.args.e.now ≡ 0) = let f = entry_fine c.args.d c.args.e.now c.requires.0 in let k : c.size_octets-k.result ≡ size_octets (properties_of c.args.e.now) = c.size_octets-k.ensures ∙ ap (λ (x : ℕ). size_octets x) c.read_two-properties.ensures in let x = properties_of c.args.e.now in (k, rw k (size_width_lem x), omega (arith, size_le x), omega (arith, f.long), rw k f.size) in
    simp (c.descriptor.ensures, c.read_four.ensures, c.read_four-2.ensures, known.0, c.read_two-properties.ensures)
