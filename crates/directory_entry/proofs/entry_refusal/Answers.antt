-- `directory_entry::entry_refusal` meets its contract: the size is read in the width that the properties name.
-- Assumes nothing.
use mathlib.Core.Path.{◌≡◌, sym, ap, ◌∙◌}
use Prim.Native.Nat.{ℕ, ◌≤◌}
use Rattle.entry_parts.proofs.PropertyLaws.{size_width_lem, size_le}
use borrow.Author.Rules.{rules}
use native.Mathlib.Omega.{arith}
use Rattle.directory_entry.proofs.entry_refusal.Goals as goal

pub descriptor_refusal-requires : goal.descriptor_refusal-requires
descriptor_refusal-requires c =
    (rw c.size_octets-k.ensures (size_width_lem c.read_two-x.result), omega (arith, c.size_octets-k.ensures, size_le c.read_two-x.result))

pub descriptor-requires : goal.descriptor-requires
descriptor-requires c =
    (rw c.size_octets-k.ensures (size_width_lem c.read_two-x.result), search rules)
