-- `directory_entry::put_entry` meets its contract: the parts stand one after the other. Assumes nothing.
use Prim.Native.Nat.{◌+◌}
use mathlib.Core.Path.{◌≡◌, refl}
use mathlib.Core.List.{[], ◌∷◌}
use lib.ListN.{length}
use Rattle.octets.specs.Numbers.{be_digits}
use Rattle.octets.proofs.NumberLaws.{length_digits}
use Rattle.entry_parts.specs.Properties.{size_octets}
use Rattle.directory_entry.specs.WriteEntry.{entry_octets}
use Rattle.directory_entry.proofs.EntryLaws.{puts}
use borrow.Author.Rules.{rules}
use native.Mathlib.Omega.{arith}
use Rattle.directory_entry.proofs.put_entry.Goals as goal

pub returns : goal.returns
unfolding entry_octets
returns c =
    let a = c.args in
    let k = size_octets a.properties in
    let p = a.path.now in
    let l : length (be_digits k a.size) ≡ k = length_digits k a.size in
    rw (c.write_number-5.ensures, c.copy_into.ensures, c.write_number-4.ensures, c.write_number-3.ensures, c.write_number-2.ensures, c.write_number.ensures, c.size_octets-k.ensures)
    (puts (be_digits 2 a.properties) (be_digits k a.size) (be_digits 4 a.mtime) (be_digits 4 a.ctime) p (0 ∷ []) a.out.now a.at (a.at + 2) (a.at + 2 + k) (a.at + 2 + k + 4) (a.at + 2 + k + 8) (a.at + 2 + k + 8 + length p) refl (omega arith) (omega arith) (omega arith) refl (omega arith))
