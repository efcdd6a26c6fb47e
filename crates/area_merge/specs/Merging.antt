-- R15.1, R15.3: what an accepted merge must leave of the first area, and what it must tell.
-- Assumes nothing.
use Rattle.std.specs.Prelude.{ℕ, ◌≡◌, List}
use Rattle.std.proofs.Math.Option.{some}
use Rattle.transfer.specs.declared.Reached.{Reached}
use Rattle.transfer.specs.Transfers.{Transfer}
use Rattle.table_merge.specs.Merging.{Merging}
use Rattle.area.specs.Judge.{table_of}

-- the Id of the second area, b, was merged into the first, a, which became c; x was answered
pub record AreaMerging (a b c : List ℕ) (id : ℕ) (x : Reached) : Type 0 where
  pub first : List Transfer
  pub second : List Transfer
  pub after : List Transfer
  pub first_held : table_of a ≡ some first
  pub second_held : table_of b ≡ some second
  pub after_held : table_of c ≡ some after
  pub merging : Merging first second after id x
