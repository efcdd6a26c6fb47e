-- What an operation on a table gives: an answer, and the table after it.
-- Assumes nothing.
use Rattle.std.specs.Prelude.{List}
use Rattle.transfer.specs.Transfers.{Transfer}

pub record Outcome (A : Type 0) : Type 0 where
  pub answer : A
  pub table : List Transfer
