-- A test as a number.
-- Assumes nothing.
use Rattle.std.specs.Prelude.{ℕ, Bool, true, false}

-- 1 where it holds, and else 0
abbrev pub bit : Bool → ℕ
bit true = 1
bit false = 0
