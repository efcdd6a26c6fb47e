-- A buffer of which one part was written, every octet of it.
-- Assumes nothing.
use Rattle.std.specs.Prelude.{ℕ, ◌+◌, List, ◌++◌, length, take, drop}

-- the list l with bs from the place at on; what stands before and after stays
unfoldable pub put : ℕ → List ℕ → List ℕ → List ℕ
put at bs l = take at l ++ (bs ++ drop (at + length bs) l)
