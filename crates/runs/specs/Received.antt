-- R5.10: how many offsets were received: the sum of the runs' lengths. And counted one by one, which a law says is the same.
-- Assumes nothing.
use Rattle.std.specs.Prelude.{ℕ, zero, suc, ◌+◌, ◌-◌, cond, List, [], ◌∷◌}
use Rattle.runs.specs.Runs.{Run, contains}

unfoldable pub received : List Run → ℕ
received [] = 0
received (r ∷ rs) = (r.stop - r.start) + received rs

-- how many of the offsets below n are members
unfoldable pub members_below : ℕ → List Run → ℕ
members_below zero rs = 0
members_below (suc n) rs =
    let rest = members_below n rs in
    cond (contains rs n) (suc rest) rest
