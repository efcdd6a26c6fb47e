-- R19.4: how far from an offset on, up to a stop, octets are alike: all received, or none.
-- Assumes nothing.
use Rattle.std.specs.Prelude.{ℕ, min, Bool, true, false, cond, List, [], ◌∷◌, leb}
use Rattle.runs.specs.Runs.{Run}
use Rattle.engine_stretch.specs.declared.Reach.{Reach}

-- the one place where a reach is made
abbrev pub reach : Bool → ℕ → Reach
reach received stop = record { received = received; stop = stop }

-- up to b, from a on, which is below it
unfoldable pub reach_from : List Run → ℕ → ℕ → Reach
reach_from [] a b = reach false b
reach_from (r ∷ rs) a b =
    let later = reach_from rs a b in
    cond (leb r.stop a) later (cond (leb r.start a) (reach true (min r.stop b)) (reach false (min r.start b)))
