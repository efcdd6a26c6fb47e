-- R15.1, R15.3: what an accepted merge must leave, and what it must tell.
-- Assumes nothing.
use Rattle.std.specs.Prelude.{ℕ, suc, ◌≤◌, ◌<◌, ◌≡◌, true, List, ◌⊎◌, ◌↔◌}
use Rattle.std.proofs.Math.Option.{some}
use Rattle.runs.specs.Runs.{Member}
use Rattle.runs.specs.Holes.{holes, InHole}
use Rattle.transfer.specs.declared.Key.{Key}
use Rattle.transfer.specs.declared.Reached.{Reached}
use Rattle.transfer.specs.Transfers.{Transfer}
use Rattle.table.specs.Tables.{keys, find, runs_of, stamp_of}

-- the offset o was received by either for the Id
abbrev pub Either : List Transfer → List Transfer → ℕ → ℕ → Type 0
Either t u id o = Member (runs_of t id) o ⊎ Member (runs_of u id) o

-- the Id of the second table, u, was merged into the first, t, which became v; x was answered
pub record Merging (t u v : List Transfer) (id : ℕ) (x : Reached) : Type 0 where
  -- R15.2: the Id was open in both, with one width and one length
  pub key : Key
  pub first : find id (keys t) ≡ some key
  pub second : find id (keys u) ≡ some key
  -- R15.1: exactly what either received is received
  pub received : (o : ℕ) → Member (runs_of v id) o ↔ Either t u id o
  -- R15.1: the same Ids are open with the same widths and lengths, and every timestamp stays
  pub same_keys : keys v ≡ keys t
  pub same_stamps : (i : ℕ) → stamp_of v i ≡ stamp_of t i
  -- R15.1: what was received for any other Id stays
  pub same_runs : (i : ℕ) → (id ≡ i → ⊥) → runs_of v i ≡ runs_of t i
  -- R15.3: complete exactly when each offset of the length was received by either
  pub complete_iff : (x.complete ≡ true) ↔ ((o : ℕ) → o < key.length → Either t u id o)
  -- the edge is above the highest offset that either received, and 0 where there is none
  pub edge_iff : (o : ℕ) → (x.edge ≡ suc o) ↔ (Either t u id o × ((p : ℕ) → Either t u id p → p ≤ o))
  pub edge_none : (x.edge ≡ 0) ↔ ((o : ℕ) → Either t u id o → ⊥)
  -- the holes are the offsets below the edge that neither received
  pub hole_iff : (o : ℕ) → InHole (holes (runs_of v id)) o ↔ ((o < x.edge) × (Either t u id o → ⊥))
