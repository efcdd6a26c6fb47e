-- R6.1: the transfer table, looking an Id up in it, and a table with one transfer more, changed or less.
-- Assumes nothing.
use Rattle.std.specs.Prelude.{ℕ, suc, ◌≤◌, cond, List, [], ◌∷◌, length, ltb, eqb}
use Rattle.std.proofs.Math.Option.{Option, none, some}
use Rattle.runs.specs.Runs.{Run}
use Rattle.transfer.specs.declared.Key.{Key}
use Rattle.transfer.specs.Transfers.{Transfer, TransferFine, empty, with_received}

-- the Ids rise, and the first is at least k
abbrev pub FineFrom : ℕ → List Transfer → Type 0
FineFrom k [] = Unit
FineFrom k (x ∷ t) = (k ≤ x.key.id) × TransferFine x × FineFrom (suc x.key.id) t

-- R6.1, R6.2: at most 16 transfers. Rising by Id makes the list the map itself: one list for each map
pub record Valid (t : List Transfer) : Type 0 where
  pub few : length t ≤ 16
  pub fine : FineFrom 0 t

-- what is open, with widths and lengths
unfoldable pub keys : List Transfer → List Key
keys [] = []
keys (x ∷ t) = x.key ∷ keys t

unfoldable pub find : ℕ → List Key → Option Key
find i [] = none
find i (k ∷ ks) = let rest = find i ks in cond (eqb k.id i) (some k) rest

-- the received offsets of an Id; none where it is not open
unfoldable pub runs_of : List Transfer → ℕ → List Run
runs_of [] i = []
runs_of (x ∷ t) i = let rest = runs_of t i in cond (eqb x.key.id i) x.runs rest

-- the timestamp that is kept for an Id; none where it is not open
unfoldable pub stamp_of : List Transfer → ℕ → List ℕ
stamp_of [] i = []
stamp_of (x ∷ t) i = let rest = stamp_of t i in cond (eqb x.key.id i) x.stamp rest

-- a new transfer, in the order of the Ids
unfoldable pub add : Key → List Transfer → List Transfer
add k [] = empty k ∷ []
add k (x ∷ t) = let later = x ∷ add k t in cond (ltb k.id x.key.id) (empty k ∷ x ∷ t) later

-- other runs for an Id, and the timestamp s where the packet brings one
unfoldable pub set_runs : ℕ → List Run → List ℕ → List Transfer → List Transfer
set_runs i rs s [] = []
set_runs i rs s (x ∷ t) =
    let later = x ∷ set_runs i rs s t in
    cond (eqb x.key.id i) (with_received x rs s ∷ t) later

-- without an Id
unfoldable pub remove : ℕ → List Transfer → List Transfer
remove i [] = []
remove i (x ∷ t) = let later = x ∷ remove i t in cond (eqb x.key.id i) t later
