-- R17.3 to R17.5 of a table: DATA for the pieces of a plan, recorded one after the other.
-- Assumes nothing.
use Rattle.std.specs.Prelude.{ℕ, suc, ◌≤◌, ◌≡◌, true, List, [], ◌∷◌, ◌↔◌, length, Ok}
use Rattle.std.proofs.Math.Option.{some}
use Rattle.octets.specs.Numbers.{Octets}
use Rattle.packet_data.specs.Data.{read_data}
use Rattle.packet_data.specs.declared.Data.{Data}
use Rattle.runs.specs.Runs.{Member}
use Rattle.runs.specs.Holes.{edge, holes, complete}
use Rattle.plan.specs.declared.Piece.{Piece}
use Rattle.plan_check.specs.GoodPlan.{GoodPlan}
use Rattle.transfer.specs.declared.Key.{Key}
use Rattle.transfer.specs.Transfers.{Transfer}
use Rattle.table.specs.Tables.{Valid, keys, find, runs_of, stamp_of}
use Rattle.table.specs.Record.{record_packet, record_accepted}
use Rattle.one_round.specs.Fills.{most_runs, whole}

-- two lists of the same length, element by element
abbrev pub Pairwise : {A B : Type 0} → (A → B → Type 0) → List A → List B → Type 0
Pairwise R [] [] = Unit
Pairwise R [] (y ∷ ys) = ⊥
Pairwise R (x ∷ xs) [] = ⊥
Pairwise R (x ∷ xs) (y ∷ ys) = R x y × Pairwise R xs ys

-- R17.2: what the packet of a piece reads as
pub record Carries (i width : ℕ) (p : Piece) (packet : List ℕ) : Type 0 where
  pub octets : Octets packet
  pub brought : Data
  pub read : read_data packet ≡ Ok brought
  pub id_is : brought.id ≡ i
  pub width_is : brought.width ≡ width
  pub no_timestamp : brought.timestamp ≡ 0
  pub no_eod : brought.eod ≡ 0
  pub offset_is : brought.offset ≡ p.offset
  pub length_is : brought.length ≡ p.length

-- R17.1: packets recorded one after the other: the table at the end, and that each is accepted
unfoldable pub record_all : List Transfer → List (List ℕ) → List Transfer
record_all t [] = t
record_all t (s ∷ ss) = record_all (record_packet t s).table ss

abbrev pub NoneRefused : List Transfer → List (List ℕ) → Type 0
NoneRefused t [] = Unit
NoneRefused t (s ∷ ss) = (record_accepted (record_packet t s).answer ≡ true) × NoneRefused (record_packet t s).table ss

-- R17.4, R17.5: the table t before a round for the Id i, which is open with the key k, and the table u after it
pub record Filled (t u : List Transfer) (i : ℕ) (k : Key) : Type 0 where
  pub valid : Valid u
  -- there is no hole, and the edge is what it was: one run holds all below it
  pub no_hole : holes (runs_of u i) ≡ []
  pub same_edge : edge (runs_of u i) ≡ edge (runs_of t i)
  pub one_run : runs_of u i ≡ whole (edge (runs_of t i))
  -- complete exactly when the edge is L; so where the last octet had come
  pub complete_iff : (complete k.length (runs_of u i) ≡ true) ↔ (edge (runs_of t i) ≡ k.length)
  pub complete_last : (last : ℕ) → suc last ≡ k.length → Member (runs_of t i) last → complete k.length (runs_of u i) ≡ true
  -- the same Ids are open, with their widths and lengths; every timestamp stays, and what the other Ids received
  pub same_keys : keys u ≡ keys t
  pub same_stamps : (j : ℕ) → stamp_of u j ≡ stamp_of t j
  pub others : (j : ℕ) → (i ≡ j → ⊥) → runs_of u j ≡ runs_of t j

pub record Round (t : List Transfer) (i : ℕ) (k : Key) (packets : List (List ℕ)) : Type 0 where
  pub none_refused : NoneRefused t packets
  pub filled : Filled t (record_all t packets) i k

-- packets for the pieces of any list that passes for a plan (R11.4), and not only for the planner's
abbrev pub GoodPlanRound : Type 0
GoodPlanRound = (t : List Transfer) (i : ℕ) (k : Key) (m : ℕ) (ps : List Piece) (packets : List (List ℕ))
    → Valid t → find i (keys t) ≡ some k → length (runs_of t i) ≤ most_runs → GoodPlan m (holes (runs_of t i)) ps
    → Pairwise (Carries i k.width) ps packets → Round t i k packets
