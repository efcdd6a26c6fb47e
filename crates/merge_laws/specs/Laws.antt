-- R15.5 to R15.8: merging in either order, merging what is there already, three areas in either grouping, and a packet before a merge or
-- after it.
-- Assumes nothing.
use Rattle.std.specs.Prelude.{ℕ, ◌≡◌, true, List, [], Ok}
use Rattle.std.proofs.Math.Option.{some}
use Rattle.octets.specs.Numbers.{Octets}
use Rattle.runs.specs.Runs.{Run}
use Rattle.transfer.specs.declared.Key.{Key}
use Rattle.transfer.specs.declared.Reached.{Reached}
use Rattle.transfer.specs.declared.Receipt.{Receipt}
use Rattle.transfer.specs.Transfers.{Transfer, reached}
use Rattle.table.specs.Tables.{keys, find, runs_of}
use Rattle.table.specs.Record.{record_accepted}
use Rattle.table_merge.specs.Merge.{merge_accepted}
use Rattle.area.specs.Judge.{table_of}
use Rattle.area.specs.Operations.{from_table, record_area}
use Rattle.area_merge.specs.Merge.{merge_area}
use Rattle.any_order.specs.Order.{Packet, id_in}

-- what an area has received for an Id, as its one list of runs; none where it holds no table, or the Id is not open in it
unfoldable pub received : List ℕ → ℕ → List Run
received a id = from_table [] (λ t. runs_of t id) a

-- ---- R15.5: either order

pub record EitherOrder (a b : List ℕ) (id : ℕ) : Type 0 where
  -- refused alike, with one number and one code; or accepted, with one edge and one completeness
  pub same_answer : (merge_area a b id).answer ≡ (merge_area b a id).answer
  -- and accepted, with the same octets received for the Id
  pub same_received : merge_accepted (merge_area a b id).answer ≡ true → received (merge_area a b id).area id ≡ received (merge_area b a id).area id

abbrev pub MergeEitherOrder : Type 0
MergeEitherOrder = (a b : List ℕ) (id : ℕ) → EitherOrder a b id

-- ---- R15.6: with itself

-- both areas hold tables, with one width, one length and one received set for the Id, or with the Id not open in either. The timestamps may
-- differ
pub record SameRecord (a b : List ℕ) (id : ℕ) : Type 0 where
  pub first : List Transfer
  pub second : List Transfer
  pub first_held : table_of a ≡ some first
  pub second_held : table_of b ≡ some second
  pub same_key : find id (keys second) ≡ find id (keys first)
  pub same_runs : runs_of second id ≡ runs_of first id

pub record WithItself (a b : List ℕ) (id : ℕ) (s : SameRecord a b id) : Type 0 where
  -- no octet of the area changes
  pub area_stays : (merge_area a b id).area ≡ a
  -- and where the Id is open it is accepted
  pub taken : (k : Key) → find id (keys s.first) ≡ some k → (merge_area a b id).answer ≡ Ok (reached k (runs_of s.first id))

abbrev pub MergeWithItself : Type 0
MergeWithItself = (a b : List ℕ) (id : ℕ) → Octets a → (s : SameRecord a b id) → WithItself a b id s

-- ---- R15.7: three areas, grouped either way

-- c merged into what merging b into a leaves, and what merging c into b leaves merged into a
abbrev pub left_first : List ℕ → List ℕ → List ℕ → ℕ → List ℕ
left_first a b c id = (merge_area (merge_area a b id).area c id).area

abbrev pub right_first : List ℕ → List ℕ → List ℕ → ℕ → List ℕ
right_first a b c id = (merge_area a (merge_area b c id).area id).area

pub record EitherGrouping (a b c : List ℕ) (id : ℕ) : Type 0 where
  -- the last steps are answered alike
  pub same_answer : (merge_area (merge_area a b id).area c id).answer ≡ (merge_area a (merge_area b c id).area id).answer
  -- and accepted they leave the same octets received for the Id, and the same table
  pub same_received : merge_accepted (merge_area (merge_area a b id).area c id).answer ≡ true → received (left_first a b c id) id ≡ received (right_first a b c id) id
  pub same_table : merge_accepted (merge_area (merge_area a b id).area c id).answer ≡ true → table_of (left_first a b c id) ≡ table_of (right_first a b c id)

-- neither first step is refused: one of them may be, for room alone, where the other is not
abbrev pub MergeEitherGrouping : Type 0
MergeEitherGrouping = (a b c : List ℕ) (id : ℕ) → merge_accepted (merge_area a b id).answer ≡ true → merge_accepted (merge_area b c id).answer ≡ true
    → EitherGrouping a b c id

-- ---- R15.8: a packet recorded on the first area before the merge, and after it

abbrev pub recorded_before : List ℕ → List ℕ → ℕ → Packet → List ℕ
recorded_before a b id p = (merge_area (record_area a p.octets).area b id).area

abbrev pub recorded_after : List ℕ → List ℕ → ℕ → Packet → List ℕ
recorded_after a b id p = (record_area (merge_area a b id).area p.octets).area

-- no step of either order is refused
pub record NoneRefused (a b : List ℕ) (id : ℕ) (p : Packet) : Type 0 where
  pub recorded_first : record_accepted (record_area a p.octets).answer ≡ true
  pub merged_then : merge_accepted (merge_area (record_area a p.octets).area b id).answer ≡ true
  pub merged_first : merge_accepted (merge_area a b id).answer ≡ true
  pub recorded_then : record_accepted (record_area (merge_area a b id).area p.octets).answer ≡ true

pub record BeforeOrAfter (a b : List ℕ) (id : ℕ) (p : Packet) : Type 0 where
  -- the same octets received for the Id, and the same table
  pub same_received : received (recorded_before a b id p) id ≡ received (recorded_after a b id p) id
  pub same_table : table_of (recorded_before a b id p) ≡ table_of (recorded_after a b id p)
  -- and where the packet has the Id, the last answers tell of one edge and one completeness
  pub same_reached : id_in p ≡ id → (x : Reached) (y : Receipt) → (merge_area (record_area a p.octets).area b id).answer ≡ Ok x
      → (record_area (merge_area a b id).area p.octets).answer ≡ Ok y → x ≡ y.reached

abbrev pub MergeBeforeOrAfter : Type 0
MergeBeforeOrAfter = (a b : List ℕ) (id : ℕ) (p : Packet) → NoneRefused a b id p → BeforeOrAfter a b id p
