-- What is looked up in a snapshot: open or not, complete, alike in another; and after a slot was changed.
-- Assumes nothing.
use Prim.Native.Nat.{ℕ, ◌≤◌, ◌<◌}
use mathlib.Core.Path.{◌≡◌, refl, sym, ap, ◌∙◌}
use mathlib.Core.Bool.{Bool, true, false, true≢false, false≢true}
use mathlib.Core.Logic.{◌⊎◌, ⊎_elim}
use mathlib.Core.Option.{Option, none, some}
use native.Mathlib.Omega.{arith}
use lib.ListN.{length, length-set}
use lib.Seq.{get_or-set_same, get_or-set_other}
use Rattle.runs.specs.Runs.{Member, Canonical}
use Rattle.runs.specs.Holes.{complete}
use Rattle.runs.proofs.CompareLaws.{le_or_lt}
use Rattle.runs.proofs.CompleteLaws.{complete_iff}
use Rattle.transfer.specs.declared.Key.{Key}
use Rattle.table.specs.Tables.{Valid}
use Rattle.table.proofs.TableLaws.{runs_none}
use Rattle.table.proofs.FineLaws.{runs_canonical}
use Rattle.table.proofs.ValidLaws.{fresh_valid}
use Rattle.area.specs.Places.{place_of}
use Rattle.engine_slots.specs.declared.Slot.{Slot}
use Rattle.engine_slots.specs.Slots.{no_slot}
use Rattle.engine_model.specs.Snapshots.{Snapshot, empty_snapshot, is_some, key_in, is_open, slot_of, received, complete_of, is_complete, with_slot}
use Rattle.engine_model.proofs.PlaceLaws.{place_inside, place_below}

-- a table as it should be, and a slot for each of its transfers
pub record Fit (s : Snapshot) : Type 0 where
  pub valid : Valid s.table
  pub paired : length s.slots ≡ length s.table

-- u has of the Id j what s has of it: open or not, with the same key, received offsets and slot
pub record Alike (s u : Snapshot) (j : ℕ) : Type 0 where
  pub key : key_in u j ≡ key_in s j
  pub runs : received u j ≡ received s j
  pub slot : is_open s j ≡ true → slot_of u j ≡ slot_of s j

-- where the slot of an Id stands
abbrev pub place : Snapshot → ℕ → ℕ
place s i = place_of i s.table

pub fit_empty : Fit empty_snapshot
fit_empty = record { valid = fresh_valid; paired = refl }

-- ---- open or not

pub open_key_lem : (s : Snapshot) (i : ℕ) → is_open s i ≡ true → (k : Key) × (key_in s i ≡ some k)
unfolding is_open
open_key_lem s i e = go (key_in s i) refl e
  where
    go : (o : Option Key) → key_in s i ≡ o → is_some o ≡ true → (k : Key) × (key_in s i ≡ some k)
    go none q z = absurd (false≢true z)
    go (some k) q z = (k, q)

pub key_open : (s : Snapshot) (i : ℕ) (k : Key) → key_in s i ≡ some k → is_open s i ≡ true
unfolding is_open
key_open s i k e = ap (λ (o : Option Key). is_some o) e

pub shut_key : (s : Snapshot) (i : ℕ) → is_open s i ≡ false → key_in s i ≡ none
unfolding is_open
shut_key s i e = go (key_in s i) refl e
  where
    go : (o : Option Key) → key_in s i ≡ o → is_some o ≡ false → key_in s i ≡ none
    go none q z = q
    go (some k) q z = absurd (true≢false z)

pub key_shut : (s : Snapshot) (i : ℕ) → key_in s i ≡ none → is_open s i ≡ false
unfolding is_open
key_shut s i e = ap (λ (o : Option Key). is_some o) e

pub member_open : (s : Snapshot) (i o : ℕ) → Member (received s i) o → is_open s i ≡ true
member_open s i o m = go (is_open s i) refl
  where
    go : (b : Bool) → is_open s i ≡ b → is_open s i ≡ true
    go true e = e
    go false e = absurd (rw (runs_none i s.table (shut_key s i e)) at m)

pub received_canonical : (s : Snapshot) (i : ℕ) → Fit s → Canonical (received s i)
received_canonical s i f = runs_canonical i s.table f.valid

-- ---- complete

pub complete_open : (s : Snapshot) (i : ℕ) → is_complete s i ≡ true → is_open s i ≡ true
unfolding is_complete complete_of
complete_open s i e = go (key_in s i) refl e
  where
    go : (o : Option Key) → key_in s i ≡ o → complete_of o (received s i) ≡ true → is_open s i ≡ true
    go none q z = absurd (false≢true z)
    go (some k) q z = key_open s i k q

pub complete_member : (s : Snapshot) (i : ℕ) (k : Key) (o : ℕ) → Fit s → key_in s i ≡ some k → is_complete s i ≡ true → o < k.length
    → Member (received s i) o
unfolding is_complete complete_of
complete_member s i k o f e c l =
    let z : complete k.length (received s i) ≡ true = sym (ap (λ (x : Option Key). complete_of x (received s i)) e) ∙ c in
    (complete_iff k.length (received s i) (received_canonical s i f)).0 z o l

-- ---- alike

pub alike_same : (s : Snapshot) (j : ℕ) → Alike s s j
alike_same s j = record { key = refl; runs = refl; slot = λ e. refl }

pub alike_open : {s u : Snapshot} {j : ℕ} → Alike s u j → is_open u j ≡ is_open s j
unfolding is_open
alike_open a = ap (λ (o : Option Key). is_some o) a.key

pub alike_then : {s t u : Snapshot} {j : ℕ} → Alike s t j → Alike t u j → Alike s u j
alike_then a b =
    record { key = b.key ∙ a.key; runs = b.runs ∙ a.runs; slot = λ e. b.slot (alike_open a ∙ e) ∙ a.slot e }

pub alike_complete : {s u : Snapshot} {j : ℕ} → Alike s u j → is_complete u j ≡ is_complete s j
unfolding is_complete
alike_complete {s} {u} {j} a = ap (λ (o : Option Key). complete_of o (received u j)) a.key ∙ ap (complete_of (key_in s j)) a.runs

-- ---- another slot

places_differ : (s : Snapshot) (i j : ℕ) → Fit s → is_open s i ≡ true → is_open s j ≡ true → (i ≡ j → ⊥) → place s i ≡ place s j → ⊥
places_differ s i j f e o n q =
    let k = open_key_lem s i e in
    let h = open_key_lem s j o in
    ⊎_elim
    (λ (l : i ≤ j). let z = place_below 0 i j s.table k.0 f.valid.fine k.1 (omega (arith, n)) in omega arith)
    (λ (l : j < i). let z = place_below 0 j i s.table h.0 f.valid.fine h.1 l in omega arith) (le_or_lt i j)

pub fit_slot : (s : Snapshot) (i : ℕ) (x : Slot) → Fit s → Fit (with_slot s i x)
unfolding with_slot
fit_slot s i x f = record { valid = f.valid; paired = length-set s.slots (place s i) x ∙ f.paired }

pub slot_key : (s : Snapshot) (i : ℕ) (x : Slot) (j : ℕ) → key_in (with_slot s i x) j ≡ key_in s j
unfolding with_slot
slot_key s i x j = refl

pub slot_runs : (s : Snapshot) (i : ℕ) (x : Slot) (j : ℕ) → received (with_slot s i x) j ≡ received s j
unfolding with_slot
slot_runs s i x j = refl

pub slot_same : (s : Snapshot) (i : ℕ) (x : Slot) → Fit s → is_open s i ≡ true → slot_of (with_slot s i x) i ≡ x
unfolding with_slot slot_of
slot_same s i x f e =
    let k = open_key_lem s i e in
    get_or-set_same s.slots (place s i) x no_slot (omega (arith, f.paired, place_inside i s.table k.0 k.1))

pub slot_other : (s : Snapshot) (i : ℕ) (x : Slot) (j : ℕ) → Fit s → is_open s i ≡ true → (i ≡ j → ⊥) → Alike s (with_slot s i x) j
unfolding with_slot slot_of
slot_other s i x j f e n = record {
  key = slot_key s i x j;
  runs = slot_runs s i x j;
  slot = λ o. get_or-set_other s.slots (place s i) (place s j) x no_slot (λ q. places_differ s i j f e o n (sym q));
}
