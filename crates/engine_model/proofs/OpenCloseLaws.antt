-- What is looked up in a snapshot after an Id was opened, or closed.
-- Assumes nothing.
use Prim.Native.Nat.{ℕ, suc, ◌≤◌, ◌<◌}
use mathlib.Core.Path.{◌≡◌, sym, ap, subst, ◌∙◌}
use mathlib.Core.Bool.{true, false, true≢false}
use mathlib.Core.List.{[]}
use mathlib.Core.Logic.{◌⊎◌, inl, inr, ⊎_elim}
use mathlib.Core.Option.{Option, some}
use native.Mathlib.Omega.{arith}
use native.Mathlib.Decide.{ℕ_discrete}
use lib.ListN.{length, get_or}
use Rattle.runs.proofs.CompareLaws.{le_or_lt}
use Rattle.transfer.specs.declared.Key.{Key}
use Rattle.table.specs.Tables.{Valid, add, remove}
use Rattle.table.specs.Close.{close_found, close_id}
use Rattle.table.proofs.TableLaws.{by_test, find_add_same, find_add_other, find_remove_other, runs_add_same, runs_add_other, runs_remove_other, length_add, length_remove}
use Rattle.table.proofs.FineLaws.{fine_remove, find_remove_same}
use Rattle.area.specs.Places.{place_of}
use Rattle.engine_slots.specs.declared.Slot.{Slot}
use Rattle.engine_slots.specs.Slots.{insert_in, remove_in, no_slot}
use Rattle.engine_model.specs.Snapshots.{Snapshot, is_some, key_in, is_open, slot_of, received, with_new, without, closed_in}
use Rattle.engine_model.proofs.ListLaws.{length_inserted, inserted_before, inserted_at, inserted_after, length_removed, removed_before, removed_after}
use Rattle.engine_model.proofs.PlaceLaws.{place_inside, place_most, place_rises, place_below, place_add_above, place_add_below, place_remove_above, place_remove_below, removed_one}
use Rattle.engine_model.proofs.FitLaws.{Fit, Alike, open_key_lem, shut_key, key_shut, alike_same, alike_open, place}

-- ---- one transfer more, of the key k

abbrev pub with_key : Snapshot → Key → Slot → Snapshot
with_key s k x = with_new s k.id (add k s.table) x

pub fit_new : (s : Snapshot) (k : Key) (x : Slot) → Fit s → is_open s k.id ≡ false → Valid (add k s.table) → Fit (with_key s k x)
unfolding with_new
fit_new s k x f e v =
    record { valid = v; paired = length_inserted (place s k.id) x s.slots ∙ ap suc f.paired ∙ sym (length_add k s.table) }

pub new_key : (s : Snapshot) (k : Key) (x : Slot) → is_open s k.id ≡ false → key_in (with_key s k x) k.id ≡ some k
unfolding with_new
new_key s k x e = find_add_same k s.table (shut_key s k.id e)

pub new_runs : (s : Snapshot) (k : Key) (x : Slot) → is_open s k.id ≡ false → received (with_key s k x) k.id ≡ []
unfolding with_new
new_runs s k x e = runs_add_same k s.table (shut_key s k.id e)

pub new_slot_lem : (s : Snapshot) (k : Key) (x : Slot) → Fit s → is_open s k.id ≡ false → slot_of (with_key s k x) k.id ≡ x
unfolding with_new slot_of
new_slot_lem s k x f e =
    ap (λ (q : ℕ). get_or (insert_in (place s k.id) x s.slots) q no_slot) (place_add_below k k.id s.table (omega arith))
    ∙ inserted_at (place s k.id) x s.slots no_slot (omega (arith, f.paired, place_most k.id s.table))

pub new_other : (s : Snapshot) (k : Key) (x : Slot) (j : ℕ) → Fit s → is_open s k.id ≡ false → (k.id ≡ j → ⊥) → Alike s (with_key s k x) j
unfolding with_new slot_of
new_other s k x j f e n = record {
  key = find_add_other j k s.table n;
  runs = runs_add_other j k s.table n;
  slot = λ o. ⊎_elim (λ (l : j ≤ k.id). below o (omega (arith, n))) above (le_or_lt j k.id);
}
  where
    below : is_open s j ≡ true → j < k.id → get_or (insert_in (place s k.id) x s.slots) (place_of j (add k s.table)) no_slot ≡ slot_of s j
    below o l =
        let h = open_key_lem s j o in
        ap (λ (q : ℕ). get_or (insert_in (place s k.id) x s.slots) q no_slot) (place_add_below k j s.table (omega arith))
        ∙ inserted_before (place s k.id) x s.slots (place s j) no_slot (omega (arith, f.paired, place_most k.id s.table))
        (place_below 0 j k.id s.table h.0 f.valid.fine h.1 l)

    above : k.id < j → get_or (insert_in (place s k.id) x s.slots) (place_of j (add k s.table)) no_slot ≡ slot_of s j
    above l =
        ap (λ (q : ℕ). get_or (insert_in (place s k.id) x s.slots) q no_slot) (place_add_above k j s.table l)
        ∙ inserted_after (place s k.id) x s.slots (place s j) no_slot (place_rises k.id j s.table (omega arith))

pub new_open : (s : Snapshot) (k : Key) (x : Slot) (j : ℕ) → is_open (with_key s k x) j ≡ true → (k.id ≡ j) ⊎ (is_open s j ≡ true)
unfolding with_new is_open
new_open s k x j o = go (ℕ_discrete k.id j)
  where
    go : Dec (k.id ≡ j) → (k.id ≡ j) ⊎ (is_open s j ≡ true)
    go (yes q) = inl q
    go (no n) = inr (ap (λ (y : Option Key). is_some y) (sym (find_add_other j k s.table n)) ∙ o)

-- ---- an Id closed

-- where it is not open nothing changes
closed_cases : (P : Snapshot → Type 0) (s : Snapshot) (i : ℕ)
    → (is_open s i ≡ false → P s)
    → ((k : Key) → key_in s i ≡ some k → P (record { table = remove i s.table; slots = remove_in (place s i) s.slots }))
    → P (closed_in s i)
unfolding closed_in without close_id close_found
closed_cases P s i shut gone =
    by_test P (is_open s i) (without s i) s
    (λ e.
    let k = open_key_lem s i e in
    subst (λ (o : Option Key). P (record { table = (close_found o s.table i).table; slots = remove_in (place s i) s.slots }))
    (sym k.1) (gone k.0 k.1)) shut

pub fit_closed : (s : Snapshot) (i : ℕ) → Fit s → Fit (closed_in s i)
fit_closed s i f =
    closed_cases Fit s i (λ e. f)
    (λ k e.
    let p : place s i < length s.table = place_inside i s.table k e in
    let v : Valid (remove i s.table) =
    record { few = let h : length s.table ≤ 16 = f.valid.few in omega (arith, length_remove i s.table); fine = fine_remove 0 i s.table f.valid.fine } in
    record { valid = v; paired = omega (arith, length_removed (place s i) s.slots (omega (arith, f.paired)), f.paired, removed_one i s.table k e) })

pub closed_gone : (s : Snapshot) (i : ℕ) → Fit s → is_open (closed_in s i) i ≡ false
closed_gone s i f =
    closed_cases (λ (u : Snapshot). is_open u i ≡ false) s i (λ e. e) (λ k e. key_shut _ i (find_remove_same 0 i s.table f.valid.fine))

pub closed_other : (s : Snapshot) (i j : ℕ) → Fit s → (i ≡ j → ⊥) → Alike s (closed_in s i) j
unfolding slot_of
closed_other s i j f n =
    closed_cases (λ (u : Snapshot). Alike s u j) s i (λ e. alike_same s j)
    (λ k e.
    record {
      key = find_remove_other i j s.table n;
      runs = runs_remove_other i j s.table n;
      slot = λ o. ⊎_elim (λ (l : i ≤ j). above k e (omega (arith, n))) (below o) (le_or_lt i j);
    })
  where
    above : (k : Key) → key_in s i ≡ some k → i < j → get_or (remove_in (place s i) s.slots) (place_of j (remove i s.table)) no_slot ≡ slot_of s j
    above k e l =
        let q : suc (place_of j (remove i s.table)) ≡ place s j = place_remove_above 0 i j s.table k f.valid.fine e l in
        removed_after (place s i) s.slots (place_of j (remove i s.table)) no_slot (omega (arith, place_below 0 i j s.table k f.valid.fine e l))
        ∙ ap (λ (x : ℕ). get_or s.slots x no_slot) q

    below : is_open s j ≡ true → j < i → get_or (remove_in (place s i) s.slots) (place_of j (remove i s.table)) no_slot ≡ slot_of s j
    below o l =
        let h = open_key_lem s j o in
        ap (λ (q : ℕ). get_or (remove_in (place s i) s.slots) q no_slot) (place_remove_below 0 i j s.table f.valid.fine l)
        ∙ removed_before (place s i) s.slots (place s j) no_slot (place_below 0 j i s.table h.0 f.valid.fine h.1 l)

pub closed_open : (s : Snapshot) (i j : ℕ) → Fit s → is_open (closed_in s i) j ≡ true → (i ≡ j → ⊥) × (is_open s j ≡ true)
closed_open s i j f o = go (ℕ_discrete i j)
  where
    go : Dec (i ≡ j) → (i ≡ j → ⊥) × (is_open s j ≡ true)
    go (yes q) = absurd (true≢false (sym o ∙ subst (λ (x : ℕ). is_open (closed_in s i) x ≡ false) q (closed_gone s i f)))
    go (no n) = (n, sym (alike_open (closed_other s i j f n)) ∙ o)
