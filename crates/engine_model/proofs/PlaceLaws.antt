-- The place of an Id in a table with one transfer more, changed or less.
-- Assumes nothing.
use Prim.Native.Nat.{ℕ, suc, ◌≤◌, ◌<◌}
use mathlib.Core.Path.{◌≡◌, refl, sym, ap, ◌∙◌}
use mathlib.Core.List.{List, [], ◌∷◌}
use mathlib.Core.Logic.{◌⊎◌, inl, inr}
use mathlib.Core.Option.{Option, some}
use native.Mathlib.Omega.{arith}
use lib.ListN.{length}
use borrow.Author.Tests.{lt-ltb, le-ltb}
use Rattle.runs.specs.Runs.{Run}
use Rattle.runs.proofs.CompareLaws.{le_or_lt}
use Rattle.transfer.specs.declared.Key.{Key}
use Rattle.transfer.specs.Transfers.{Transfer, empty, with_received}
use Rattle.table.specs.Tables.{FineFrom, keys, find, add, set_runs, remove}
use Rattle.table.proofs.TableLaws.{find_tail, find_cases, add_cases, set_cases, remove_cases}
use Rattle.table.proofs.FineLaws.{fine_least}
use Rattle.area.specs.Places.{place_of}

-- ---- one step

place_next : (i : ℕ) (y : Transfer) (t : List Transfer) → y.key.id < i → place_of i (y ∷ t) ≡ suc (place_of i t)
unfolding place_of
place_next i y t l = rw (lt-ltb y.key.id i l)

place_here : (i : ℕ) (y : Transfer) (t : List Transfer) → i ≤ y.key.id → place_of i (y ∷ t) ≡ 0
unfolding place_of
place_here i y t l = rw (le-ltb y.key.id i l)

place_cases : (P : ℕ → Type 0) (i : ℕ) (y : Transfer) (t : List Transfer)
    → (i ≤ y.key.id → P 0) → (y.key.id < i → P (suc (place_of i t))) → P (place_of i (y ∷ t))
place_cases P i y t f g = go (le_or_lt i y.key.id)
  where
    go : (i ≤ y.key.id) ⊎ (y.key.id < i) → P (place_of i (y ∷ t))
    go (inl l) = rw (place_here i y t l) (f l)
    go (inr l) = rw (place_next i y t l) (g l)

place_cong : (i : ℕ) (y : Transfer) (t u : List Transfer) → place_of i t ≡ place_of i u → place_of i (y ∷ t) ≡ place_of i (y ∷ u)
place_cong i y t u e =
    place_cases (λ (n : ℕ). n ≡ place_of i (y ∷ u)) i y t (λ l. sym (place_here i y u l)) (λ l. ap suc e ∙ sym (place_next i y u l))

-- ---- Ids that are open

pub place_inside : (i : ℕ) (t : List Transfer) (k : Key) → find i (keys t) ≡ some k → place_of i t < length t
unfolding keys find
place_inside i [] k e = absurd (let z : ◌≡◌ {A = ℕ} 0 1 = cc in omega arith)
place_inside i (y ∷ t) k e =
    find_cases (λ (o : Option Key). o ≡ some k → place_of i (y ∷ t) < suc (length t)) i y.key (keys t)
    (λ q z. place_cases (λ (n : ℕ). n < suc (length t)) i y t (λ l. omega arith) (λ l. absurd (omega arith)))
    (λ q z. place_cases (λ (n : ℕ). n < suc (length t)) i y t (λ l. omega arith) (λ l. omega (arith, place_inside i t k z))) e

pub place_most : (i : ℕ) (t : List Transfer) → place_of i t ≤ length t
unfolding place_of
place_most i [] = omega arith
place_most i (y ∷ t) = place_cases (λ (n : ℕ). n ≤ suc (length t)) i y t (λ l. omega arith) (λ l. omega (arith, place_most i t))

pub place_rises : (i j : ℕ) (t : List Transfer) → i ≤ j → place_of i t ≤ place_of j t
unfolding place_of
place_rises i j [] h = omega arith
place_rises i j (y ∷ t) h =
    place_cases (λ (n : ℕ). n ≤ place_of j (y ∷ t)) i y t (λ l. omega arith)
    (λ l. rw (place_next j y t (omega arith)) (omega (arith, place_rises i j t h)))

-- the Id i is open, and j above it
pub place_below : (m i j : ℕ) (t : List Transfer) (k : Key) → FineFrom m t → find i (keys t) ≡ some k → i < j → place_of i t < place_of j t
unfolding keys find
place_below m i j [] k f e h = absurd (let z : ◌≡◌ {A = ℕ} 0 1 = cc in omega arith)
place_below m i j (y ∷ t) k f e h =
    find_cases (λ (o : Option Key). o ≡ some k → place_of i (y ∷ t) < place_of j (y ∷ t)) i y.key (keys t)
    (λ q z. rw (place_here i y t (omega arith), place_next j y t (omega arith)) (omega arith))
    (λ q z.
    let l : suc y.key.id ≤ i = fine_least (suc y.key.id) i t k f.2 z in
    rw (place_next i y t (omega arith), place_next j y t (omega arith)) (omega (arith, place_below (suc y.key.id) i j t k f.2 z h))) e

-- ---- one transfer more, changed or less

pub place_set : (i : ℕ) (rs : List Run) (s : List ℕ) (j : ℕ) (t : List Transfer) → place_of j (set_runs i rs s t) ≡ place_of j t
unfolding set_runs
place_set i rs s j [] = refl
place_set i rs s j (y ∷ t) =
    set_cases (λ (u : List Transfer). place_of j u ≡ place_of j (y ∷ t)) i rs s y t
    (λ e. place_cases (λ (n : ℕ). n ≡ place_of j (y ∷ t)) j (with_received y rs s) t (λ l. sym (place_here j y t l)) (λ l. sym (place_next j y t l)))
    (λ e. place_cong j y (set_runs i rs s t) t (place_set i rs s j t))

pub place_add_above : (k : Key) (j : ℕ) (t : List Transfer) → k.id < j → place_of j (add k t) ≡ suc (place_of j t)
unfolding add place_of
place_add_above k j [] h = place_next j (empty k) [] h
place_add_above k j (y ∷ t) h =
    add_cases (λ (u : List Transfer). place_of j u ≡ suc (place_of j (y ∷ t))) k y t (λ l. place_next j (empty k) (y ∷ t) h)
    (λ l. place_next j y (add k t) (omega arith) ∙ ap suc (place_add_above k j t h ∙ sym (place_next j y t (omega arith))))

pub place_add_below : (k : Key) (j : ℕ) (t : List Transfer) → j ≤ k.id → place_of j (add k t) ≡ place_of j t
unfolding add place_of
place_add_below k j [] h = place_here j (empty k) [] h
place_add_below k j (y ∷ t) h =
    add_cases (λ (u : List Transfer). place_of j u ≡ place_of j (y ∷ t)) k y t
    (λ l. place_here j (empty k) (y ∷ t) h ∙ sym (place_here j y t (omega arith)))
    (λ l. place_cong j y (add k t) t (place_add_below k j t h))

pub place_remove_above : (m i j : ℕ) (t : List Transfer) (k : Key) → FineFrom m t → find i (keys t) ≡ some k → i < j
    → suc (place_of j (remove i t)) ≡ place_of j t
unfolding keys find
place_remove_above m i j [] k f e h = absurd (let z : ◌≡◌ {A = ℕ} 0 1 = cc in omega arith)
place_remove_above m i j (y ∷ t) k f e h =
    remove_cases (λ (u : List Transfer). suc (place_of j u) ≡ place_of j (y ∷ t)) i y t (λ q. sym (place_next j y t (omega arith)))
    (λ q.
    let z : find i (keys t) ≡ some k = sym (find_tail i y.key (keys t) q) ∙ e in
    let l : suc y.key.id ≤ i = fine_least (suc y.key.id) i t k f.2 z in
    ap suc (place_next j y (remove i t) (omega arith) ∙ place_remove_above (suc y.key.id) i j t k f.2 z h)
    ∙ sym (place_next j y t (omega arith)))

place_first : (m j : ℕ) (t : List Transfer) → FineFrom m t → j ≤ m → place_of j t ≡ 0
unfolding place_of
place_first m j [] f h = refl
place_first m j (y ∷ t) f h = place_here j y t (omega arith)

pub place_remove_below : (m i j : ℕ) (t : List Transfer) → FineFrom m t → j < i → place_of j (remove i t) ≡ place_of j t
unfolding remove
place_remove_below m i j [] f h = refl
place_remove_below m i j (y ∷ t) f h =
    remove_cases (λ (u : List Transfer). place_of j u ≡ place_of j (y ∷ t)) i y t
    (λ q. place_first (suc y.key.id) j t f.2 (omega arith) ∙ sym (place_here j y t (omega arith)))
    (λ q. place_cong j y (remove i t) t (place_remove_below (suc y.key.id) i j t f.2 h))

-- and there is one transfer less
pub removed_one : (i : ℕ) (t : List Transfer) (k : Key) → find i (keys t) ≡ some k → suc (length (remove i t)) ≡ length t
unfolding keys find
removed_one i [] k e = absurd (let z : ◌≡◌ {A = ℕ} 0 1 = cc in omega arith)
removed_one i (y ∷ t) k e =
    remove_cases (λ (u : List Transfer). suc (length u) ≡ suc (length t)) i y t (λ q. refl)
    (λ q. ap suc (removed_one i t k (sym (find_tail i y.key (keys t) q) ∙ e)))
