-- Tables in the order of their Ids: what is open in them is fine, each change keeps them so, and a table is the map that it stands for.
-- Assumes nothing.
use Prim.Native.Nat.{ℕ, suc, ◌≤◌, ◌<◌}
use mathlib.Core.Path.{◌≡◌, refl, sym, ap₂, ◌∙◌}
use mathlib.Core.List.{List, [], ◌∷◌}
use mathlib.Core.Option.{Option, none, some}
use native.Mathlib.Nat.{le_refl}
use native.Mathlib.Omega.{arith}
use native.Mathlib.Decide.{ℕ_discrete}
use mathlib.Core.Logic.{◌↔◌}
use Rattle.runs.specs.Runs.{Run, Member, Canonical}
use Rattle.runs.proofs.CanonicalLaws.{canonical_unique}
use Rattle.transfer.specs.declared.Key.{Key}
use Rattle.timestamp.specs.Timestamps.{renewed}
use Rattle.transfer.specs.Transfers.{Transfer, TransferFine, empty, transfer_of}
use Rattle.table.specs.Tables.{FineFrom, Valid, keys, find, runs_of, stamp_of, add, set_runs, remove}
use Rattle.table.proofs.TableLaws.{find_head, find_tail, find_cases, runs_head, runs_tail, runs_none, stamp_head, stamp_tail, stamp_none, add_cases, set_cases, remove_cases}

pub fine_weaken : (j k : ℕ) (t : List Transfer) → j ≤ k → FineFrom k t → FineFrom j t
fine_weaken j k [] p h = tt
fine_weaken j k (x ∷ t) p h = (omega arith, h.1, h.2)

-- no Id below the first
pub fine_none : (m i : ℕ) (t : List Transfer) → FineFrom m t → i < m → find i (keys t) ≡ none
unfolding keys find
fine_none m i [] h p = refl
fine_none m i (x ∷ t) h p = find_tail i x.key (keys t) (λ e. omega arith) ∙ fine_none (suc x.key.id) i t h.2 (omega arith)

pub fine_least : (m i : ℕ) (t : List Transfer) (k : Key) → FineFrom m t → find i (keys t) ≡ some k → m ≤ i
unfolding keys find
fine_least m i [] k h e = absurd (let z : ◌≡◌ {A = ℕ} 0 1 = cc in omega arith)
fine_least m i (x ∷ t) k h e =
    find_cases (λ (o : Option Key). o ≡ some k → m ≤ i) i x.key (keys t) (λ q z. omega arith)
    (λ q z. omega (arith, fine_least (suc x.key.id) i t k h.2 z)) e

-- an open transfer is fine
pub fine_found : (m i : ℕ) (t : List Transfer) (k : Key) → FineFrom m t → find i (keys t) ≡ some k
    → TransferFine (transfer_of k (runs_of t i) (stamp_of t i))
unfolding keys find
fine_found m i [] k h e = absurd (let z : ◌≡◌ {A = ℕ} 0 1 = cc in omega arith)
fine_found m i (x ∷ t) k h e =
    find_cases (λ (o : Option Key). o ≡ some k → TransferFine (transfer_of k (runs_of (x ∷ t) i) (stamp_of (x ∷ t) i))) i x.key (keys t)
    (λ q z. let y : x.key ≡ k = cc in rw (runs_head i x t q, stamp_head i x t q, ← y) h.1)
    (λ q z. rw (runs_tail i x t q, stamp_tail i x t q) (fine_found (suc x.key.id) i t k h.2 z)) e

-- ---- changes

pub fine_add : (m : ℕ) (k : Key) (t : List Transfer) → FineFrom m t → m ≤ k.id → find k.id (keys t) ≡ none → TransferFine (empty k)
    → FineFrom m (add k t)
unfolding keys add
fine_add m k [] h p e f = (p, f, tt)
fine_add m k (x ∷ t) h p e f =
    find_cases (λ (o : Option Key). o ≡ none → FineFrom m (add k (x ∷ t))) k.id x.key (keys t)
    (λ q z. absurd (let y : ◌≡◌ {A = ℕ} 0 1 = cc in omega arith))
    (λ q z. add_cases (FineFrom m) k x t (λ b. (p, f, (b, h.1, h.2)))
    (λ b. (h.0, h.1, fine_add (suc x.key.id) k t h.2 (omega arith) z f)))
    e

pub fine_set : (m i : ℕ) (rs : List Run) (s : List ℕ) (t : List Transfer) (k : Key) → FineFrom m t → find i (keys t) ≡ some k
    → TransferFine (transfer_of k rs (renewed s (stamp_of t i))) → FineFrom m (set_runs i rs s t)
unfolding keys set_runs
fine_set m i rs s [] k h e f = tt
fine_set m i rs s (x ∷ t) k h e f =
    set_cases (FineFrom m) i rs s x t
    (λ q. let y : x.key ≡ k = first (sym (find_head i x.key (keys t) q) ∙ e) in (h.0, (rw (y, ← stamp_head i x t q) f), h.2))
    (λ q. (h.0, h.1, fine_set (suc x.key.id) i rs s t k h.2 (sym (find_tail i x.key (keys t) q) ∙ e) (rw (stamp_tail i x t q) at f)))
  where
    first : some x.key ≡ some k → x.key ≡ k
    first z = cc

pub fine_remove : (m i : ℕ) (t : List Transfer) → FineFrom m t → FineFrom m (remove i t)
unfolding remove
fine_remove m i [] h = tt
fine_remove m i (x ∷ t) h =
    remove_cases (FineFrom m) i x t (λ e. fine_weaken m (suc x.key.id) t (omega arith) h.2)
    (λ n. (h.0, h.1, fine_remove (suc x.key.id) i t h.2))

-- after it is removed, an Id is not open
pub find_remove_same : (m i : ℕ) (t : List Transfer) → FineFrom m t → find i (keys (remove i t)) ≡ none
unfolding keys remove find
find_remove_same m i [] h = refl
find_remove_same m i (x ∷ t) h =
    remove_cases (λ (u : List Transfer). find i (keys u) ≡ none) i x t (λ e. fine_none (suc x.key.id) i t h.2 (omega arith))
    (λ n. find_tail i x.key (keys (remove i t)) n ∙ find_remove_same (suc x.key.id) i t h.2)

-- ---- R6.2: only the map counts, and not where a transfer is kept

transfer_eq : (x y : Transfer) → x.key ≡ y.key → x.runs ≡ y.runs → x.stamp ≡ y.stamp → x ≡ y
transfer_eq x y p q r = λ i. transfer_of (p i) (q i) (r i)

unique_from : (m n : ℕ) (t u : List Transfer) → FineFrom m t → FineFrom n u
    → ((i : ℕ) → find i (keys t) ≡ find i (keys u)) → ((i : ℕ) → runs_of t i ≡ runs_of u i)
    → ((i : ℕ) → stamp_of t i ≡ stamp_of u i) → t ≡ u
unfolding keys find
unique_from m n [] [] h g f r s = refl
unique_from m n [] (y ∷ u) h g f r s =
    let e : none ≡ some y.key = f y.key.id ∙ find_head y.key.id y.key (keys u) refl in
    absurd (let z : ◌≡◌ {A = ℕ} 0 1 = cc in omega arith)
unique_from m n (x ∷ t) [] h g f r s =
    let e : none ≡ some x.key = sym (f x.key.id) ∙ find_head x.key.id x.key (keys t) refl in
    absurd (let z : ◌≡◌ {A = ℕ} 0 1 = cc in omega arith)
unique_from m n (x ∷ t) (y ∷ u) h g f r s =
    let p : find x.key.id (keys (y ∷ u)) ≡ some x.key = sym (f x.key.id) ∙ find_head x.key.id x.key (keys t) refl in
    let q : find y.key.id (keys (x ∷ t)) ≡ some y.key = f y.key.id ∙ find_head y.key.id y.key (keys u) refl in
    let a : y.key.id ≤ x.key.id = fine_least y.key.id x.key.id (y ∷ u) x.key (le_refl _, g.1, g.2) p in
    let b : x.key.id ≤ y.key.id = fine_least x.key.id y.key.id (x ∷ t) y.key (le_refl _, h.1, h.2) q in
    let e : y.key.id ≡ x.key.id = omega arith in
    let k : x.key ≡ y.key = same (sym p ∙ find_head x.key.id y.key (keys u) e) in
    let same_runs : x.runs ≡ y.runs = sym (runs_head x.key.id x t refl) ∙ r x.key.id ∙ runs_head x.key.id y u e in
    let same_stamp : x.stamp ≡ y.stamp = sym (stamp_head x.key.id x t refl) ∙ s x.key.id ∙ stamp_head x.key.id y u e in
    ap₂ (λ (z : Transfer) (v : List Transfer). z ∷ v) (transfer_eq x y k same_runs same_stamp)
    (unique_from (suc x.key.id) (suc y.key.id) t u h.2 g.2
    (λ i. rest_keys e i (ℕ_discrete x.key.id i)) (λ i. rest_runs e i (ℕ_discrete x.key.id i)) (λ i. rest_stamps e i (ℕ_discrete x.key.id i)))
  where
    same : some x.key ≡ some y.key → x.key ≡ y.key
    same z = cc

    rest_keys : y.key.id ≡ x.key.id → (i : ℕ) → Dec (x.key.id ≡ i) → find i (keys t) ≡ find i (keys u)
    rest_keys e i (yes d) = fine_none (suc x.key.id) i t h.2 (omega arith) ∙ sym (fine_none (suc y.key.id) i u g.2 (omega arith))
    rest_keys e i (no d) =
        sym (find_tail i x.key (keys t) d) ∙ f i ∙ find_tail i y.key (keys u) (λ z. d (sym e ∙ z))

    rest_runs : y.key.id ≡ x.key.id → (i : ℕ) → Dec (x.key.id ≡ i) → runs_of t i ≡ runs_of u i
    rest_runs e i (yes d) =
        runs_none i t (fine_none (suc x.key.id) i t h.2 (omega arith))
        ∙ sym (runs_none i u (fine_none (suc y.key.id) i u g.2 (omega arith)))
    rest_runs e i (no d) = sym (runs_tail i x t d) ∙ r i ∙ runs_tail i y u (λ z. d (sym e ∙ z))

    rest_stamps : y.key.id ≡ x.key.id → (i : ℕ) → Dec (x.key.id ≡ i) → stamp_of t i ≡ stamp_of u i
    rest_stamps e i (yes d) =
        stamp_none i t (fine_none (suc x.key.id) i t h.2 (omega arith))
        ∙ sym (stamp_none i u (fine_none (suc y.key.id) i u g.2 (omega arith)))
    rest_stamps e i (no d) = sym (stamp_tail i x t d) ∙ s i ∙ stamp_tail i y u (λ z. d (sym e ∙ z))

-- two tables with the same Ids, widths, lengths, received offsets and timestamps are equal
pub table_unique : (t u : List Transfer) → Valid t → Valid u
    → ((i : ℕ) → find i (keys t) ≡ find i (keys u)) → ((i : ℕ) → runs_of t i ≡ runs_of u i)
    → ((i : ℕ) → stamp_of t i ≡ stamp_of u i) → t ≡ u
table_unique t u h g f r s = unique_from 0 0 t u h.fine g.fine f r s

pub runs_canonical : (i : ℕ) (t : List Transfer) → Valid t → Canonical (runs_of t i)
runs_canonical i t h = go (find i (keys t)) refl
  where
    go : (o : Option Key) → find i (keys t) ≡ o → Canonical (runs_of t i)
    go none e = rw (runs_none i t e) tt
    go (some k) e = (fine_found 0 i t k h.fine e).canonical

-- the same with the set of received offsets
pub table_map : (t u : List Transfer) → Valid t → Valid u
    → ((i : ℕ) → find i (keys t) ≡ find i (keys u)) → ((i x : ℕ) → Member (runs_of t i) x ↔ Member (runs_of u i) x)
    → ((i : ℕ) → stamp_of t i ≡ stamp_of u i) → t ≡ u
table_map t u h g f r s =
    table_unique t u h g f
    (λ i. canonical_unique (runs_of t i) (runs_of u i) (runs_canonical i t h) (runs_canonical i u g) (λ x. (r i x).0) (λ x. (r i x).1)) s
