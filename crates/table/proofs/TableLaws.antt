-- Looking an Id up in a table with one transfer more, changed or less.
-- Assumes nothing.
use Prim.Native.Nat.{ℕ, suc, ◌≤◌, ◌<◌}
use mathlib.Core.Path.{◌≡◌, refl, sym, ap, ◌∙◌}
use mathlib.Core.Bool.{Bool, true, false, cond}
use mathlib.Core.List.{List, [], ◌∷◌}
use mathlib.Core.Option.{Option, none, some}
use native.Mathlib.Omega.{arith}
use native.Mathlib.Decide.{ℕ_discrete}
use lib.ListN.{length}
use lib.Dec.{ltb, eqb}
use borrow.Author.Tests.{eq-eqb, ne_eqb, eqb-true, eqb-false, ltb-true, ltb-false}
use Rattle.runs.specs.Runs.{Run}
use Rattle.transfer.specs.declared.Key.{Key}
use Rattle.timestamp.specs.Timestamps.{renewed}
use Rattle.transfer.specs.Transfers.{Transfer, empty, with_received}
use Rattle.table.specs.Tables.{keys, find, runs_of, stamp_of, add, set_runs, remove}

-- a test's two values
pub by_test : {A : Type 0} (P : A → Type 0) (b : Bool) (x y : A) → (b ≡ true → P x) → (b ≡ false → P y) → P (cond b x y)
by_test P true x y f g = f refl
by_test P false x y f g = g refl

-- ---- one step of each

pub find_head : (i : ℕ) (k : Key) (ks : List Key) → k.id ≡ i → find i (k ∷ ks) ≡ some k
unfolding find
find_head i k ks e = rw (eq-eqb k.id i e)

pub find_tail : (i : ℕ) (k : Key) (ks : List Key) → (k.id ≡ i → ⊥) → find i (k ∷ ks) ≡ find i ks
unfolding find
find_tail i k ks n = rw (ne_eqb k.id i n)

find_cong : (i : ℕ) (k : Key) (ks ls : List Key) → find i ks ≡ find i ls → find i (k ∷ ks) ≡ find i (k ∷ ls)
unfolding find
find_cong i k ks ls e = ap (λ (o : Option Key). cond (eqb k.id i) (some k) o) e

pub find_cases : (P : Option Key → Type 0) (i : ℕ) (k : Key) (ks : List Key)
    → (k.id ≡ i → P (some k)) → ((k.id ≡ i → ⊥) → P (find i ks)) → P (find i (k ∷ ks))
find_cases P i k ks f g = go (ℕ_discrete k.id i)
  where
    go : Dec (k.id ≡ i) → P (find i (k ∷ ks))
    go (yes e) = rw (find_head i k ks e) (f e)
    go (no n) = rw (find_tail i k ks n) (g n)

pub runs_head : (i : ℕ) (x : Transfer) (t : List Transfer) → x.key.id ≡ i → runs_of (x ∷ t) i ≡ x.runs
unfolding runs_of
runs_head i x t e = rw (eq-eqb x.key.id i e)

pub runs_tail : (i : ℕ) (x : Transfer) (t : List Transfer) → (x.key.id ≡ i → ⊥) → runs_of (x ∷ t) i ≡ runs_of t i
unfolding runs_of
runs_tail i x t n = rw (ne_eqb x.key.id i n)

runs_cong : (i : ℕ) (x : Transfer) (t u : List Transfer) → runs_of t i ≡ runs_of u i → runs_of (x ∷ t) i ≡ runs_of (x ∷ u) i
unfolding runs_of
runs_cong i x t u e = ap (λ (l : List Run). cond (eqb x.key.id i) x.runs l) e

pub stamp_head : (i : ℕ) (x : Transfer) (t : List Transfer) → x.key.id ≡ i → stamp_of (x ∷ t) i ≡ x.stamp
unfolding stamp_of
stamp_head i x t e = rw (eq-eqb x.key.id i e)

pub stamp_tail : (i : ℕ) (x : Transfer) (t : List Transfer) → (x.key.id ≡ i → ⊥) → stamp_of (x ∷ t) i ≡ stamp_of t i
unfolding stamp_of
stamp_tail i x t n = rw (ne_eqb x.key.id i n)

stamp_cong : (i : ℕ) (x : Transfer) (t u : List Transfer) → stamp_of t i ≡ stamp_of u i → stamp_of (x ∷ t) i ≡ stamp_of (x ∷ u) i
unfolding stamp_of
stamp_cong i x t u e = ap (λ (l : List ℕ). cond (eqb x.key.id i) x.stamp l) e

pub add_cases : (P : List Transfer → Type 0) (k : Key) (x : Transfer) (t : List Transfer)
    → (k.id < x.key.id → P (empty k ∷ x ∷ t)) → (x.key.id ≤ k.id → P (x ∷ add k t)) → P (add k (x ∷ t))
unfolding add
add_cases P k x t f g =
    by_test P (ltb k.id x.key.id) (empty k ∷ x ∷ t) (x ∷ add k t) (λ b. f (ltb-true _ _ b)) (λ b. g (ltb-false _ _ b))

pub set_cases : (P : List Transfer → Type 0) (i : ℕ) (rs : List Run) (s : List ℕ) (x : Transfer) (t : List Transfer)
    → (x.key.id ≡ i → P (with_received x rs s ∷ t)) → ((x.key.id ≡ i → ⊥) → P (x ∷ set_runs i rs s t))
    → P (set_runs i rs s (x ∷ t))
unfolding set_runs
set_cases P i rs s x t f g =
    by_test P (eqb x.key.id i) (with_received x rs s ∷ t) (x ∷ set_runs i rs s t) (λ b. f (eqb-true _ _ b))
    (λ b. g (eqb-false _ _ b))

pub remove_cases : (P : List Transfer → Type 0) (i : ℕ) (x : Transfer) (t : List Transfer)
    → (x.key.id ≡ i → P t) → ((x.key.id ≡ i → ⊥) → P (x ∷ remove i t)) → P (remove i (x ∷ t))
unfolding remove
remove_cases P i x t f g =
    by_test P (eqb x.key.id i) t (x ∷ remove i t) (λ b. f (eqb-true _ _ b)) (λ b. g (eqb-false _ _ b))

-- ---- what is open

pub find_id : (i : ℕ) (ks : List Key) (k : Key) → find i ks ≡ some k → k.id ≡ i
unfolding find
find_id i [] k e = absurd (let z : ◌≡◌ {A = ℕ} 0 1 = cc in omega arith)
find_id i (j ∷ ks) k e =
    find_cases (λ (o : Option Key). o ≡ some k → k.id ≡ i) i j ks (λ q z. let y : j ≡ k = cc in rw y at q) (λ q z. find_id i ks k z) e

pub find_add_same : (k : Key) (t : List Transfer) → find k.id (keys t) ≡ none → find k.id (keys (add k t)) ≡ some k
unfolding keys add
find_add_same k [] e = find_head k.id k [] refl
find_add_same k (x ∷ t) e =
    add_cases (λ (u : List Transfer). find k.id (keys u) ≡ some k) k x t
    (λ b. find_head k.id k (x.key ∷ keys t) refl)
    (λ b. find_cases (λ (o : Option Key). o ≡ none → find k.id (x.key ∷ keys (add k t)) ≡ some k) k.id x.key (keys t)
    (λ q z. absurd (let y : ◌≡◌ {A = ℕ} 0 1 = cc in omega arith))
    (λ q z. find_tail k.id x.key (keys (add k t)) q ∙ find_add_same k t z) e)

pub find_add_other : (i : ℕ) (k : Key) (t : List Transfer) → (k.id ≡ i → ⊥) → find i (keys (add k t)) ≡ find i (keys t)
unfolding keys add
find_add_other i k [] n = find_tail i k [] n
find_add_other i k (x ∷ t) n =
    add_cases (λ (u : List Transfer). find i (keys u) ≡ find i (keys (x ∷ t))) k x t
    (λ b. find_tail i k (x.key ∷ keys t) n) (λ b. find_cong i x.key (keys (add k t)) (keys t) (find_add_other i k t n))

pub keys_set : (i : ℕ) (rs : List Run) (s : List ℕ) (t : List Transfer) → keys (set_runs i rs s t) ≡ keys t
unfolding keys set_runs
keys_set i rs s [] = refl
keys_set i rs s (x ∷ t) =
    set_cases (λ (u : List Transfer). keys u ≡ x.key ∷ keys t) i rs s x t (λ e. refl) (λ n. ap (λ (ks : List Key). x.key ∷ ks) (keys_set i rs s t))

pub find_remove_other : (i j : ℕ) (t : List Transfer) → (i ≡ j → ⊥) → find j (keys (remove i t)) ≡ find j (keys t)
unfolding keys remove
find_remove_other i j [] n = refl
find_remove_other i j (x ∷ t) n =
    remove_cases (λ (u : List Transfer). find j (keys u) ≡ find j (x.key ∷ keys t)) i x t
    (λ e. sym (find_tail j x.key (keys t) (λ q. n (sym e ∙ q))))
    (λ e. find_cong j x.key (keys (remove i t)) (keys t) (find_remove_other i j t n))

-- ---- what was received

pub runs_none : (i : ℕ) (t : List Transfer) → find i (keys t) ≡ none → runs_of t i ≡ []
unfolding keys runs_of
runs_none i [] e = refl
runs_none i (x ∷ t) e =
    find_cases (λ (o : Option Key). o ≡ none → runs_of (x ∷ t) i ≡ []) i x.key (keys t)
    (λ q z. absurd (let y : ◌≡◌ {A = ℕ} 0 1 = cc in omega arith)) (λ q z. runs_tail i x t q ∙ runs_none i t z) e

pub runs_add_other : (i : ℕ) (k : Key) (t : List Transfer) → (k.id ≡ i → ⊥) → runs_of (add k t) i ≡ runs_of t i
unfolding add
runs_add_other i k [] n = runs_tail i (empty k) [] n
runs_add_other i k (x ∷ t) n =
    add_cases (λ (u : List Transfer). runs_of u i ≡ runs_of (x ∷ t) i) k x t
    (λ b. runs_tail i (empty k) (x ∷ t) n) (λ b. runs_cong i x (add k t) t (runs_add_other i k t n))

pub runs_add_same : (k : Key) (t : List Transfer) → find k.id (keys t) ≡ none → runs_of (add k t) k.id ≡ []
unfolding keys add
runs_add_same k [] e = runs_head k.id (empty k) [] refl
runs_add_same k (x ∷ t) e =
    add_cases (λ (u : List Transfer). runs_of u k.id ≡ []) k x t
    (λ b. runs_head k.id (empty k) (x ∷ t) refl)
    (λ b. find_cases (λ (o : Option Key). o ≡ none → runs_of (x ∷ add k t) k.id ≡ []) k.id x.key (keys t)
    (λ q z. absurd (let y : ◌≡◌ {A = ℕ} 0 1 = cc in omega arith))
    (λ q z. runs_tail k.id x (add k t) q ∙ runs_add_same k t z) e)

-- a transfer more, with nothing received: no Id's runs change
pub runs_add : (i : ℕ) (k : Key) (t : List Transfer) → find k.id (keys t) ≡ none → runs_of (add k t) i ≡ runs_of t i
runs_add i k t e = go (ℕ_discrete k.id i)
  where
    go : Dec (k.id ≡ i) → runs_of (add k t) i ≡ runs_of t i
    go (yes q) = rw (← q) (runs_add_same k t e ∙ sym (runs_none k.id t e))
    go (no n) = runs_add_other i k t n

pub runs_set_same : (i : ℕ) (rs : List Run) (s : List ℕ) (t : List Transfer) (k : Key) → find i (keys t) ≡ some k → runs_of (set_runs i rs s t) i ≡ rs
unfolding keys set_runs find
runs_set_same i rs s [] k e = absurd (let z : ◌≡◌ {A = ℕ} 0 1 = cc in omega arith)
runs_set_same i rs s (x ∷ t) k e =
    set_cases (λ (u : List Transfer). runs_of u i ≡ rs) i rs s x t
    (λ q. runs_head i (with_received x rs s) t q)
    (λ q. runs_tail i x (set_runs i rs s t) q ∙ runs_set_same i rs s t k (sym (find_tail i x.key (keys t) q) ∙ e))

pub runs_set_other : (i j : ℕ) (rs : List Run) (s : List ℕ) (t : List Transfer) → (i ≡ j → ⊥) → runs_of (set_runs i rs s t) j ≡ runs_of t j
unfolding set_runs
runs_set_other i j rs s [] n = refl
runs_set_other i j rs s (x ∷ t) n =
    set_cases (λ (u : List Transfer). runs_of u j ≡ runs_of (x ∷ t) j) i rs s x t
    (λ q. let f : x.key.id ≡ j → ⊥ = λ p. n (sym q ∙ p) in runs_tail j (with_received x rs s) t f ∙ sym (runs_tail j x t f))
    (λ q. runs_cong j x (set_runs i rs s t) t (runs_set_other i j rs s t n))

pub runs_remove_other : (i j : ℕ) (t : List Transfer) → (i ≡ j → ⊥) → runs_of (remove i t) j ≡ runs_of t j
unfolding remove
runs_remove_other i j [] n = refl
runs_remove_other i j (x ∷ t) n =
    remove_cases (λ (u : List Transfer). runs_of u j ≡ runs_of (x ∷ t) j) i x t
    (λ e. sym (runs_tail j x t (λ q. n (sym e ∙ q)))) (λ e. runs_cong j x (remove i t) t (runs_remove_other i j t n))

-- ---- the timestamp that is kept

pub stamp_none : (i : ℕ) (t : List Transfer) → find i (keys t) ≡ none → stamp_of t i ≡ []
unfolding keys stamp_of
stamp_none i [] e = refl
stamp_none i (x ∷ t) e =
    find_cases (λ (o : Option Key). o ≡ none → stamp_of (x ∷ t) i ≡ []) i x.key (keys t)
    (λ q z. absurd (let y : ◌≡◌ {A = ℕ} 0 1 = cc in omega arith)) (λ q z. stamp_tail i x t q ∙ stamp_none i t z) e

pub stamp_add_other : (i : ℕ) (k : Key) (t : List Transfer) → (k.id ≡ i → ⊥) → stamp_of (add k t) i ≡ stamp_of t i
unfolding add
stamp_add_other i k [] n = stamp_tail i (empty k) [] n
stamp_add_other i k (x ∷ t) n =
    add_cases (λ (u : List Transfer). stamp_of u i ≡ stamp_of (x ∷ t) i) k x t
    (λ b. stamp_tail i (empty k) (x ∷ t) n) (λ b. stamp_cong i x (add k t) t (stamp_add_other i k t n))

pub stamp_add_same : (k : Key) (t : List Transfer) → find k.id (keys t) ≡ none → stamp_of (add k t) k.id ≡ []
unfolding keys add
stamp_add_same k [] e = stamp_head k.id (empty k) [] refl
stamp_add_same k (x ∷ t) e =
    add_cases (λ (u : List Transfer). stamp_of u k.id ≡ []) k x t
    (λ b. stamp_head k.id (empty k) (x ∷ t) refl)
    (λ b. find_cases (λ (o : Option Key). o ≡ none → stamp_of (x ∷ add k t) k.id ≡ []) k.id x.key (keys t)
    (λ q z. absurd (let y : ◌≡◌ {A = ℕ} 0 1 = cc in omega arith))
    (λ q z. stamp_tail k.id x (add k t) q ∙ stamp_add_same k t z) e)

-- a transfer more, with no timestamp: no Id's timestamp changes
pub stamp_add : (i : ℕ) (k : Key) (t : List Transfer) → find k.id (keys t) ≡ none → stamp_of (add k t) i ≡ stamp_of t i
stamp_add i k t e = go (ℕ_discrete k.id i)
  where
    go : Dec (k.id ≡ i) → stamp_of (add k t) i ≡ stamp_of t i
    go (yes q) = rw (← q) (stamp_add_same k t e ∙ sym (stamp_none k.id t e))
    go (no n) = stamp_add_other i k t n

pub stamp_set_same : (i : ℕ) (rs : List Run) (s : List ℕ) (t : List Transfer) (k : Key) → find i (keys t) ≡ some k
    → stamp_of (set_runs i rs s t) i ≡ renewed s (stamp_of t i)
unfolding keys set_runs find
stamp_set_same i rs s [] k e = absurd (let z : ◌≡◌ {A = ℕ} 0 1 = cc in omega arith)
stamp_set_same i rs s (x ∷ t) k e =
    set_cases (λ (u : List Transfer). stamp_of u i ≡ renewed s (stamp_of (x ∷ t) i)) i rs s x t
    (λ q. stamp_head i (with_received x rs s) t q ∙ ap (renewed s) (sym (stamp_head i x t q)))
    (λ q.
    stamp_tail i x (set_runs i rs s t) q
    ∙ stamp_set_same i rs s t k (sym (find_tail i x.key (keys t) q) ∙ e) ∙ ap (renewed s) (sym (stamp_tail i x t q)))

pub stamp_set_other : (i j : ℕ) (rs : List Run) (s : List ℕ) (t : List Transfer) → (i ≡ j → ⊥) → stamp_of (set_runs i rs s t) j ≡ stamp_of t j
unfolding set_runs
stamp_set_other i j rs s [] n = refl
stamp_set_other i j rs s (x ∷ t) n =
    set_cases (λ (u : List Transfer). stamp_of u j ≡ stamp_of (x ∷ t) j) i rs s x t
    (λ q. let f : x.key.id ≡ j → ⊥ = λ p. n (sym q ∙ p) in stamp_tail j (with_received x rs s) t f ∙ sym (stamp_tail j x t f))
    (λ q. stamp_cong j x (set_runs i rs s t) t (stamp_set_other i j rs s t n))

pub stamp_remove_other : (i j : ℕ) (t : List Transfer) → (i ≡ j → ⊥) → stamp_of (remove i t) j ≡ stamp_of t j
unfolding remove
stamp_remove_other i j [] n = refl
stamp_remove_other i j (x ∷ t) n =
    remove_cases (λ (u : List Transfer). stamp_of u j ≡ stamp_of (x ∷ t) j) i x t
    (λ e. sym (stamp_tail j x t (λ q. n (sym e ∙ q)))) (λ e. stamp_cong j x (remove i t) t (stamp_remove_other i j t n))

-- ---- the keys of a table with one transfer more are made from its keys alone

unfoldable pub add_key : Key → List Key → List Key
add_key k [] = k ∷ []
add_key k (j ∷ ks) = cond (ltb k.id j.id) (k ∷ j ∷ ks) (j ∷ add_key k ks)

pub keys_add : (k : Key) (t : List Transfer) → keys (add k t) ≡ add_key k (keys t)
unfolding keys add add_key
keys_add k [] = refl
keys_add k (x ∷ t) = go (ltb k.id x.key.id) (keys_add k t)
  where
    go : (b : Bool) → keys (add k t) ≡ add_key k (keys t)
        → keys (cond b (empty k ∷ x ∷ t) (x ∷ add k t)) ≡ cond b (k ∷ x.key ∷ keys t) (x.key ∷ add_key k (keys t))
    go true e = refl
    go false e = ap (λ (ks : List Key). x.key ∷ ks) e

pub length_keys : (t : List Transfer) → length (keys t) ≡ length t
unfolding keys
length_keys [] = refl
length_keys (x ∷ t) = ap suc (length_keys t)

pub length_add : (k : Key) (t : List Transfer) → length (add k t) ≡ suc (length t)
unfolding add
length_add k [] = refl
length_add k (x ∷ t) = add_cases (λ (u : List Transfer). length u ≡ suc (suc (length t))) k x t (λ b. refl) (λ b. ap suc (length_add k t))

pub length_set : (i : ℕ) (rs : List Run) (s : List ℕ) (t : List Transfer) → length (set_runs i rs s t) ≡ length t
unfolding set_runs
length_set i rs s [] = refl
length_set i rs s (x ∷ t) = set_cases (λ (u : List Transfer). length u ≡ suc (length t)) i rs s x t (λ e. refl) (λ n. ap suc (length_set i rs s t))

pub length_remove : (i : ℕ) (t : List Transfer) → length (remove i t) ≤ length t
unfolding remove
length_remove i [] = omega arith
length_remove i (x ∷ t) =
    remove_cases (λ (u : List Transfer). length u ≤ suc (length t)) i x t (λ e. omega arith) (λ n. omega (arith, length_remove i t))
