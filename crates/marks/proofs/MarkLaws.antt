-- What setting marks does to every mark, and clearing them; and to the runs: the stretch that was set is inserted. Assumes nothing.
use Prim.Native.Nat.{ℕ, zero, suc, ◌+◌, ◌*◌, ◌-◌, ◌/◌, ◌%◌, ◌^◌, ◌≤◌, ◌<◌}
use mathlib.Core.Path.{◌≡◌, refl, sym, ◌∙◌}
use mathlib.Core.Bool.{true, false, not}
use mathlib.Core.List.{List, []}
use mathlib.Core.Logic.{◌⊎◌, inl, inr, ⊎_elim, ◌≢◌, ◌↔◌}
use native.Mathlib.Nat.{add-zero, zero-add, mod-lt}
use native.Mathlib.Omega.{arith}
use lib.ListN.{length, get_or, drop, set, replicate, length-set, length-replicate, get_or-replicate, get_or-append}
use lib.Seq.{set-get_or, get_or-set_same, get_or-set_other, drop-set-lt, ext_get_or}
use lib.Dec.{eqb}
use lib.Bits.{bit_and, bit_or}
use Rattle.octets.specs.Numbers.{Octets}
use Rattle.octets.specs.Put.{put}
use Rattle.octets.proofs.PutLaws.{length_put}
use Rattle.octets.proofs.PutParts.{drop_after}
use Rattle.runs.specs.Runs.{Member, Canonical, insert}
use Rattle.runs.proofs.CompareLaws.{le_or_lt, same_or}
use Rattle.marks.specs.Marks.{mark_octets, mark_count, marked, with_bit, with_mark, with_marks, cleared}
use Rattle.marks.specs.MarkedRuns.{marked_runs}
use Rattle.marks.proofs.BitLaws.{read_bit, or_bit, with_bit_small, bit_set, bit_stays, zeros_bit, all_ones}
use Rattle.marks.proofs.MarkedRunsLaws.{where_canonical, where_only, where_holds, where_unique, where_insert}

-- ---- one mark, by its bit in its octet

module _ (s : List ℕ) (n b : ℕ) (is : b ≡ 2 ^ (7 - n % 8)) where
  pub mark_read : not (eqb (bit_and (get_or s (n / 8) 0) b) 0) ≡ marked s n
  unfolding marked
  mark_read = rw is (read_bit (get_or s (n / 8) 0) (n % 8))

  pub mark_written : set s (n / 8) (bit_or (get_or s (n / 8) 0) b) ≡ with_mark n s
  unfolding with_mark
  mark_written = rw (is, or_bit (get_or s (n / 8) 0) (n % 8))

module _ (s : List ℕ) (n : ℕ) (h : n < 8 * length s) where
  pub length_with : length (with_mark n s) ≡ length s
  unfolding with_mark
  length_with = length-set s (n / 8) _

  pub octets_with : Octets s → Octets (with_mark n s)
  unfolding with_mark
  octets_with o i =
      ⊎_elim (λ (e : i ≡ n / 8). rw (e, get_or-set_same s (n / 8) (with_bit (get_or s (n / 8) 0) (n % 8)) 0 (omega arith)) (with_bit_small (get_or s (n / 8) 0) (n % 8) (o (n / 8))))
      (λ (e : i ≢ n / 8). rw (get_or-set_other s (n / 8) i (with_bit (get_or s (n / 8) 0) (n % 8)) 0 e) (o i)) (same_or i (n / 8))

  pub mark_set : marked (with_mark n s) n ≡ true
  unfolding marked with_mark
  mark_set = rw (get_or-set_same s (n / 8) (with_bit (get_or s (n / 8) 0) (n % 8)) 0 (omega arith)) (bit_set (get_or s (n / 8) 0) (n % 8) (n % 8) (mod-lt n (omega arith)) (mod-lt n (omega arith)) refl)

  pub mark_stays : (m : ℕ) → (n ≡ m → ⊥) → marked (with_mark n s) m ≡ marked s m
  unfolding marked with_mark
  mark_stays m e =
      ⊎_elim (λ (u : m / 8 ≡ n / 8). rw (u, get_or-set_same s (n / 8) (with_bit (get_or s (n / 8) 0) (n % 8)) 0 (omega arith))
      (bit_stays (get_or s (n / 8) 0) (n % 8) (m % 8) (mod-lt n (omega arith)) (mod-lt m (omega arith)) (λ z. e (omega arith))))
      (λ (u : m / 8 ≢ n / 8). rw (get_or-set_other s (n / 8) (m / 8) (with_bit (get_or s (n / 8) 0) (n % 8)) 0 u)) (same_or (m / 8) (n / 8))

-- one that is set already: every octet stays
mark_known : (s : List ℕ) (n : ℕ) → marked s n ≡ true → with_mark n s ≡ s
unfolding marked with_mark with_bit
mark_known s n e = rw e (set-get_or s (n / 8) 0)

-- ---- several, one after the other

pub length_marks : (n k : ℕ) (s : List ℕ) → n + k ≤ 8 * length s → length (with_marks n k s) ≡ length s
unfolding with_marks
length_marks n zero s h = refl
length_marks n (suc k) s h =
    let e = length_with s n (omega arith) in
    length_marks (suc n) k (with_mark n s) (omega arith) ∙ e

pub octets_marks : (n k : ℕ) (s : List ℕ) → n + k ≤ 8 * length s → Octets s → Octets (with_marks n k s)
unfolding with_marks
octets_marks n zero s h o = o
octets_marks n (suc k) s h o =
    let e = length_with s n (omega arith) in
    octets_marks (suc n) k (with_mark n s) (omega arith) (octets_with s n (omega arith) o)

-- the marks from n on, k of them, are set then, and every other stays
pub marks_other : (n k : ℕ) (s : List ℕ) (m : ℕ) → n + k ≤ 8 * length s → (m < n) ⊎ (n + k ≤ m) → marked (with_marks n k s) m ≡ marked s m
unfolding with_marks
marks_other n zero s m h o = refl
marks_other n (suc k) s m h o =
    let e = length_with s n (omega arith) in
    marks_other (suc n) k (with_mark n s) m (omega arith) (⊎_elim (λ (u : m < n). inl (omega arith)) (λ (u : n + suc k ≤ m). inr (omega arith)) o)
    ∙ mark_stays s n (omega arith) m (⊎_elim (λ (u : m < n) z. omega arith) (λ (u : n + suc k ≤ m) z. omega arith) o)

pub marks_set : (n k : ℕ) (s : List ℕ) (m : ℕ) → n + k ≤ 8 * length s → n ≤ m → m < n + k → marked (with_marks n k s) m ≡ true
unfolding with_marks
marks_set n zero s m h p q = absurd (omega arith)
marks_set n (suc k) s m h p q =
    let e = length_with s n (omega arith) in
    ⊎_elim (λ (u : suc n ≤ m). marks_set (suc n) k (with_mark n s) m (omega arith) u (omega arith))
    (λ (u : m < suc n). let i : m ≡ n = omega arith in rw i (marks_other (suc n) k (with_mark n s) n (omega arith) (inl (omega arith)) ∙ mark_set s n (omega arith)))
    (le_or_lt (suc n) m)

-- R6.7: where all of them are set already, every octet stays
pub marks_known : (n k : ℕ) (s : List ℕ) → ((m : ℕ) → n ≤ m → m < n + k → marked s m ≡ true) → with_marks n k s ≡ s
unfolding with_marks
marks_known n zero s f = refl
marks_known n (suc k) s f = rw (mark_known s n (f n (omega arith) (omega arith))) (marks_known (suc n) k s (λ m p q. f m (omega arith) (omega arith)))

-- setting some and then those after them is setting them all
pub marks_add : (n j k : ℕ) (s : List ℕ) → with_marks n (j + k) s ≡ with_marks (n + j) k (with_marks n j s)
unfolding with_marks
marks_add n zero k s = rw (zero-add k, add-zero n)
marks_add n (suc j) k s =
    let p : suc j + k ≡ suc (j + k) = omega arith in
    let q : n + suc j ≡ suc n + j = omega arith in
    rw (p, q) (marks_add (suc n) j k (with_mark n s))

-- octets that hold none of them stay
octet_other : (n k : ℕ) (s : List ℕ) (j : ℕ) → n + k ≤ 8 * length s → (j * 8 + 8 ≤ n) ⊎ (n + k ≤ j * 8) → get_or (with_marks n k s) j 0 ≡ get_or s j 0
unfolding with_marks with_mark
octet_other n zero s j h o = refl
octet_other n (suc k) s j h o =
    let e = length_with s n (omega arith) in
    octet_other (suc n) k (with_mark n s) j (omega arith) (⊎_elim (λ (u : j * 8 + 8 ≤ n). inl (omega arith)) (λ (u : n + suc k ≤ j * 8). inr (omega arith)) o)
    ∙ get_or-set_other s (n / 8) j (with_bit (get_or s (n / 8) 0) (n % 8)) 0 (⊎_elim (λ (u : j * 8 + 8 ≤ n) z. omega arith) (λ (u : n + suc k ≤ j * 8) z. omega arith) o)

-- and so do those past the marks
pub marks_past : (n k : ℕ) (s : List ℕ) (q : ℕ) → n + k ≤ q * 8 → drop q (with_marks n k s) ≡ drop q s
unfolding with_marks with_mark
marks_past n zero s q h = refl
marks_past n (suc k) s q h = marks_past (suc n) k (with_mark n s) q (omega arith) ∙ drop-set-lt q s (n / 8) (with_bit (get_or s (n / 8) 0) (n % 8)) (omega arith)

-- all marks of an octet, set at once
pub octet_set : (k : ℕ) (s : List ℕ) → k < length s → Octets s → with_marks (k * 8) 8 s ≡ set s k 255
unfolding marked
octet_set k s h o =
    let l = length_marks (k * 8) 8 s (omega arith) in
    ext_get_or 0 (with_marks (k * 8) 8 s) (set s k 255) (l ∙ sym (length-set s k 255))
    (λ i u. ⊎_elim
    (λ (e : i ≡ k). rw (e, get_or-set_same s k 255 0 h) (all_ones _ (octets_marks (k * 8) 8 s (omega arith) o k)
    (λ j v. let p : (k * 8 + j) / 8 ≡ k = omega arith in let q : (k * 8 + j) % 8 ≡ j = omega arith in
    rw (p, q) at (marks_set (k * 8) 8 s (k * 8 + j) (omega arith) (omega arith) (omega arith)))))
    (λ (e : i ≡ k → ⊥). octet_other (k * 8) 8 s i (omega arith) (⊎_elim (λ (w : i ≤ k). inl (omega arith)) (λ (w : k < i). inr (omega arith)) (le_or_lt i k))
    ∙ sym (get_or-set_other s k i 255 0 e))
    (same_or i k))

-- ---- the runs

-- setting marks inserts their stretch
pub runs_inserted : (s : List ℕ) (n k : ℕ) → 0 < k → n + k ≤ mark_count → mark_octets ≤ length s
    → marked_runs (with_marks n k s) ≡ insert n (n + k) (marked_runs s)
unfolding marked_runs
runs_inserted s n k p q h =
    where_insert (marked s) (marked (with_marks n k s)) 0 mark_count n (n + k) (omega arith) (omega arith) (omega arith)
    (λ x e. ⊎_elim (λ (u : n ≤ x). ⊎_elim (λ (v : n + k ≤ x). marks_other n k s x (omega arith) (inr v) ∙ e) (λ (v : x < n + k). marks_set n k s x (omega arith) u v) (le_or_lt (n + k) x))
    (λ (u : x < n). marks_other n k s x (omega arith) (inl u) ∙ e) (le_or_lt n x))
    (λ x u v. marks_set n k s x (omega arith) u v)
    (λ x e. ⊎_elim (λ (u : n ≤ x). ⊎_elim (λ (v : n + k ≤ x). inr (sym (marks_other n k s x (omega arith) (inr v)) ∙ e)) (λ (v : x < n + k). inl (u, v)) (le_or_lt (n + k) x))
    (λ (u : x < n). inr (sym (marks_other n k s x (omega arith) (inl u)) ∙ e)) (le_or_lt n x))

-- clearing leaves none
zeros_first : (n i : ℕ) (r : List ℕ) → i < n → get_or (put 0 (replicate n 0) r) i 0 ≡ 0
unfolding put
zeros_first n i r h = let l : length {A = ℕ} (replicate n 0) ≡ n = length-replicate n 0 in get_or-append (replicate n 0) _ 0 i (omega arith) ∙ get_or-replicate n i 0 0 h

zeros_past : (n : ℕ) (r : List ℕ) → n ≤ length r → (drop n (put 0 (replicate n 0) r) ≡ drop n r) × (length (put 0 (replicate n 0) r) ≡ length r)
zeros_past n r h =
    let l : length {A = ℕ} (replicate n 0) ≡ n = length-replicate n 0 in
    (drop_after 0 (replicate n 0) r (omega arith) n (omega arith), length_put 0 (replicate n 0) r (omega arith))

pub cleared_none : (s : List ℕ) (n : ℕ) → n < mark_count → marked (cleared s) n ≡ false
unfolding marked cleared
cleared_none s n h = rw (zeros_first mark_octets (n / 8) s (omega arith)) (zeros_bit (n % 8) (mod-lt n (omega arith)))

pub cleared_past : (s : List ℕ) → mark_octets ≤ length s → drop mark_octets (cleared s) ≡ drop mark_octets s
unfolding cleared
cleared_past s h = (zeros_past mark_octets s h).0

pub length_cleared : (s : List ℕ) → mark_octets ≤ length s → length (cleared s) ≡ length s
unfolding cleared
length_cleared s h = (zeros_past mark_octets s h).1

pub runs_cleared : (s : List ℕ) → marked_runs (cleared s) ≡ []
unfolding marked_runs
runs_cleared s =
    where_unique (marked (cleared s)) 0 mark_count [] tt
    (λ x p q e. let i : marked (cleared s) x ≡ false = cleared_none s x (omega arith) in let z : ◌≡◌ {A = ℕ} 0 1 = cc in absurd (omega arith))
    (λ x m. absurd m)

-- they are a canonical list, whose members are the offsets that are marked
pub marked_canonical : (s : List ℕ) → Canonical (marked_runs s)
unfolding marked_runs
marked_canonical s = where_canonical (marked s) 0 mark_count

pub marked_member : (s : List ℕ) (x : ℕ) → Member (marked_runs s) x ↔ ((x < mark_count) × (marked s x ≡ true))
unfolding marked_runs
marked_member s x =
    ((λ m. let i = where_only (marked s) 0 mark_count x m in (omega arith, i.2)), (λ p. where_holds (marked s) 0 mark_count x (omega arith) (omega arith) p.1))
