-- The places of the layout: the number of a word is one of three forms, what is stored there, and the table that is read from them.
-- Assumes nothing.
use Prim.Native.Nat.{ℕ, zero, suc, ◌+◌, ◌-◌, ◌/◌, ◌%◌, ◌^◌, ◌≤◌, ◌<◌}
use mathlib.Core.Path.{◌≡◌, refl, sym, ap, ap₂, subst, ◌∙◌}
use mathlib.Core.List.{List, [], ◌∷◌, ◌++◌}
use mathlib.Core.Logic.{inl, inr, ⊎_elim}
use mathlib.Core.Bool.{Bool, cond}
use native.Mathlib.Omega.{arith}
use native.Mathlib.Nat.{add-zero, zero-add}
use native.Mathlib.Decide.{ℕ_discrete}
use lib.ListN.{length, get_or, drop, length-drop, take-append-drop, get_or-eq_default}
use lib.Seq.{ext_get_or, take_all, drop_at}
use borrow.Author.Tests.{lt-ltb, le-ltb, eq-eqb, ne_eqb}
use Rattle.octets.specs.Numbers.{Octets, le_digits}
use Rattle.octets.proofs.LowFirstLaws.{length_low_digits, low_value_digits, low_front_value, low_part_digits}
use Rattle.words.proofs.WordLaws.{word_fits}
use Rattle.runs.specs.Runs.{Run, run, nth_run}
use Rattle.runs.proofs.CompareLaws.{le_or_lt}
use Rattle.words.specs.Words.{word_at}
use Rattle.run_rows.specs.Rows.{runs_in, RowsFit}
use Rattle.run_rows.specs.declared.Rows.{Rows}
use Rattle.run_rows.proofs.RowsLaws.{length_runs, run_at_lem}
use Rattle.timestamp.specs.Timestamps.{Stamp}
use Rattle.transfer.specs.Transfers.{Transfer, transfer_of}
use Rattle.area.specs.Layout.{transfer_places, run_places, head_words, stamp_words, heads_at, starts_at, stamps_at, area_words, area_octets, head_at, run_at, half_at, count_field, stamped_field}
use Rattle.area.specs.Places.{rows_at, transfer_at, transfers_from, read_table, unused, nth, field, side_of, run_number, stamp_by, stamp_at, stamp_code, half_of, Holds, HoldsHalves}
use Rattle.area.specs.Stored.{head_or, run_or, half_or, word_or}

-- ---- the three forms

pub place_cases : (P : ℕ → Type 0) → P 0
    → ((i f : ℕ) → i < transfer_places → f < head_words → P (head_at i f))
    → ((s i j : ℕ) → s < 2 → i < transfer_places → j < run_places → P (run_at s i j))
    → ((i f : ℕ) → i < transfer_places → f < stamp_words → P (half_at i f))
    → (k : ℕ) → k < area_words → P k
place_cases P z h r s zero l = z
place_cases P z h r s (suc k) l =
    ⊎_elim
    (λ (p : starts_at ≤ suc k).
    ⊎_elim
    (λ (q : stamps_at ≤ suc k).
    let n = suc k - stamps_at in
    let x : half_at (n / stamp_words) (n % stamp_words) ≡ suc k = omega arith in
    subst P x (s (n / stamp_words) (n % stamp_words) (omega arith) (omega arith)))
    (λ (q : suc k < stamps_at).
    let n = suc k - starts_at in
    let x : run_at (n / 1024) (n % 1024 / run_places) (n % 1024 % run_places) ≡ suc k = omega arith in
    subst P x (r (n / 1024) (n % 1024 / run_places) (n % 1024 % run_places) (omega arith) (omega arith) (omega arith)))
    (le_or_lt stamps_at (suc k)))
    (λ (p : suc k < starts_at).
    let x : head_at (k / head_words) (k % head_words) ≡ suc k = omega arith in
    subst P x (h (k / head_words) (k % head_words) (omega arith) (omega arith)))
    (le_or_lt starts_at (suc k))

pub or_count : (t : List Transfer) (old : ℕ) → word_or t 0 old ≡ length t
unfolding word_or
or_count t old = refl

pub or_head : (t : List Transfer) (i f old : ℕ) → i < transfer_places → f < head_words → word_or t (head_at i f) old ≡ head_or t i f old
unfolding word_or
or_head t i f old h g =
    let a : (head_at i f - heads_at) / head_words ≡ i = omega arith in
    let b : (head_at i f - heads_at) % head_words ≡ f = omega arith in
    rw (ne_eqb (head_at i f) 0 (λ z. omega arith), lt-ltb (head_at i f) starts_at (omega arith), a, b)

pub or_run : (t : List Transfer) (s i j old : ℕ) → s < 2 → i < transfer_places → j < run_places → word_or t (run_at s i j) old ≡ run_or t s i j old
unfolding word_or
or_run t s i j old l h g =
    let a : (run_at s i j - starts_at) / 1024 ≡ s = omega arith in
    let b : (run_at s i j - starts_at) % 1024 / run_places ≡ i = omega arith in
    let c : (run_at s i j - starts_at) % 1024 % run_places ≡ j = omega arith in
    rw (ne_eqb (run_at s i j) 0 (λ z. omega arith), le-ltb (run_at s i j) starts_at (omega arith), lt-ltb (run_at s i j) stamps_at (omega arith), a, b, c)

pub or_half : (t : List Transfer) (i h old : ℕ) → i < transfer_places → h < stamp_words → word_or t (half_at i h) old ≡ half_or t i h old
unfolding word_or
or_half t i h old p q =
    let a : (half_at i h - stamps_at) / stamp_words ≡ i = omega arith in
    let b : (half_at i h - stamps_at) % stamp_words ≡ h = omega arith in
    rw (ne_eqb (half_at i h) 0 (λ z. omega arith), le-ltb (half_at i h) starts_at (omega arith), le-ltb (half_at i h) stamps_at (omega arith), a, b)

-- what stands at a place that is used, and at one that is not
pub head_used : (t : List Transfer) (i f old : ℕ) → i < length t → head_or t i f old ≡ field (nth t i) f
unfolding head_or
head_used t i f old p = rw (lt-ltb i (length t) p)

pub head_free : (t : List Transfer) (i f old : ℕ) → length t ≤ i → head_or t i f old ≡ old
unfolding head_or
head_free t i f old p = ap (λ (b : Bool). cond b (field (nth t i) f) old) (le-ltb i (length t) p)

pub run_used : (t : List Transfer) (s i j old : ℕ) → j < length (nth t i).runs → run_or t s i j old ≡ run_number t s i j
unfolding run_or
run_used t s i j old p = rw (lt-ltb j (length (nth t i).runs) p)

pub run_free : (t : List Transfer) (s i j old : ℕ) → length (nth t i).runs ≤ j → run_or t s i j old ≡ old
unfolding run_or
run_free t s i j old p = ap (λ (b : Bool). cond b (run_number t s i j) old) (le-ltb j (length (nth t i).runs) p)

pub half_used : (t : List Transfer) (i h old : ℕ) → stamp_code (nth t i).stamp ≡ 1 → half_or t i h old ≡ half_of (nth t i).stamp h
unfolding half_or
half_used t i h old p = rw (eq-eqb (stamp_code (nth t i).stamp) 1 p)

pub half_free : (t : List Transfer) (i h old : ℕ) → (stamp_code (nth t i).stamp ≡ 1 → ⊥) → half_or t i h old ≡ old
unfolding half_or
half_free t i h old p = ap (λ (b : Bool). cond b (half_of (nth t i).stamp h) old) (ne_eqb (stamp_code (nth t i).stamp) 1 p)

-- halves are used only where their transfer is there
pub half_there : (t : List Transfer) (i : ℕ) → stamp_code (nth t i).stamp ≡ 1 → i < length t
unfolding stamp_code
half_there t i h =
    ⊎_elim
    (λ (p : length t ≤ i). absurd (omega (arith, ap (λ (x : Transfer). stamp_code x.stamp) (get_or-eq_default t unused {n = i} p))))
    (λ (p : i < length t). p)
    (le_or_lt (length t) i)

-- a place of a run is used only where its transfer is there
pub run_there : (t : List Transfer) (i j : ℕ) → j < length (nth t i).runs → i < length t
run_there t i j h =
    ⊎_elim
    (λ (p : length t ≤ i). absurd (omega (arith, ap (λ (x : Transfer). length x.runs) (get_or-eq_default t unused {n = i} p))))
    (λ (p : i < length t). p)
    (le_or_lt (length t) i)

-- ---- stored and held are the same thing

-- few enough transfers and runs for the layout
pub record Few (t : List Transfer) : Type 0 where
  pub transfers : length t ≤ transfer_places
  pub runs : (i : ℕ) → length (nth t i).runs ≤ run_places

-- where an area holds t, storing t changes no word
pub holds_stored : (a : List ℕ) (t : List Transfer) → Holds a t → HoldsHalves a t → (k : ℕ) → k < area_words → word_or t k (word_at a k) ≡ word_at a k
holds_stored a t h s =
    place_cases (λ k. word_or t k (word_at a k) ≡ word_at a k)
    (or_count t (word_at a 0) ∙ sym h.count)
    (λ i f p q.
    or_head t i f (word_at a (head_at i f)) p q
    ∙ ⊎_elim
    (λ (o : length t ≤ i). head_free t i f (word_at a (head_at i f)) o)
    (λ (o : i < length t). head_used t i f (word_at a (head_at i f)) o ∙ sym (h.heads i f o q))
    (le_or_lt (length t) i))
    (λ s i j l p q.
    or_run t s i j (word_at a (run_at s i j)) l p q
    ∙ ⊎_elim
    (λ (o : length (nth t i).runs ≤ j). run_free t s i j (word_at a (run_at s i j)) o)
    (λ (o : j < length (nth t i).runs). run_used t s i j (word_at a (run_at s i j)) o ∙ sym (h.sides s i j l (run_there t i j o) o))
    (le_or_lt (length (nth t i).runs) j))
    (λ i f p q. or_half t i f (word_at a (half_at i f)) p q ∙ half i f q (ℕ_discrete (stamp_code (nth t i).stamp) 1))
  where
    half : (i f : ℕ) → f < stamp_words → Dec (stamp_code (nth t i).stamp ≡ 1) → half_or t i f (word_at a (half_at i f)) ≡ word_at a (half_at i f)
    half i f q (yes e) = half_used t i f (word_at a (half_at i f)) e ∙ sym (s i f q (half_there t i e) e)
    half i f q (no n) = half_free t i f (word_at a (half_at i f)) n

-- an area whose words are those of t stored in another holds t
pub stored_holds : (a b : List ℕ) (t : List Transfer) → Few t → ((k : ℕ) → k < area_words → word_at b k ≡ word_or t k (word_at a k)) → Holds b t
stored_holds a b t few w =
    let n : length t ≤ transfer_places = few.transfers in
    record {
      count = w 0 (omega arith) ∙ or_count t (word_at a 0);
      heads = λ i f p q.
          w (head_at i f) (omega arith) ∙ or_head t i f (word_at a (head_at i f)) (omega arith) q ∙ head_used t i f (word_at a (head_at i f)) p;
      sides = λ s i j l p q.
          let m : length (nth t i).runs ≤ run_places = few.runs i in
          w (run_at s i j) (omega arith)
          ∙ or_run t s i j (word_at a (run_at s i j)) l (omega arith) (omega arith) ∙ run_used t s i j (word_at a (run_at s i j)) q;
    }

-- ---- the table that is read

pub length_transfers : (a : List ℕ) (i n : ℕ) → length (transfers_from a i n) ≡ n
unfolding transfers_from
length_transfers a i zero = refl
length_transfers a i (suc n) = ap suc (length_transfers a (suc i) n)

transfer_from : (a : List ℕ) (i n k : ℕ) → k < n → nth (transfers_from a i n) k ≡ transfer_at a (i + k)
unfolding transfers_from
transfer_from a i zero k h = absurd (omega arith)
transfer_from a i (suc n) zero h = ap (transfer_at a) (sym (add-zero i))
transfer_from a i (suc n) (suc k) h =
    let e : suc i + k ≡ i + suc k = omega arith in
    transfer_from a (suc i) n k (omega arith) ∙ ap (transfer_at a) e

pub transfer_at_lem : (a : List ℕ) (k : ℕ) → k < word_at a 0 → nth (read_table a) k ≡ transfer_at a k
transfer_at_lem a k h = transfer_from a 0 (word_at a 0) k h ∙ ap (transfer_at a) (zero-add k)

-- the word of a run, by its number
pub side_at : (a : List ℕ) (s i j : ℕ) → s < 2 → j < word_at a (head_at i count_field)
    → word_at a (run_at s i j) ≡ side_of (nth_run (transfer_at a i).runs j) s
side_at a zero i j l q =
    let e : run_at 0 i j ≡ run_at 0 i 0 + j = omega arith in
    ap (word_at a) e ∙ ap (λ (r : Run). r.start) (sym (run_at_lem a (run_at 0 i 0) (run_at 1 i 0) (word_at a (head_at i count_field)) j q))
side_at a (suc zero) i j l q =
    let e : run_at 1 i j ≡ run_at 1 i 0 + j = omega arith in
    ap (word_at a) e ∙ ap (λ (r : Run). r.stop) (sym (run_at_lem a (run_at 0 i 0) (run_at 1 i 0) (word_at a (head_at i count_field)) j q))
side_at a (suc (suc s)) i j l q = absurd (omega arith)

-- the rows at a place lie in the area
pub rows_fit : (a : List ℕ) (i : ℕ) (r : Rows) → r ≡ rows_at a i → area_octets ≤ length a → i < transfer_places → r.count ≤ run_places → RowsFit a r
rows_fit a i r e long p few =
    let s : r.starts ≡ run_at 0 i 0 = ap (λ (x : Rows). x.starts) e in
    let t : r.stops ≡ run_at 1 i 0 = ap (λ (x : Rows). x.stops) e in
    record { starts_fit = omega arith; stops_fit = omega arith }

-- the number and the halves of a timestamp, and back
code_by : (n x y : ℕ) → stamp_code (stamp_by n x y) ≡ n
unfolding stamp_code stamp_by le_digits
code_by zero x y = refl
code_by (suc zero) x y = refl
code_by (suc (suc n)) x y = refl

half_by : (n x y h : ℕ) → h < stamp_words → x < 2 ^ 64 → y < 2 ^ 64 → stamp_code (stamp_by n x y) ≡ 1 → half_of (stamp_by n x y) h ≡ get_or (x ∷ y ∷ []) h 0
unfolding stamp_by
half_by zero x y h l p q e = absurd (omega (arith, code_by 0 x y))
half_by (suc zero) x y zero l p q e = low_front_value 8 x (le_digits 8 y) p
half_by (suc zero) x y (suc zero) l p q e =
    rw (drop_at (le_digits 8 x) (le_digits 8 y) 8 (length_low_digits 8 x), take_all 8 (le_digits 8 y) (omega (arith, length_low_digits 8 y))) (low_value_digits 8 y q)
half_by (suc zero) x y (suc (suc h)) l p q e = absurd (omega arith)
half_by (suc (suc n)) x y h l p q e = absurd (omega (arith, code_by (suc (suc n)) x y))

by_none : (x y : ℕ) → stamp_by 0 x y ≡ []
unfolding stamp_by
by_none x y = refl

by_some : (x y : ℕ) → stamp_by 1 x y ≡ le_digits 8 x ++ le_digits 8 y
unfolding stamp_by
by_some x y = refl

pub code_none : stamp_code [] ≡ 0
unfolding stamp_code
code_none = refl

pub code_sixteen : (s : List ℕ) → length s ≡ 16 → stamp_code s ≡ 1
unfolding stamp_code
code_sixteen [] e = absurd (omega arith)
code_sixteen (o ∷ []) e = absurd (omega arith)
code_sixteen (o ∷ p ∷ s) e = refl

-- a timestamp is what its number and its halves say
by_halves : (s : List ℕ) (n x y : ℕ) → Stamp s → n ≡ stamp_code s → (stamp_code s ≡ 1 → (x ≡ half_of s 0) × (y ≡ half_of s 1)) → stamp_by n x y ≡ s
by_halves s n x y (inl e) c f =
    let z : n ≡ 0 = c ∙ ap stamp_code e ∙ code_none in
    rw (z, e) (by_none x y)
by_halves s n x y (inr e) c f =
    let one : stamp_code s ≡ 1 = code_sixteen s e.0 in
    let z : n ≡ 1 = c ∙ one in
    let g = f one in
    let long : length (drop 8 s) ≡ 8 = length-drop 8 s ∙ omega (arith, e.0) in
    rw (z, by_some x y, g.0, g.1, low_part_digits s 0 8 e.1 (omega (arith, e.0)), low_part_digits s 8 8 e.1 (omega (arith, e.0)), take_all 8 (drop 8 s) (omega arith))
    (take-append-drop 8 s)

-- an area of octets holds the halves that are read from it
pub read_halves : (a : List ℕ) → Octets a → area_octets ≤ length a → word_at a 0 ≤ transfer_places → HoldsHalves a (read_table a)
read_halves a o long few i h l p c =
    let n : length (read_table a) ≡ word_at a 0 = length_transfers a 0 (word_at a 0) in
    let e : nth (read_table a) i ≡ transfer_at a i = transfer_at_lem a i (omega arith) in
    let d : stamp_code (stamp_at a i) ≡ 1 = ap (λ (x : Transfer). stamp_code x.stamp) (sym e) ∙ c in
    sym
    (ap (λ (x : Transfer). half_of x.stamp h) e
    ∙ half_by (word_at a (head_at i stamped_field)) (word_at a (half_at i 0)) (word_at a (half_at i 1)) h l
    (word_fits a (half_at i 0) o (omega arith)) (word_fits a (half_at i 1) o (omega arith)) d
    ∙ at h l)
  where
    at : (h : ℕ) → h < stamp_words → get_or (word_at a (half_at i 0) ∷ word_at a (half_at i 1) ∷ []) h 0 ≡ word_at a (half_at i h)
    at zero l = refl
    at (suc zero) l = refl
    at (suc (suc h)) l = absurd (omega arith)

-- an area holds what is read from it
pub read_holds : (a : List ℕ) → Holds a (read_table a)
read_holds a =
    let l : length (read_table a) ≡ word_at a 0 = length_transfers a 0 (word_at a 0) in
    record {
      count = sym l;
      heads = λ i f p q. head i f q ∙ ap (λ (x : Transfer). field x f) (sym (transfer_at_lem a i (omega arith)));
      sides = λ s i j o p q.
          let n : length (nth (read_table a) i).runs ≡ word_at a (head_at i count_field) =
          ap (λ (x : Transfer). length x.runs) (transfer_at_lem a i (omega arith)) ∙ length_runs a (run_at 0 i 0) (run_at 1 i 0) (word_at a (head_at i count_field)) in
          side_at a s i j o (omega arith) ∙ ap (λ (x : Transfer). side_of (nth_run x.runs j) s) (sym (transfer_at_lem a i (omega arith)));
    }
  where
    head : (i f : ℕ) → f < head_words → word_at a (head_at i f) ≡ field (transfer_at a i) f
    head i zero q = refl
    head i (suc zero) q = refl
    head i (suc (suc zero)) q = refl
    head i (suc (suc (suc zero))) q = sym (length_runs a (run_at 0 i 0) (run_at 1 i 0) (word_at a (head_at i count_field)))
    head i (suc (suc (suc (suc zero)))) q = sym (code_by (word_at a (head_at i stamped_field)) (word_at a (half_at i 0)) (word_at a (half_at i 1)))
    head i (suc (suc (suc (suc (suc f))))) q = absurd (omega arith)

-- and what an area holds is read from it
module _ (a : List ℕ) (t : List Transfer) (h : Holds a t) (s : HoldsHalves a t) (fine : (i : ℕ) → i < length t → Stamp (nth t i).stamp) where
  runs_read : (i : ℕ) → i < length t → runs_in a (rows_at a i) ≡ (nth t i).runs
  runs_read i p =
      let c : ℕ = word_at a (head_at i count_field) in
      let n : c ≡ length (nth t i).runs = h.heads i count_field p (omega arith) in
      let l : length (runs_in a (rows_at a i)) ≡ c = length_runs a (run_at 0 i 0) (run_at 1 i 0) c in
      ext_get_or (run 0 0) (runs_in a (rows_at a i)) (nth t i).runs (l ∙ n)
      (λ j q.
      let e : run_at 0 i 0 + j ≡ run_at 0 i j = omega arith in
      let g : run_at 1 i 0 + j ≡ run_at 1 i j = omega arith in
      run_at_lem a (run_at 0 i 0) (run_at 1 i 0) c j (omega arith)
      ∙ ap₂ run (ap (word_at a) e ∙ h.sides 0 i j (omega arith) p (omega arith)) (ap (word_at a) g ∙ h.sides 1 i j (omega arith) p (omega arith)))

  transfer_read : (i : ℕ) → i < length t → transfer_at a i ≡ nth t i
  transfer_read i p =
      let x = h.heads i 0 p (omega arith) in
      let y = h.heads i 1 p (omega arith) in
      let z = h.heads i 2 p (omega arith) in
      let r = runs_read i p in
      let m : stamp_at a i ≡ (nth t i).stamp =
      by_halves (nth t i).stamp (word_at a (head_at i stamped_field)) (word_at a (half_at i 0)) (word_at a (half_at i 1)) (fine i p)
      (h.heads i stamped_field p (omega arith)) (λ c. (s i 0 (omega arith) p c, s i 1 (omega arith) p c)) in
      λ w. transfer_of (record { id = x w; width = y w; length = z w }) (r w) (m w)

  pub holds_read : read_table a ≡ t
  holds_read =
      let l : length (read_table a) ≡ word_at a 0 = length_transfers a 0 (word_at a 0) in
      let n : word_at a 0 ≡ length t = h.count in
      ext_get_or unused (read_table a) t (l ∙ n) (λ i p. transfer_at_lem a i (omega arith) ∙ transfer_read i (omega arith))
