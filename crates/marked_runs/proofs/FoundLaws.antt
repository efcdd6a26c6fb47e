-- The runs that the walk finds, stored one after the other: those that stand in the rows and those that are still to come are all runs.
-- Assumes nothing.
use Prim.Native.Nat.{ℕ, ◌+◌, ◌-◌, ◌^◌, ◌≤◌, ◌<◌}
use mathlib.Core.Path.{◌≡◌, sym, ap, ◌∙◌}
use mathlib.Core.Bool.{true, false}
use mathlib.Core.List.{List, [], ◌∷◌, ◌++◌, append-nil, append_assoc}
use mathlib.Core.Logic.{⊎_elim}
use native.Mathlib.Nat.{zero-add}
use native.Mathlib.Omega.{arith}
use lib.ListN.{length, length-append, get_or-append}
use lib.Seq.{get_or-append_seam}
use Rattle.words.specs.Words.{word_at, put_word}
use Rattle.words.proofs.RowLaws.{put_length, put_at, put_other}
use Rattle.runs.specs.Runs.{Run, run, nth_run, Member}
use Rattle.runs.specs.Holes.{progress}
use Rattle.runs.proofs.CompareLaws.{le_or_lt}
use Rattle.runs.proofs.ProgressLaws.{progress_unique}
use Rattle.run_rows.specs.Rows.{runs_from, runs_in}
use Rattle.run_rows.proofs.RowsLaws.{length_runs, start_at, stop_at, runs_are}
use Rattle.marks.specs.Marks.{marked, mark_count}
use Rattle.marks.specs.MarkedRuns.{runs_where, marked_runs}
use Rattle.marks.specs.Walk.{FirstWith, run_rows, RunsFound}
use Rattle.marks.proofs.MarkLaws.{marked_canonical, marked_member}
use Rattle.marks.proofs.MarkedRunsLaws.{where_holds, where_none, where_skip, where_run}

-- ---- one more run stored

module _ (a b c : List ℕ) (n lo hi : ℕ) (few : n < 64) (room : 1024 ≤ length a) (lo-fits : lo < 2 ^ 64) (hi-fits : hi < 2 ^ 64)
    (is : b ≡ put_word n lo a) (and : c ≡ put_word (64 + n) hi b) where
  length_b : length b ≡ length a
  length_b = ap length is ∙ put_length a n lo (omega arith)

  word_kept : (j : ℕ) → (j ≡ n → ⊥) → (j ≡ 64 + n → ⊥) → word_at c j ≡ word_at a j
  word_kept j p q =
      let l = length_b in
      ap (λ (x : List ℕ). word_at x j) and ∙ put_other b (64 + n) hi (omega arith) j q
      ∙ ap (λ (x : List ℕ). word_at x j) is ∙ put_other a n lo (omega arith) j p

  word_low : word_at c n ≡ lo
  word_low =
      let l = length_b in
      ap (λ (x : List ℕ). word_at x n) and ∙ put_other b (64 + n) hi (omega arith) n (λ z. omega arith)
      ∙ ap (λ (x : List ℕ). word_at x n) is ∙ put_at a n lo (omega arith) lo-fits

  word_high : word_at c (64 + n) ≡ hi
  word_high = let l = length_b in ap (λ (x : List ℕ). word_at x (64 + n)) and ∙ put_at b (64 + n) hi (omega arith) hi-fits

  rows_next : runs_in c (run_rows (n + 1)) ≡ runs_in a (run_rows n) ++ (run lo hi ∷ [])
  rows_next =
      let l : length (runs_from a 0 64 n) ≡ n = length_runs a 0 64 n in
      runs_are c 0 64 (n + 1) (runs_from a 0 64 n ++ (run lo hi ∷ [])) (length-append (runs_from a 0 64 n) (run lo hi ∷ []) ∙ rw l)
      (λ j h. ⊎_elim
      (λ (u : n ≤ j). let i : j ≡ n = omega arith in rw (i, zero-add n) (word_low ∙ sym (ap (λ (r : Run). r.start) last)))
      (λ (u : j < n). word_kept (0 + j) (λ z. omega arith) (λ z. omega arith) ∙ start_at a 0 64 n j u ∙ sym (ap (λ (r : Run). r.start) (earlier j u)))
      (le_or_lt n j))
      (λ j h. ⊎_elim
      (λ (u : n ≤ j). let i : j ≡ n = omega arith in rw i (word_high ∙ sym (ap (λ (r : Run). r.stop) last)))
      (λ (u : j < n). word_kept (64 + j) (λ z. omega arith) (λ z. omega arith) ∙ stop_at a 0 64 n j u ∙ sym (ap (λ (r : Run). r.stop) (earlier j u)))
      (le_or_lt n j))
    where
      earlier : (j : ℕ) → j < n → nth_run (runs_from a 0 64 n ++ (run lo hi ∷ [])) j ≡ nth_run (runs_from a 0 64 n) j
      earlier j u = get_or-append (runs_from a 0 64 n) (run lo hi ∷ []) (run 0 0) j (omega (arith, length_runs a 0 64 n))

      last : nth_run (runs_from a 0 64 n ++ (run lo hi ∷ [])) n ≡ run lo hi
      last = rw (length_runs a 0 64 n) at (get_or-append_seam (runs_from a 0 64 n) (run lo hi) [] (run 0 0))

-- ---- the walk

member_some : (rs : List Run) (x : ℕ) → Member rs x → 1 ≤ length rs
member_some [] x m = absurd m
member_some (r ∷ rs) x m = omega arith

module _ (s : List ℕ) where
  -- where it begins: at the first mark
  pub walk_starts : (rows : List ℕ) (start : ℕ) → FirstWith (marked s) true 0 mark_count start
      → runs_in rows (run_rows 0) ++ runs_where (marked s) start (mark_count - start) ≡ marked_runs s
  unfolding marked_runs runs_from
  walk_starts rows start f = sym (where_skip (marked s) 0 start mark_count f.passed f.within)

  -- a run from a mark to the first offset after it that is not marked
  some_run : (start stop : ℕ) → start < mark_count → marked s start ≡ true → FirstWith (marked s) false start mark_count stop
      → (start < stop) × (runs_where (marked s) start (mark_count - start) ≡ run start stop ∷ runs_where (marked s) stop (mark_count - stop))
  some_run start stop h m f =
      let p : start < stop = ⊎_elim
      (λ (u : stop ≤ start).
      let i : stop ≡ start = omega (arith, f.passed.rise) in
      let e : marked s stop ≡ false = f.found (omega arith) in
      let k : marked s start ≡ false = rw i at e in
      let z : ◌≡◌ {A = ℕ} 0 1 = cc in absurd (omega arith))
      (λ (u : start < stop). u) (le_or_lt stop start) in
      (p, where_run (marked s) start stop mark_count p f.within f.passed f.found)

  -- one turn: the run is stored, and the next mark looked for
  pub walk_turns : (a b c : List ℕ) (n start stop next : ℕ) → n < 64 → 1024 ≤ length a → start < mark_count → marked s start ≡ true
      → FirstWith (marked s) false start mark_count stop → b ≡ put_word n start a → c ≡ put_word (64 + n) stop b → FirstWith (marked s) true stop mark_count next
      → runs_in a (run_rows n) ++ runs_where (marked s) start (mark_count - start) ≡ marked_runs s
      → runs_in c (run_rows (n + 1)) ++ runs_where (marked s) next (mark_count - next) ≡ marked_runs s
  walk_turns a b c n start stop next few room h m f is and g e =
      let r = some_run start stop h m f in
      rw (rows_next a b c n start stop few room (omega arith) (omega (arith, f.within)) is and, append_assoc, ← where_skip (marked s) stop next mark_count g.passed g.within, ← r.1) e

  -- past the last mark all runs are stored
  pub walk_ends : (rows : List ℕ) (n start : ℕ) → n ≤ 64 → mark_count ≤ start
      → runs_in rows (run_rows n) ++ runs_where (marked s) start (mark_count - start) ≡ marked_runs s → RunsFound s rows n
  walk_ends rows n start few h e =
      let i : mark_count - start ≡ 0 = omega arith in
      let f : runs_in rows (run_rows n) ≡ marked_runs s = sym (append-nil (runs_in rows (run_rows n))) ∙ (rw (i, where_none (marked s) start) at e) in
      let l : length (marked_runs s) ≡ n = ap length (sym f) ∙ length_runs rows 0 64 n in
      record { many = omega arith; stored = λ k. f }

  -- a mark after 64 runs is of one run more
  pub walk_breaks : (rows : List ℕ) (n start : ℕ) → n ≡ 64 → start < mark_count → marked s start ≡ true
      → runs_in rows (run_rows n) ++ runs_where (marked s) start (mark_count - start) ≡ marked_runs s → RunsFound s rows (64 + 1)
  walk_breaks rows n start is h m e =
      let p : 1 ≤ length (runs_where (marked s) start (mark_count - start)) =
      member_some (runs_where (marked s) start (mark_count - start)) start (where_holds (marked s) start (mark_count - start) start (omega arith) (omega arith) m) in
      let l : length (marked_runs s) ≡ n + length (runs_where (marked s) start (mark_count - start)) =
      ap length (sym e) ∙ length-append (runs_in rows (run_rows n)) (runs_where (marked s) start (mark_count - start)) ∙ rw (length_runs rows 0 64 n) in
      record { many = omega arith; stored = λ k. absurd (omega arith) }

  -- ---- the first offset that is not marked is the lowest that is not received
  pub progress_found : (p : ℕ) → FirstWith (marked s) false 0 mark_count p → p ≡ progress (marked_runs s)
  progress_found p f =
      progress_unique (marked_runs s) p (marked_canonical s)
      (λ m. let i = (marked_member s p).0 m in
      let e : marked s p ≡ false = f.found i.0 in
      let g : marked s p ≡ true = i.1 in
      let z : ◌≡◌ {A = ℕ} 0 1 = cc in omega arith)
      (λ x h. let w = f.within in (marked_member s x).1 (omega arith, f.passed.all x (omega arith) h))
