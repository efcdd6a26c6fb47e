-- The walk over two pairs of rows: what holds at each turn, and what is left in the arrays.
-- Assumes nothing.
use Prim.Native.Nat.{ℕ, ◌+◌, ◌≤◌, ◌<◌, max}
use mathlib.Core.Path.{◌≡◌, refl, sym, ap, ap₂, subst, ◌∙◌}
use mathlib.Core.List.{List, []}
use mathlib.Core.Logic.{⊎_elim}
use native.Mathlib.Omega.{arith}
use lib.ListN.{length, get_or, set, length-set}
use lib.Seq.{get_or-set_same, get_or-set_other}
use Rattle.runs.specs.Runs.{Run, run, nth_run}
use Rattle.runs.proofs.CompareLaws.{le_or_lt}
use Rattle.run_rows.specs.Rows.{runs_in, runs_from, RowsFit, RowsFine}
use Rattle.run_rows.specs.declared.Rows.{Rows}
use Rattle.run_union.specs.Union.{union}
use Rattle.run_union.proofs.WalkLaws.{Walked, walk_start, walk_first, walk_second, walk_joined, walk_done, walk_next, walk_last, walk_length}
use Rattle.row_union.specs.declared.Next.{Next}
use Rattle.row_union.specs.Joined.{runs_past, Ahead, RowsPast, Stepped, Kept, Put, Joined}
use Rattle.row_union.proofs.StepLaws.{past_all, past_none}

-- ---- the arrays

pub put_here : (l : List ℕ) (n v : ℕ) → n < length l → Put l (set l n v) n v
put_here l n v h = record { size = length-set l n v; at = λ k. get_or-set_same l n v 0 h; others = λ k e. get_or-set_other l n k v 0 e }

pub put_nowhere : (l : List ℕ) (n v : ℕ) → length l ≤ n → Put l l n v
put_nowhere l n v h = record { size = refl; at = λ k. absurd (omega arith); others = λ k e. refl }

kept_none : (s t : List ℕ) (rs : List Run) → Kept s t 0 rs
kept_none s t rs = record { starts_are = λ k h. absurd (omega arith); stops_are = λ k h. absurd (omega arith) }

-- one run more
kept_more : (s t u v : List ℕ) (n lo hi : ℕ) (rs : List Run) → Kept s t n rs → Put s u n lo → Put t v n hi → nth_run rs n ≡ run lo hi → Kept u v (n + 1) rs
kept_more s t u v n lo hi rs w p q e = record {
  starts_are = λ k h g. more s u lo (λ (r : Run). r.start) p w.starts_are (ap (λ (r : Run). r.start) e) k h g;
  stops_are = λ k h g. more t v hi (λ (r : Run). r.stop) q w.stops_are (ap (λ (r : Run). r.stop) e) k h g;
}
  where
    more : (old new : List ℕ) (x : ℕ) (f : Run → ℕ) → Put old new n x → ((k : ℕ) → k < n → k < length old → get_or old k 0 ≡ f (nth_run rs k))
        → f (nth_run rs n) ≡ x → (k : ℕ) → k < n + 1 → k < length new → get_or new k 0 ≡ f (nth_run rs k)
    more old new x f p w e k h g =
        let l : length new ≡ length old = p.size in
        ⊎_elim
        (λ (o : n ≤ k).
        let z : k ≡ n = omega arith in
        ap (λ (m : ℕ). get_or new m 0) z ∙ p.at (omega arith) ∙ sym e ∙ ap (λ (m : ℕ). f (nth_run rs m)) (sym z))
        (λ (o : k < n). p.others k (λ z. omega arith) ∙ w k o (omega arith))
        (le_or_lt n k)

-- ---- no runs

pub join_none : (a : List ℕ) (x : Rows) (b : List ℕ) (y : Rows) (s t : List ℕ) → x.count + y.count ≡ 0 → Joined s t 0 (union (runs_in a x) (runs_in b y))
unfolding union runs_from
join_none a x b y s t z =
    let p : x.count ≡ 0 = omega arith in
    let q : y.count ≡ 0 = omega arith in
    rw (p, q) (record { count = refl; kept = kept_none s t [] })

-- ---- at each turn: n runs are done, and kept; one from lo to hi is being made; r tells how many of each are passed, and what comes next

pub record Turn (a : List ℕ) (x : Rows) (b : List ℕ) (y : Rows) (s₀ t₀ s t : List ℕ) (r : Next) (lo hi n : ℕ) : Type 0 where
  pub walked : Walked (union (runs_in a x) (runs_in b y)) n lo hi (runs_past a x r.i) (runs_past b y r.j)
  pub kept : Kept s t n (union (runs_in a x) (runs_in b y))
  pub first_in : r.i ≤ x.count
  pub second_in : r.j ≤ y.count
  pub fewer : n < r.i + r.j
  pub first_ahead : Ahead a x r.i r.first
  pub second_ahead : Ahead b y r.j r.second
  pub starts_size : length s ≡ length s₀
  pub stops_size : length t ≡ length t₀

module _ (a : List ℕ) (x : Rows) (b : List ℕ) (y : Rows) where
  pub fine_past : RowsFine a x → RowsPast a x 0
  fine_past f = record { fit = f.fit; inside = omega arith; canonical = rw (past_all a x) f.canonical }

  pub turn_start : (r : Next) (s t : List ℕ) → Stepped a x 0 b y 0 r → Turn a x b y s t s t r r.start r.stop 0
  turn_start r s t g = record {
    walked =
        subst (λ (l : List Run). Walked l 0 r.start r.stop (runs_past a x r.i) (runs_past b y r.j))
        (ap₂ union (past_all a x) (past_all b y)) (walk_start _ _ _ _ _ _ g.taken);
    kept = kept_none s t (union (runs_in a x) (runs_in b y));
    first_in = g.first_in;
    second_in = g.second_in;
    fewer = omega (arith, g.one);
    first_ahead = g.first_ahead;
    second_ahead = g.second_ahead;
    starts_size = refl;
    stops_size = refl;
  }

  module _ (s₀ t₀ s t : List ℕ) (m : Next) (lo hi n : ℕ) (w : Turn a x b y s₀ t₀ s t m lo hi n) where
    pub turn_first : RowsFit a x → RowsPast a x m.i
    turn_first f = record { fit = f; inside = w.first_in; canonical = walk_first _ _ _ _ _ _ w.walked }

    pub turn_second : RowsFit b y → RowsPast b y m.j
    turn_second f = record { fit = f; inside = w.second_in; canonical = walk_second _ _ _ _ _ _ w.walked }

    module _ (r : Next) (g : Stepped a x m.i b y m.j r) where
      pub turn_joined : (h : ℕ) → r.start ≤ hi → h ≡ max hi r.stop → Turn a x b y s₀ t₀ s t r lo h n
      turn_joined h o e = rw e (record {
        walked = walk_joined _ _ _ _ _ _ _ _ _ _ w.walked g.taken o;
        kept = w.kept;
        first_in = g.first_in;
        second_in = g.second_in;
        fewer = omega (arith, g.one, w.fewer);
        first_ahead = g.first_ahead;
        second_ahead = g.second_ahead;
        starts_size = w.starts_size;
        stops_size = w.stops_size;
      })

      pub turn_next : (u v : List ℕ) → hi < r.start → Put s u n lo → Put t v n hi → Turn a x b y s₀ t₀ u v r r.start r.stop (n + 1)
      turn_next u v o y₁ y₂ = record {
        walked = walk_next _ _ _ _ _ _ _ _ _ _ w.walked g.taken o;
        kept = kept_more s t u v n lo hi _ w.kept y₁ y₂ (walk_done _ _ _ _ _ _ _ _ _ _ w.walked g.taken o);
        first_in = g.first_in;
        second_in = g.second_in;
        fewer = omega (arith, g.one, w.fewer);
        first_ahead = g.first_ahead;
        second_ahead = g.second_ahead;
        starts_size = y₁.size ∙ w.starts_size;
        stops_size = y₂.size ∙ w.stops_size;
      }

    -- all are passed
    pub turn_end : (u v : List ℕ) → x.count + y.count ≤ m.i + m.j → Put s u n lo → Put t v n hi → Joined u v (n + 1) (union (runs_in a x) (runs_in b y))
    turn_end u v o y₁ y₂ =
        let f : x.count ≤ m.i = omega (arith, w.first_in, w.second_in) in
        let g : y.count ≤ m.j = omega (arith, w.first_in, w.second_in) in
        let e = rw (past_none a x m.i f, past_none b y m.j g) at w.walked in
        record { count = walk_length _ _ _ _ e; kept = kept_more s t u v n lo hi _ w.kept y₁ y₂ (walk_last _ _ _ _ e) }
