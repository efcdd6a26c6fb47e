-- What is left at a cursor, as a hole list: a piece further on it is shorter by that piece. So a plan is made piece by piece.
-- Assumes nothing.
use Prim.Native.Nat.{ℕ, zero, suc, ◌+◌, ◌-◌, ◌≤◌, ◌<◌, min}
use mathlib.Core.Path.{◌≡◌, refl, sym, ap, ◌∙◌}
use mathlib.Core.Bool.{Bool, true, false, cond}
use mathlib.Core.List.{List, [], ◌∷◌, ◌++◌}
use native.Mathlib.Nat.{min-le_right}
use native.Mathlib.Omega.{arith}
use lib.ListN.{length, get_or, drop, drop_of_length-le, length-drop}
use lib.Seq.{drop-cons}
use lib.Dec.{ltb}
use borrow.Author.Tests.{ltb-true, ltb-false, lt-ltb, le-ltb}
use Rattle.runs.specs.declared.Hole.{Hole}
use Rattle.hole_list.proofs.AcceptedLaws.{nth}
use Rattle.plan.specs.Pieces.{piece, hole_pieces, plan_of}
use Rattle.plan.specs.Planning.{cursor_at, advanced, piece_at, next_cursor, cursor_after}
use Rattle.plan.specs.declared.Piece.{Piece}
use Rattle.plan.specs.declared.Cursor.{Cursor}
use Rattle.plan.proofs.PieceLaws.{hole, no_pieces, first_piece}

-- a piece, for what lies past the end of a list
abbrev pub no_piece : Piece
no_piece = piece 0 0

-- the holes once n octets of the first, which ends at `end`, are done up to `at`
abbrev pub after_done : ℕ → ℕ → List Hole → List Hole
after_done at end hs = cond (ltb at end) (hole at end ∷ hs) hs

abbrev pub left : List Hole → Cursor → List Hole
left hs c = after_done c.offset c.end (drop c.next hs)

-- a cursor that was reached: it is in a hole, or no hole is left
pub record Reached (hs : List Hole) (c : Cursor) : Type 0 where
  pub ordered : c.offset ≤ c.end
  pub done : c.offset ≡ c.end → length hs ≤ c.next
  pub counted : c.count ≡ length hs

module _ (hs : List Hole) (full : (i : ℕ) → i < length hs → (nth hs i).start < (nth hs i).end) where
  -- ---- at the low end of a hole

  reached_by : (i : ℕ) (t : Bool) → ltb i (length hs) ≡ t
      → Reached hs (cond t (record { offset = (nth hs i).start; end = (nth hs i).end; next = i + 1; count = length hs }) (record { offset = 0; end = 0; next = i; count = length hs }))
  reached_by i true e =
      let l = full i (ltb-true i (length hs) e) in
      record { ordered = omega arith; done = λ z. absurd (omega arith); counted = refl }
  reached_by i false e = record { ordered = omega arith; done = λ z. ltb-false i (length hs) e; counted = refl }

  pub reached_at : (i : ℕ) → Reached hs (cursor_at hs (length hs) i)
  unfolding cursor_at
  reached_at i = reached_by i (ltb i (length hs)) refl

  left_by : (i : ℕ) (t : Bool) → ltb i (length hs) ≡ t
      → left hs (cond t (record { offset = (nth hs i).start; end = (nth hs i).end; next = i + 1; count = length hs }) (record { offset = 0; end = 0; next = i; count = length hs })) ≡ drop i hs
  left_by i true e =
      let l = ltb-true i (length hs) e in
      let one : i + 1 ≡ suc i = omega arith in
      rw (lt-ltb (nth hs i).start (nth hs i).end (full i l), one) (sym (drop-cons hs i (hole 0 0) l))
  left_by i false e = refl

  pub left_at : (i : ℕ) → left hs (cursor_at hs (length hs) i) ≡ drop i hs
  unfolding cursor_at
  left_at i = left_by i (ltb i (length hs)) refl

  -- ---- n octets further on

  module _ (n : ℕ) (c : Cursor) (r : Reached hs c) (fits : c.offset + n ≤ c.end) where
    abbrev further : Bool → Cursor
    further t = cond t (record { offset = c.offset + n; end = c.end; next = c.next; count = c.count }) (cursor_at hs c.count c.next)

    advanced_by : (t : Bool) → ltb (c.offset + n) c.end ≡ t → Reached hs (further t) × (left hs (further t) ≡ cond t (hole (c.offset + n) c.end ∷ drop c.next hs) (drop c.next hs))
    advanced_by true e =
        let l = ltb-true (c.offset + n) c.end e in
        (record { ordered = omega arith; done = λ z. absurd (omega arith); counted = r.counted }, rw e)
    advanced_by false e = rw r.counted (reached_at c.next, left_at c.next)

    pub reached_advanced : Reached hs (advanced hs n c)
    unfolding advanced
    reached_advanced = (advanced_by (ltb (c.offset + n) c.end) refl).0

    pub left_advanced : left hs (advanced hs n c) ≡ after_done (c.offset + n) c.end (drop c.next hs)
    unfolding advanced
    left_advanced = (advanced_by (ltb (c.offset + n) c.end) refl).1

  pub nothing_left : (c : Cursor) → Reached hs c → c.end ≤ c.offset → left hs c ≡ []
  nothing_left c r l = rw (le-ltb c.offset c.end l) (drop_of_length-le hs (r.done (omega (arith, r.ordered))))

  -- ---- a plan, piece by piece

  module _ (m : ℕ) (some : 0 < m) where
    no_plan : (c : Cursor) → Reached hs c → c.end ≤ c.offset → plan_of m (left hs c) ≡ []
    unfolding plan_of
    no_plan c r l = rw (nothing_left c r l)

    plan_by : (at end : ℕ) (t : Bool) → ltb at end ≡ t → (rest : List Hole) → hole_pieces m (hole at end) ++ plan_of m rest ≡ plan_of m (cond t (hole at end ∷ rest) rest)
    unfolding plan_of
    plan_by at end true e rest = refl
    plan_by at end false e rest = rw (no_pieces m at end some (ltb-false at end e))

    plan_next : (c : Cursor) → Reached hs c → c.offset < c.end → plan_of m (left hs c) ≡ piece_at m c ∷ plan_of m (left hs (next_cursor hs m c))
    unfolding plan_of
    plan_next c r l =
        let n = min m (c.end - c.offset) in
        rw (lt-ltb c.offset c.end l, first_piece m c.offset c.end some l, left_advanced n c r (omega (arith, min-le_right m (c.end - c.offset))))
        (ap (λ (ps : List Piece). piece_at m c ∷ ps) (plan_by (c.offset + n) c.end (ltb (c.offset + n) c.end) refl (drop c.next hs)))

    -- where some of the plan is left, the cursor is in a hole
    in_hole_by : (c : Cursor) → Reached hs c → 0 < length (plan_of m (left hs c)) → (t : Bool) → ltb c.offset c.end ≡ t → c.offset < c.end
    in_hole_by c r l true e = ltb-true c.offset c.end e
    in_hole_by c r l false e = absurd (omega (arith, ap length (no_plan c r (ltb-false c.offset c.end e))))

    in_hole : (c : Cursor) → Reached hs c → 0 < length (plan_of m (left hs c)) → c.offset < c.end
    in_hole c r l = in_hole_by c r l (ltb c.offset c.end) refl

    module _ (c : Cursor) (r : Reached hs c) where
      abbrev plan : List Piece
      plan = plan_of m (left hs c)

      -- after i pieces what is left of the plan is what is planned for what is left
      pub planned_after : (i : ℕ) → i ≤ length plan → Reached hs (cursor_after hs m c i) × (plan_of m (left hs (cursor_after hs m c i)) ≡ drop i plan)
      unfolding cursor_after
      planned_after zero l = (r, refl)
      planned_after (suc i) l =
          let p = planned_after i (omega arith) in
          let k = cursor_after hs m c i in
          let h : k.offset < k.end = in_hole k p.0 (rw p.1 (rw length-drop (omega arith))) in
          let n = min m (k.end - k.offset) in
          let e : piece_at m k ∷ plan_of m (left hs (next_cursor hs m k)) ≡ get_or plan i no_piece ∷ drop (suc i) plan =
          sym (plan_next k p.0 h) ∙ p.1 ∙ drop-cons plan i no_piece (omega arith) in
          (reached_advanced n k p.0 (omega (arith, min-le_right m (k.end - k.offset))), cc)

      -- and the piece at the cursor is the next one of the plan
      pub piece_after : (i : ℕ) → i < length plan → piece_at m (cursor_after hs m c i) ≡ get_or plan i no_piece
      piece_after i l =
          let p = planned_after i (omega arith) in
          let k = cursor_after hs m c i in
          let h : k.offset < k.end = in_hole k p.0 (rw p.1 (rw length-drop (omega arith))) in
          let e : piece_at m k ∷ plan_of m (left hs (next_cursor hs m k)) ≡ get_or plan i no_piece ∷ drop (suc i) plan =
          sym (plan_next k p.0 h) ∙ p.1 ∙ drop-cons plan i no_piece l in
          cc
