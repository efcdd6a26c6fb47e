-- What the code that stores a plan has to know: at each piece where the cursor is and which piece it gives, and what is stored in the end.
-- Assumes nothing.
use Prim.Native.Nat.{ℕ, zero, suc, ◌+◌, ◌≤◌, ◌<◌}
use mathlib.Core.Path.{◌≡◌, refl, sym, ap, ◌∙◌}
use mathlib.Core.List.{List}
use native.Mathlib.Nat.{zero-add}
use native.Mathlib.Omega.{arith}
use lib.ListN.{length, get_or, set}
use lib.Seq.{paste, paste-zero, paste-suc, length-paste, take-length}
use borrow.Author.Tests.{ltb-false}
use Rattle.refusals.proofs.RefusalLaws.{first_none, rest_none, failed}
use Rattle.packet_status.specs.Status.{hole_list}
use Rattle.runs.specs.declared.Hole.{Hole}
use Rattle.plan.specs.Pieces.{plan_of}
use Rattle.plan.specs.Planning.{resend_refusal, plan_refusal, planned_of, records_after, cursor_at, piece_at, next_cursor, cursor_after, Readable}
use Rattle.plan.specs.declared.Piece.{Piece}
use Rattle.plan.specs.declared.Cursor.{Cursor}
use Rattle.plan.proofs.CursorLaws.{left, no_piece, reached_at, left_at, planned_after, piece_after}
use Rattle.plan.proofs.ResendLaws.{resend_fine, full, readable}

-- ---- the records when i pieces of a plan are stored

abbrev pub filled : List Piece → List Piece → ℕ → List Piece
filled plan old i = paste old 0 plan i

module _ (plan old : List Piece) where
  pub filled_none : old ≡ filled plan old 0
  filled_none = paste-zero old 0 plan

  pub filled_more : (i : ℕ) → i < length plan → i < length old → set (filled plan old i) i (get_or plan i no_piece) ≡ filled plan old (i + 1)
  filled_more i l k =
      let one : i + 1 ≡ suc i = omega arith in
      let z : 0 + i ≡ i = zero-add i in
      ap (λ (j : ℕ). set (filled plan old i) j (get_or plan i no_piece)) (sym z) ∙ paste-suc old 0 plan i no_piece (rw z k) l ∙ ap (λ (j : ℕ). filled plan old j) (sym one)

  pub filled_length : (i : ℕ) → i ≤ length plan → i ≤ length old → length (filled plan old i) ≡ length old
  filled_length i l k = length-paste old 0 plan i (rw (zero-add i) k) l

-- ---- the plan

-- a plan that is not refused: its pieces fit the records
pub record PlanFine (m room : ℕ) (s : List ℕ) : Type 0 where
  pub resend : resend_refusal m s ≡ 0
  pub fits : length (plan_of m (hole_list s)) ≤ room

pub plan_fine : (m room : ℕ) (s : List ℕ) → plan_refusal m room s ≡ 0 → PlanFine m room s
unfolding plan_refusal
plan_fine m room s e = record { resend = first_none _ _ e; fits = ltb-false _ _ (failed _ 19 (rest_none (resend_refusal m s) _ e)) }

-- the cursor where the piece i of the plan is made
pub record Planned (m : ℕ) (s : List ℕ) (i : ℕ) (c : Cursor) : Type 0 where
  pub within : i < length (plan_of m (hole_list s))
  pub ordered : c.offset ≤ c.end
  pub readable : Readable s c.count
  pub gives : piece_at m c ≡ get_or (plan_of m (hole_list s)) i no_piece

module _ (m room : ℕ) (s : List ℕ) where
  abbrev hs : List Hole
  hs = hole_list s

  -- of a refusal n
  abbrev first : ℕ → Cursor
  first n = cursor_at hs (planned_of n m hs).holes 0

  pub planned_count : (n : ℕ) → plan_refusal m room s ≡ n → (planned_of n m hs).count ≤ room
  planned_count zero e = (plan_fine m room s e).fits
  planned_count (suc n) e = omega arith

  pub planned_readable : (n : ℕ) → plan_refusal m room s ≡ n → Readable s (planned_of n m hs).holes
  planned_readable zero e = readable m s (resend_fine m s (plan_fine m room s e).resend)
  planned_readable (suc n) e = λ i l. absurd (omega arith)

  pub planned_at : (n : ℕ) → plan_refusal m room s ≡ n → (i : ℕ) → i < (planned_of n m hs).count → Planned m s i (cursor_after hs m (first n) i)
  planned_at zero e i l =
      let f = resend_fine m s (plan_fine m room s e).resend in
      let u = full m s f in
      let r = reached_at hs u 0 in
      let same : plan_of m (left hs (first 0)) ≡ plan_of m hs = ap (λ (l : List Hole). plan_of m l) (left_at hs u 0) in
      let within : i < length (plan_of m (left hs (first 0))) = rw same l in
      let p = (planned_after hs u m f.some (first 0) r i (omega arith)).0 in
      record {
        within = l;
        ordered = p.ordered;
        readable = rw p.counted (readable m s f);
        gives = piece_after hs u m f.some (first 0) r i within ∙ ap (λ (ps : List Piece). get_or ps i no_piece) same;
      }
  planned_at (suc n) e i l = absurd (omega arith)

  pub planned_part : (n : ℕ) → (planned_of n m hs).count ≤ length (plan_of m hs)
  planned_part zero = omega arith
  planned_part (suc n) = omega arith

  -- all of it is stored
  pub stored : (n : ℕ) (old : List Piece) → filled (plan_of m hs) old (planned_of n m hs).count ≡ records_after n (plan_of m hs) old
  stored zero old = rw (take-length (plan_of m hs), zero-add (length (plan_of m hs)))
  stored (suc n) old = refl

-- one piece more
pub cursor_more : (hs : List Hole) (m : ℕ) (c : Cursor) (i : ℕ) → next_cursor hs m (cursor_after hs m c i) ≡ cursor_after hs m c (i + 1)
unfolding cursor_after
cursor_more hs m c i = let one : i + 1 ≡ suc i = omega arith in rw one

pub cursor_none : (hs : List Hole) (m : ℕ) (c : Cursor) → c ≡ cursor_after hs m c 0
unfolding cursor_after
cursor_none hs m c = refl
