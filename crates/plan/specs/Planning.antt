-- R11.2, R11.3: planning: what is refused, what is answered and stored, and how a plan is made piece by piece.
-- Assumes nothing.
use Rattle.std.specs.Prelude.{ℕ, zero, suc, ◌+◌, ◌-◌, ◌<◌, min, ◌≡◌, Bool, cond, not, ◌&&◌, List, ◌++◌, length, get_or, drop, ltb, leb, eqb, Result, Ok, Err}
use Rattle.refusals.specs.Refusals.{◌▹◌, when}
use Rattle.refusals.specs.Faults.{number_of}
use Rattle.refusals.specs.declared.Fault.{Fault}
use Rattle.header.specs.FirstWord.{status_of}
use Rattle.header.specs.Start.{word_of}
use Rattle.packet_status.specs.Status.{status_refusal, hole_list, hole_refusal}
use Rattle.runs.specs.declared.Hole.{Hole}
use Rattle.plan.specs.Pieces.{piece, plan_of}
use Rattle.plan.specs.declared.Piece.{Piece}
use Rattle.plan.specs.declared.Plan.{Plan}
use Rattle.plan.specs.declared.Cursor.{Cursor}

-- ---- refusals

-- R9.21: a largest payload that is taken
abbrev pub allowed : ℕ → Bool
allowed m = ltb 0 m && leb m 65000

-- R11.3, R11.5: the reader's refusals, 11 for a failure STATUS, 21
unfoldable pub resend_refusal : ℕ → List ℕ → ℕ
resend_refusal m s =
    status_refusal s
    ▹ when (not (eqb (status_of (word_of s)) 0)) 11
    ▹ when (not (allowed m)) 21

-- R11.3: then 20, where the plan has more pieces than records were lent
unfoldable pub plan_refusal : ℕ → ℕ → List ℕ → ℕ
plan_refusal m room s = resend_refusal m s ▹ when (ltb room (length (plan_of m (hole_list s)))) 20

-- ---- answers

-- what is told of a plan: the refusal, 0 for none, and how many pieces there are, of how many holes
pub record ToldPlan : Type 0 where
  pub number : ℕ
  pub count : ℕ
  pub holes : ℕ

abbrev pub planned_of : ℕ → ℕ → List Hole → ToldPlan
planned_of zero m hs = record { number = 0; count = length (plan_of m hs); holes = length hs }
planned_of (suc n) m hs = record { number = suc n; count = 0; holes = 0 }

-- what the code's answer tells
abbrev pub told_plan : Result Plan Fault → ToldPlan
told_plan (Ok p) = record { number = 0; count = p.count; holes = p.holes }
told_plan (Err f) = record { number = number_of f; count = 0; holes = 0 }

-- R11.2: the lent records at exit: those past the plan stay, and all of them on refusal
abbrev pub records_after : ℕ → List Piece → List Piece → List Piece
records_after zero plan old = plan ++ drop (length plan) old
records_after (suc n) plan old = old

-- ---- piece by piece

-- each of so many holes may be read where it stands
abbrev pub Readable : List ℕ → ℕ → Type 0
Readable s count = (i : ℕ) → i < count → hole_refusal i s ≡ 0

-- the low end of the hole with this index, of so many; past the last nothing is left, and `offset` is `end`
unfoldable pub cursor_at : List Hole → ℕ → ℕ → Cursor
cursor_at hs count index =
    let h = get_or hs index (record { start = 0; end = 0 }) in
    cond (ltb index count)
    (record { offset = h.start; end = h.end; next = index + 1; count = count })
    (record { offset = 0; end = 0; next = index; count = count })

-- so many octets further on: in the same hole, or at the low end of the next one
unfoldable pub advanced : List Hole → ℕ → Cursor → Cursor
advanced hs n c =
    cond (ltb (c.offset + n) c.end)
    (record { offset = c.offset + n; end = c.end; next = c.next; count = c.count })
    (cursor_at hs c.count c.next)

-- the piece that is next, and the cursor after it
abbrev pub piece_at : ℕ → Cursor → Piece
piece_at m c = piece c.offset (min m (c.end - c.offset))

abbrev pub next_cursor : List Hole → ℕ → Cursor → Cursor
next_cursor hs m c = advanced hs (min m (c.end - c.offset)) c

-- the cursor after i pieces
unfoldable pub cursor_after : List Hole → ℕ → Cursor → ℕ → Cursor
cursor_after hs m c zero = c
cursor_after hs m c (suc i) = next_cursor hs m (cursor_after hs m c i)
