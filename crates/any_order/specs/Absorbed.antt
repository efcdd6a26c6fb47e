-- R10.6: the numbers of absorbed runs that the recordings of one Id tell, added up over a list of calls on an area.
-- Assumes nothing.
use Rattle.std.specs.Prelude.{ℕ, ◌+◌, ◌-◌, ◌≤◌, ◌≡◌, cond, List, [], ◌∷◌, eqb, Result, Ok, Err}
use Rattle.packet_metadata.specs.Metadata.{read_metadata}
use Rattle.packet_metadata.specs.declared.Metadata.{Metadata}
use Rattle.transfer.specs.declared.Reached.{Reached}
use Rattle.transfer.specs.declared.Receipt.{Receipt}
use Rattle.table.specs.declared.Opened.TheVariants as opened
use Rattle.area.specs.Operations.{open_area, record_area, close_area, runs_held}
use Rattle.any_order.specs.Order.{Packet, Call, opening, recording, id_in}
use Rattle.any_order.specs.Demand3.{call_area}
use Rattle.refusals.specs.declared.Refusal.{Refusal}

-- a call on an area: an opening or a recording, as R10.1 has them, of any Id and with any octets; or a closing
pub data AnyCall : Type 0 where
  call : Call → AnyCall
  closing : ℕ → AnyCall

-- the area that it leaves
unfoldable pub left_by : List ℕ → AnyCall → List ℕ
left_by a (call c) = (call_area a c).1
left_by a (closing j) = (close_area a j).area

-- the area that the last of a list leaves
unfoldable pub after_all : List ℕ → List AnyCall → List ℕ
after_all a [] = a
after_all a (c ∷ cs) = after_all (left_by a c) cs

-- ---- the recordings of the Id i that are accepted, each counted with a number f of what it tells; all else counts nothing
module _ (i : ℕ) (f : Receipt → ℕ) where
  unfoldable pub counted : Result Receipt Refusal → ℕ
  counted (Ok x) = f x
  counted (Err r) = 0

  unfoldable pub counted_by : List ℕ → AnyCall → ℕ
  counted_by a (call (opening p)) = 0
  counted_by a (call (recording p)) = cond (eqb (id_in p) i) (counted (record_area a p.octets).answer) 0
  counted_by a (closing j) = 0

  unfoldable pub counted_over : List ℕ → List AnyCall → ℕ
  counted_over a [] = 0
  counted_over a (c ∷ cs) = counted_by a c + counted_over (left_by a c) cs

-- how many recordings were accepted
abbrev pub recordings_taken : ℕ → List ℕ → List AnyCall → ℕ
recordings_taken i a cs = counted_over i (λ x. 1) a cs

-- the numbers of runs absorbed that they tell, added up
abbrev pub absorbed_sum : ℕ → List ℕ → List AnyCall → ℕ
absorbed_sum i a cs = counted_over i (λ x. x.absorbed) a cs

-- ---- the sum

-- none of the calls closes the Id
abbrev pub KeptOpen : ℕ → List AnyCall → Type 0
KeptOpen i [] = Unit
KeptOpen i (call c ∷ cs) = KeptOpen i cs
KeptOpen i (closing j ∷ cs) = (j ≡ i → ⊥) × KeptOpen i cs

-- R10.6: over a stretch of calls that starts anywhere, the runs held when it began are added. Where the Id is not open yet it holds none,
-- and an Id that is open and not closed is never opened anew
abbrev pub SumOverStretch : Type 0
SumOverStretch = (i : ℕ) (a : List ℕ) (cs : List AnyCall) → KeptOpen i cs
    → absorbed_sum i a cs + runs_held (after_all a cs) i ≡ recordings_taken i a cs + runs_held a i

pub record AddsUp (i : ℕ) (a : List ℕ) (cs : List AnyCall) : Type 0 where
  -- the numbers add up to the recordings accepted less the runs held at the end; there are no more runs than recordings
  pub adds_up : absorbed_sum i a cs ≡ recordings_taken i a cs - runs_held (after_all a cs) i
  pub runs_most : runs_held (after_all a cs) i ≤ recordings_taken i a cs
  -- so they are never more than the recordings
  pub never_more : absorbed_sum i a cs ≤ recordings_taken i a cs

-- R10.6: a call opens the transfer as new, with the METADATA m, and any calls follow
abbrev pub SumFromOpening : Type 0
SumFromOpening = (a : List ℕ) (p : Packet) (m : Metadata) (x : Reached) → read_metadata p.octets ≡ Ok m
    → (open_area a p.octets).answer ≡ Ok (opened.New x)
    → (cs : List AnyCall) → KeptOpen m.id cs → AddsUp m.id (open_area a p.octets).area cs
