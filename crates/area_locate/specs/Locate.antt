-- R6.6, R6.9: the steps that find where a packet's offsets go, the area only read, and what each of them finds.
-- Assumes nothing.
use Rattle.std.specs.Prelude.{ℕ, ◌<◌, ◌≡◌, Bool, true, cond, List, length, Result, Err}
use Rattle.std.specs.Result.{MatchResult}
use Rattle.refusals.specs.Refusals.{refusal_of}
use Rattle.refusals.specs.Faults.{number_of}
use Rattle.refusals.specs.declared.Fault.{Fault}
use Rattle.packet_data.specs.Data.{data_refusal}
use Rattle.packet_data.specs.declared.Data.{Data}
use Rattle.table.specs.Record.{record_data}
use Rattle.area.specs.Places.{key_at, read_table}
use Rattle.area.specs.Judge.{judged}
use Rattle.area.specs.Operations.{OnArea, leaves}
use Rattle.area_locate.specs.Record.{offsets_given}
use Rattle.area_locate.specs.declared.Target.{Target}
use Rattle.refusals.specs.declared.Refusal.{Refusal}
use Rattle.transfer.specs.declared.Receipt.{Receipt}

-- R6.13: 22 comes first, then the reader's
abbrev pub unread_as : Bool → List ℕ → ℕ
unread_as held packet = cond held (data_refusal packet) 22

-- a refusal leaves the area
abbrev pub refused_by : ℕ → List ℕ → OnArea (Result Receipt Refusal)
refused_by n a = record { answer = Err (refusal_of n); area = a }

-- ---- where the packet's offsets go

pub record Found (a : List ℕ) (t : Target) : Type 0 where
  pub held : judged a ≡ true
  pub there : t.place < length (read_table a)
  pub some : t.from < t.to
  pub length_is : t.length ≡ (key_at a t.place).length

-- recording, once that is known, with the timestamp that the packet brings
abbrev pub given : List ℕ → Target → List ℕ → OnArea (Result Receipt Refusal)
given a t s = offsets_given a t.place (key_at a t.place) t.from t.to s

-- of a packet with the fields d, whatever timestamp it brings: where its offsets go, or what it is refused with
abbrev pub Located : List ℕ → Data → Result Target Fault → Type 0
Located a d r =
    MatchResult r
    (λ t. Found a t × ((s : List ℕ) → given a t s ≡ leaves a (record_data (read_table a) d s)))
    (λ f. (s : List ℕ) → refused_by (number_of f) a ≡ leaves a (record_data (read_table a) d s))
