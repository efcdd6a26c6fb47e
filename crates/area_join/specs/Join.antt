-- R6.6, R6.9: the steps that find the runs which give way to one, and that run, the area only read, and what each of them finds. Trying
-- answers what was found, recording applies it.
-- Assumes nothing.
use Rattle.std.specs.Prelude.{ℕ, ◌-◌, ◌≤◌, ◌<◌, ◌≡◌, List, length, Result, Ok}
use Rattle.std.specs.Result.{MatchResult}
use Rattle.refusals.specs.Faults.{number_of}
use Rattle.refusals.specs.declared.Fault.{Fault}
use Rattle.run_rows.specs.Rows.{CutTo, CutBelow}
use Rattle.timestamp.specs.Timestamps.{Stamp}
use Rattle.transfer.specs.declared.Receipt.{Receipt}
use Rattle.area.specs.Layout.{transfer_places, run_places, area_octets, run_at}
use Rattle.area.specs.Places.{rows_at}
use Rattle.area_splice.specs.Splice.{runs_after, spliced_area, stamped_area}
use Rattle.area_locate.specs.Locate.{refused_by, given}
use Rattle.area_locate.specs.declared.Target.{Target}
use Rattle.area_join.specs.declared.Cuts.{Cuts}
use Rattle.area_join.specs.declared.Joined.{Joined}

-- ---- the two places of the splice

pub record Places (a : List ℕ) (t : Target) (c : Cuts) : Type 0 where
  pub count_is : c.count ≡ (rows_at a t.place).count
  pub upper : CutTo a (run_at 0 t.place 0) c.count t.to c.j
  pub lower : CutBelow a (run_at 1 t.place 0) c.j t.from c.i
  pub room : runs_after c.count c.i c.j ≤ run_places

-- the two places, or 16
abbrev pub CutAt : List ℕ → Target → Result Cuts Fault → Type 0
CutAt a t r = MatchResult r (λ c. Places a t c) (λ f. (y : List ℕ) → refused_by (number_of f) a ≡ given a t y)

-- ---- the run that is joined, and what is told: the runs between the two places are absorbed

abbrev pub told_by : Cuts → Joined → Receipt
told_by c s = record { reached = record { edge = s.edge; complete = s.complete }; absorbed = c.j - c.i; adds = s.adds }

-- the area after the splice, and after the timestamp y was kept
abbrev pub recorded_area : List ℕ → Target → Cuts → Joined → List ℕ → List ℕ
recorded_area a t c s y = stamped_area (spliced_area a t.place c.count c.i c.j s.lo s.hi) t.place y

-- the splice lies in the layout
pub record SpliceFits (a : List ℕ) (t : Target) (c : Cuts) : Type 0 where
  pub long : area_octets ≤ length a
  pub place_low : t.place < transfer_places
  pub order : c.i ≤ c.j
  pub inside : c.j ≤ c.count
  pub few : c.count ≤ run_places
  pub room : runs_after c.count c.i c.j ≤ run_places

-- and once it is made, and the timestamp y that the packet brings is kept, this is recording
pub record Joins (a : List ℕ) (t : Target) (c : Cuts) (s : Joined) : Type 0 where
  pub fits : SpliceFits a t c
  pub is : (y : List ℕ) → Stamp y → record { answer = Ok (told_by c s); area = recorded_area a t c s y } ≡ given a t y
