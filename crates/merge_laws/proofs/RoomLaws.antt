-- R15.7: the three records, worked out: one grouping is refused for room, and the other completes the transfer.
-- Assumes nothing.
use Prim.Native.Nat.{ℕ, zero, suc, ◌+◌, ◌*◌, ◌≤◌, ◌<◌}
use mathlib.Core.Path.{◌≡◌, refl, ap, ◌∙◌}
use mathlib.Core.Bool.{true, false}
use mathlib.Core.Logic.{inl}
use native.Mathlib.Omega.{arith}
use lib.ListN.{length}
use Rattle.octets.specs.Numbers.Width.{two}
use Rattle.refusals.specs.Refusals.{refusal_of}
use Rattle.runs.specs.Runs.{CanonicalFrom, StopsTo, insert}
use Rattle.runs.specs.Holes.{edge_from, progress, complete}
use Rattle.run_union.specs.Union.{union}
use Rattle.transfer.specs.Transfers.{reached}
use Rattle.transfer.specs.Record.{runs_refusal}
use Rattle.timestamp.specs.Timestamps.{renewed}
use Rattle.table.specs.Tables.{Valid, keys, find, runs_of, set_runs}
use Rattle.table_merge.specs.Merge.{keys_refusal, joined_runs, merge_refusal, merge_as, merge_table}
use Rattle.area.specs.Operations.{OnArea}
use Rattle.area_merge.specs.Merge.{merge_area}
use Rattle.area_merge.proofs.OperationLaws.{merge_held_tables, merge_leaves}
use Rattle.merge_laws.specs.Room.{octets_every, holding, fourths, middles, odds, GroupingRefused}
use Rattle.std.specs.Prelude.{Result, Ok, Err}
use Rattle.refusals.specs.declared.Refusal.{Refusal}
use Rattle.transfer.specs.declared.Reached.{Reached}

-- ---- they are tables

every_length : (step first n : ℕ) → length (octets_every step first n) ≡ n
unfolding octets_every
every_length step first zero = refl
every_length step first (suc n) = ap suc (every_length step (first + step) n)

every_canonical : (k step first n : ℕ) → 2 ≤ step → k ≤ first → CanonicalFrom k (octets_every step first n)
unfolding octets_every
every_canonical k step first zero s h = tt
every_canonical k step first (suc n) s h = (h, omega arith, every_canonical (suc (suc first)) step (first + step) n s (omega arith))

every_stops : (L step first n : ℕ) → first + n * step < L + step → StopsTo L (octets_every step first n)
unfolding octets_every
every_stops L step first zero h = tt
every_stops L step first (suc n) h = (omega arith, every_stops L step (first + step) n (omega arith))

holding_valid : (step first n : ℕ) → 2 ≤ step → n ≤ 64 → first + n * step < 129 + step → Valid (holding (octets_every step first n))
holding_valid step first n s few stops =
    record {
      few = omega arith;
      fine = (
        omega arith,
        record {
          id_fits = omega arith;
          width_is = two;
          length_fits = omega arith;
          length_held = omega arith;
          few = omega (arith, every_length step first n);
          canonical = every_canonical 0 step first n s (omega arith);
          within = every_stops 129 step first n stops;
          stamp_is = inl refl;
        },
        tt,
      );
    }

-- ---- by computation

first_two : (merge_table fourths middles 7).answer ≡ Err (refusal_of 16)
unfolding merge_table merge_as merge_refusal keys_refusal joined_runs runs_refusal keys find runs_of union insert octets_every
first_two = refl

two_turned : (merge_table middles fourths 7).answer ≡ Err (refusal_of 16)
unfolding merge_table merge_as merge_refusal keys_refusal joined_runs runs_refusal keys find runs_of union insert octets_every
two_turned = refl

last_two : (merge_table middles odds 7).answer ≡ Ok (record { edge = 128; complete = false })
unfolding merge_table merge_as merge_refusal keys_refusal joined_runs runs_refusal keys find runs_of union insert octets_every reached edge_from progress complete
last_two = refl

all_three : (merge_table fourths (merge_table middles odds 7).table 7).answer ≡ Ok (record { edge = 129; complete = true })
unfolding merge_table merge_as merge_refusal keys_refusal joined_runs runs_refusal keys find runs_of set_runs renewed union insert octets_every reached edge_from progress complete
all_three = refl

-- ---- on areas

pub grouping_refused : GroupingRefused
grouping_refused = record {
  first_valid = holding_valid 4 0 33 (omega arith) (omega arith) (omega arith);
  second_valid = holding_valid 4 2 32 (omega arith) (omega arith) (omega arith);
  third_valid = holding_valid 2 1 64 (omega arith) (omega arith) (omega arith);
  refused = λ a b c h g k. record {
    first_step = ap (λ (o : OnArea (Result Reached Refusal)). o.answer) (merge_held_tables a b fourths middles 7 h g) ∙ first_two;
    turned = ap (λ (o : OnArea (Result Reached Refusal)). o.answer) (merge_held_tables b a middles fourths 7 g h) ∙ two_turned;
    other_first = ap (λ (o : OnArea (Result Reached Refusal)). o.answer) (merge_held_tables b c middles odds 7 g k) ∙ last_two;
    other_then =
        ap (λ (o : OnArea (Result Reached Refusal)). o.answer)
        (merge_held_tables a (merge_area b c 7).area fourths (merge_table middles odds 7).table 7 h (merge_leaves b c middles odds 7 g k)) ∙ all_three;
  };
}
