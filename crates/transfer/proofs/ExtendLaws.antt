-- What recording leaves of one transfer: the received offsets are those before and those of the packet, and the transfer is as described.
-- Assumes nothing.
use Prim.Native.Nat.{ℕ, ◌+◌, ◌<◌, ◌≤◌}
use mathlib.Core.Path.{◌≡◌}
use mathlib.Core.Bool.{not}
use mathlib.Core.List.{List}
use mathlib.Core.Logic.{◌⊎◌, ◌↔◌}
use native.Mathlib.Omega.{arith}
use lib.ListN.{length}
use lib.Dec.{eqb}
use borrow.Author.Tests.{ltb-false, le-ltb}
use Rattle.refusals.specs.Refusals.{when}
use Rattle.refusals.proofs.RefusalLaws.{first_none, rest_none, failed}
use Rattle.timestamp.specs.Timestamps.{Stamp, renewed}
use Rattle.timestamp.proofs.StampLaws.{renewed_is}
use Rattle.packet_data.specs.declared.Data.{Data}
use Rattle.runs.specs.Runs.{Run, Member, Canonical}
use Rattle.runs.proofs.InsertLaws.{insert_member, insert_canonical, insert_stops}
use Rattle.runs.proofs.CountLaws.{insert_count}
use Rattle.runs.proofs.RepeatLaws.{insert_known, absorbed_known}
use Rattle.runs.proofs.AddsLaws.{adds_none, adds_same}
use Rattle.transfer.specs.declared.Key.{Key}
use Rattle.transfer.specs.Transfers.{TransferFine, transfer_of}
use Rattle.transfer.specs.Record.{stop_of, key_refusal, extended, absorbed_by, adds_by, runs_refusal}

-- R6.6: recording adds the offsets of the payload
pub extended_member : (rs : List Run) (d : Data) (o : ℕ)
    → Member (extended rs d) o ↔ (((d.offset ≤ o) × (o < d.offset + d.length)) ⊎ Member rs o)
unfolding extended
extended_member rs d o = insert_member d.offset (d.offset + d.length) rs o

pub extended_canonical : (rs : List Run) (d : Data) → 0 < d.length → Canonical rs → Canonical (extended rs d)
unfolding extended
extended_canonical rs d p h = insert_canonical d.offset (d.offset + d.length) rs (omega arith) h

-- the runs after, and those that the packet absorbed, are the runs before and one more
pub extended_count : (rs : List Run) (d : Data) → 0 < d.length → Canonical rs → length (extended rs d) + absorbed_by rs d ≡ length rs + 1
unfolding extended absorbed_by
extended_count rs d p h = insert_count d.offset (stop_of d) rs (omega arith) h

-- nothing is added exactly when every offset of the packet was received, and exactly when the received set stays as it is
module _ (rs : List Run) (d : Data) (p : 0 < d.length) (h : Canonical rs) where
  pub none_added : (adds_by rs d ≡ 0) ↔ ((o : ℕ) → d.offset ≤ o → o < stop_of d → Member rs o)
  unfolding adds_by
  none_added = adds_none d.offset (stop_of d) rs (omega arith) h

  pub same_extended : (adds_by rs d ≡ 0) ↔ (extended rs d ≡ rs)
  unfolding adds_by extended
  same_extended = adds_same d.offset (stop_of d) rs (omega arith) h

-- offsets that were all received change nothing, and lie in one run
module _ (rs : List Run) (d : Data) (p : 0 < d.length) (h : Canonical rs) (known : (o : ℕ) → d.offset ≤ o → o < stop_of d → Member rs o) where
  pub extended_known : extended rs d ≡ rs
  unfolding extended
  extended_known = insert_known d.offset (stop_of d) rs (omega arith) h known

  pub one_absorbed : absorbed_by rs d ≡ 1
  unfolding absorbed_by
  one_absorbed = absorbed_known d.offset (stop_of d) rs (omega arith) h known

-- where 14 is not given, the packet ends within the length
pub key_stop : (k : Key) (d : Data) → key_refusal k d ≡ 0 → stop_of d ≤ k.length
unfolding key_refusal
key_stop k d e =
    ltb-false k.length (stop_of d) (failed _ 13 (first_none _ _ (rest_none (when (not (eqb d.width k.width)) 13) _ e)))

-- where 16 is not given
pub runs_few : (rs : List Run) → runs_refusal rs ≡ 0 → length rs ≤ 64
unfolding runs_refusal
runs_few rs e = ltb-false 64 (length rs) (failed _ 15 e)

pub few_runs : (rs : List Run) → length rs ≤ 64 → runs_refusal rs ≡ 0
unfolding runs_refusal
few_runs rs h = rw (le-ltb 64 (length rs) h)

pub extended_fine : (k : Key) (rs : List Run) (s new : List ℕ) (d : Data) → TransferFine (transfer_of k rs s) → 0 < d.length
    → stop_of d ≤ k.length → length (extended rs d) ≤ 64 → Stamp new → TransferFine (transfer_of k (extended rs d) (renewed new s))
unfolding extended
extended_fine k rs s new d x payload stop few brought =
    record {
      id_fits = x.id_fits;
      width_is = x.width_is;
      length_fits = x.length_fits;
      length_held = x.length_held;
      few = few;
      canonical = extended_canonical rs d payload x.canonical;
      within = insert_stops k.length d.offset (stop_of d) rs stop x.within;
      stamp_is = renewed_is new s brought x.stamp_is;
    }
