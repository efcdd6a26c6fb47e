-- What is looked up in a snapshot after DATA were recorded.
-- Assumes nothing.
use Prim.Native.Nat.{ℕ, ◌<◌}
use mathlib.Core.Path.{◌≡◌, refl, sym, ap, subst, ◌∙◌}
use mathlib.Core.Bool.{true, false, true≢false, false≢true}
use mathlib.Core.List.{List}
use mathlib.Core.Logic.{◌⊎◌, inl, inr, ⊎_elim}
use mathlib.Core.Option.{some}
use native.Mathlib.Decide.{ℕ_discrete}
use lib.ListN.{length, get_or}
use Rattle.runs.specs.Runs.{run, Within, Member}
use Rattle.packet_data.specs.declared.Data.{Data}
use Rattle.timestamp.specs.Timestamps.{Stamp}
use Rattle.transfer.specs.declared.Key.{Key}
use Rattle.transfer.specs.Record.{stop_of}
use Rattle.transfer.proofs.ExtendLaws.{extended_member}
use Rattle.table.specs.Tables.{keys, find, runs_of, set_runs}
use Rattle.table.specs.Record.{grown, record_data, record_accepted}
use Rattle.table.specs.Outcome.{Outcome}
use Rattle.table.proofs.TableLaws.{keys_set, runs_set_same, runs_set_other}
use Rattle.table.proofs.TableLaws.{length_set as length-set-runs}
use Rattle.area.specs.Places.{place_of}
use Rattle.engine_slots.specs.Slots.{no_slot}
use Rattle.engine_model.specs.Snapshots.{Snapshot, key_in, slot_of, received, with_table}
use Rattle.engine_model.proofs.PlaceLaws.{place_set}
use Rattle.engine_model.proofs.DataLaws.{data_cases, data_valid}
use Rattle.engine_model.proofs.FitLaws.{Fit, Alike}
use Rattle.std.specs.Prelude.{Result}
use Rattle.refusals.specs.declared.Refusal.{Refusal}
use Rattle.transfer.specs.declared.Receipt.{Receipt}

-- ---- DATA recorded, with the timestamp z

abbrev pub recording : Snapshot → Data → List ℕ → Snapshot
recording s d z = with_table s (record_data s.table d z).table

pub fit_recording : (s : Snapshot) (d : Data) (z : List ℕ) → Fit s → 0 < d.length → Stamp z → Fit (recording s d z)
unfolding with_table
fit_recording s d z f l y = record {
  valid = data_valid s.table d z f.valid l y;
  paired =
      f.paired
      ∙ data_cases (λ (x : Outcome (Result Receipt Refusal)). length s.table ≡ length x.table) s.table d z (λ n. refl)
      (λ k e j few. sym (length-set-runs d.id (grown s.table d) z s.table));
}

pub recording_key : (s : Snapshot) (d : Data) (z : List ℕ) (j : ℕ) → key_in (recording s d z) j ≡ key_in s j
unfolding with_table
recording_key s d z j =
    data_cases (λ (x : Outcome (Result Receipt Refusal)). find j (keys x.table) ≡ key_in s j) s.table d z (λ n. refl)
    (λ k e q few. ap (find j) (keys_set d.id (grown s.table d) z s.table))

pub recording_slot : (s : Snapshot) (d : Data) (z : List ℕ) (j : ℕ) → slot_of (recording s d z) j ≡ slot_of s j
unfolding with_table slot_of
recording_slot s d z j =
    data_cases (λ (x : Outcome (Result Receipt Refusal)). get_or s.slots (place_of j x.table) no_slot ≡ slot_of s j) s.table d z (λ n. refl)
    (λ k e q few. ap (λ (p : ℕ). get_or s.slots p no_slot) (place_set d.id (grown s.table d) z j s.table))

pub recording_other : (s : Snapshot) (d : Data) (z : List ℕ) (j : ℕ) → (d.id ≡ j → ⊥) → Alike s (recording s d z) j
unfolding with_table
recording_other s d z j n = record {
  key = recording_key s d z j;
  runs =
      data_cases (λ (x : Outcome (Result Receipt Refusal)). runs_of x.table j ≡ received s j) s.table d z (λ r. refl)
      (λ k e q few. runs_set_other d.id j (grown s.table d) z s.table n);
  slot = λ e. recording_slot s d z j;
}

-- what is received afterwards was before, or the DATA bring it
pub recording_only : (s : Snapshot) (d : Data) (z : List ℕ) (j o : ℕ) → Member (received (recording s d z) j) o
    → ((d.id ≡ j) × Within (run d.offset (stop_of d)) o) ⊎ Member (received s j) o
unfolding with_table grown
recording_only s d z j o m = go (ℕ_discrete d.id j)
  where
    same : Member (received (recording s d z) d.id) o → Within (run d.offset (stop_of d)) o ⊎ Member (received s d.id) o
    same =
        data_cases (λ (x : Outcome (Result Receipt Refusal)). Member (runs_of x.table d.id) o → Within (run d.offset (stop_of d)) o ⊎ Member (received s d.id) o)
        s.table d z (λ n y. inr y)
        (λ k e q few y. (extended_member (received s d.id) d o).0 (rw (runs_set_same d.id (grown s.table d) z s.table k e) at y))

    go : Dec (d.id ≡ j) → ((d.id ≡ j) × Within (run d.offset (stop_of d)) o) ⊎ Member (received s j) o
    go (yes q) =
        ⊎_elim (λ w. inl (q, w)) (λ (y : Member (received s d.id) o). inr (subst (λ (i : ℕ). Member (received s i) o) q y))
        (same (subst (λ (i : ℕ). Member (received (recording s d z) i) o) (sym q) m))
    go (no n) = inr (rw (recording_other s d z j n).runs at m)

pub recording_keeps : (s : Snapshot) (d : Data) (z : List ℕ) (j o : ℕ) → Member (received s j) o → Member (received (recording s d z) j) o
unfolding with_table grown
recording_keeps s d z j o m =
    data_cases (λ (x : Outcome (Result Receipt Refusal)). Member (runs_of x.table j) o) s.table d z (λ n. m)
    (λ k e q few. go k e (ℕ_discrete d.id j))
  where
    go : (k : Key) → find d.id (keys s.table) ≡ some k → Dec (d.id ≡ j) → Member (runs_of (set_runs d.id (grown s.table d) z s.table) j) o
    go k e (yes q) =
        subst (λ (i : ℕ). Member (runs_of (set_runs d.id (grown s.table d) z s.table) i) o) q
        (rw (runs_set_same d.id (grown s.table d) z s.table k e)
        ((extended_member (received s d.id) d o).1 (inr (subst (λ (i : ℕ). Member (received s i) o) (sym q) m))))
    go k e (no n) = rw (runs_set_other d.id j (grown s.table d) z s.table n) m

pub recording_brings : (s : Snapshot) (d : Data) (z : List ℕ) (o : ℕ) → record_accepted (record_data s.table d z).answer ≡ true
    → Within (run d.offset (stop_of d)) o → Member (received (recording s d z) d.id) o
unfolding with_table grown
recording_brings s d z o a w =
    data_cases (λ (x : Outcome (Result Receipt Refusal)). record_accepted x.answer ≡ true → Member (runs_of x.table d.id) o) s.table d z
    (λ n e. absurd (false≢true e))
    (λ k e q few y.
    rw (runs_set_same d.id (grown s.table d) z s.table k e) ((extended_member (received s d.id) d o).1 (inl w))) a

pub recording_refused : (s : Snapshot) (d : Data) (z : List ℕ) → record_accepted (record_data s.table d z).answer ≡ false → recording s d z ≡ s
unfolding with_table
recording_refused s d z a =
    data_cases (λ (x : Outcome (Result Receipt Refusal)). record_accepted x.answer ≡ false → with_table s x.table ≡ s) s.table d z (λ n e. refl)
    (λ k e q few y. absurd (true≢false y)) a
