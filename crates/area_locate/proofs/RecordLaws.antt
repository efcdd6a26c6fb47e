-- Each way through recording: the area that holds no table, the reader's refusals, 12, those of the transfer's key, 16, and the runs
-- stored with the timestamp that the packet brings. A refused packet leaves the area.
-- Assumes nothing.
use Prim.Native.Nat.{ℕ, zero, suc, ◌≤◌, ◌<◌}
use mathlib.Core.Path.{◌≡◌, refl, sym, ap, ◌∙◌}
use mathlib.Core.Bool.{true, false}
use mathlib.Core.List.{List}
use mathlib.Core.Option.{Option, some}
use mathlib.Core.Logic.{⊎_elim}
use lib.ListN.{length}
use borrow.Author.Tests.{lt-ltb, le-ltb}
use Rattle.octets.specs.Numbers.{Octets}
use Rattle.refusals.specs.Refusals.{refusal_of}
use Rattle.refusals.proofs.RefusalLaws.{stays}
use Rattle.packet_data.specs.Data.{data_refusal, data_of, read_data}
use Rattle.packet_data.specs.declared.Data.{Data}
use Rattle.packet_data.proofs.DataLaws.{data_accepted}
use Rattle.runs.specs.Runs.{Run, insert, absorbed, adds}
use Rattle.runs.proofs.CompareLaws.{le_or_lt}
use Rattle.transfer.specs.declared.Key.{Key}
use Rattle.transfer.specs.Transfers.{Transfer}
use Rattle.transfer.specs.Record.{stop_of, stamp_in, key_refusal, extended, absorbed_by, adds_by, runs_refusal}
use Rattle.transfer.proofs.FieldLaws.{data_some}
use Rattle.table.specs.Tables.{keys, find}
use Rattle.table.specs.Record.{data_judged, record_refusal, grown, absorbed_in, adds_in, record_as, record_data, record_read, record_packet}
use Rattle.area.specs.Layout.{run_places}
use Rattle.area.specs.Places.{key_at, read_table, nth, place_in, KeptAt}
use Rattle.area.specs.Judge.{judged}
use Rattle.area.specs.Operations.{leaves, record_area}
use Rattle.area.specs.declared.Place.{Place}
use Rattle.area.proofs.JudgeLaws.{judged_passed}
use Rattle.area.proofs.StoredLaws.{held_stored}
use Rattle.area.proofs.FindLaws.{set_at}
use Rattle.area.proofs.AreaLaws.{judged_held}
use Rattle.area.proofs.KeptLaws.{place_free, kept_placed, kept_found, kept_runs, free_missing, kept_transfer}
use Rattle.area.proofs.OperationLaws.{on_judged, on_unjudged}
use Rattle.area_locate.specs.Record.{runs_given, offsets_given}
use Rattle.area_locate.specs.Locate.{refused_by}
use Rattle.std.specs.Prelude.{Ok, Err}

-- a number that is not 0 is given, and the table stays
as_refused : (n : ℕ) (k : Option Key) (rs : List Run) (t : List Transfer) (d : Data) (s : List ℕ) → (n ≡ 0 → ⊥)
    → record_as n k rs t d s ≡ record { answer = Err (refusal_of n); table = t }
unfolding record_as
as_refused zero k rs t d s z = absurd (z refl)
as_refused (suc n) k rs t d s z = refl

-- what was read brings some offset
pub fields_some : (s : List ℕ) (d : Data) → data_refusal s ≡ 0 → d ≡ data_of s → 0 < d.length
fields_some s d f is = data_some s d (data_accepted s f ∙ ap Ok (sym is))

-- ---- the whole: 22, the reader's refusal, or the packet's fields
pub record_unheld : (a s : List ℕ) → judged a ≡ false → refused_by 22 a ≡ record_area a s
unfolding record_area
record_unheld a s e = sym (on_unjudged _ (λ t. record_packet t s) a e)

module _ (a : List ℕ) (e : judged a ≡ true) where
  -- refused, and so the area stays
  refused : (n : ℕ) → Octets a → refused_by n a ≡ leaves a (record { answer = Err (refusal_of n); table = read_table a })
  refused n o = ap (refused_by n) (sym (held_stored a (read_table a) o (judged_held a e)))

  pub record_unread : (s : List ℕ) (n : ℕ) → Octets a → n ≡ data_refusal s → (n ≡ 0 → ⊥) → refused_by n a ≡ record_area a s
  unfolding record_area record_packet record_read read_data
  record_unread s zero o f g = absurd (g refl)
  record_unread s (suc n) o f g = rw (on_judged (Err (refusal_of 22)) (λ t. record_packet t s) a e, ← f) (refused (suc n) o)

  pub record_read_lem : (s : List ℕ) → data_refusal s ≡ 0 → leaves a (record_data (read_table a) (data_of s) (stamp_in s (data_of s))) ≡ record_area a s
  unfolding record_area record_packet record_read read_data
  record_read_lem s f = rw (on_judged (Err (refusal_of 22)) (λ t. record_packet t s) a e, f)

  -- ---- the fields, where q is the place of their Id
  module _ (d : Data) (q : Place) (is : q ≡ place_in d.id (read_table a)) where
    abbrev table : List Transfer
    table = read_table a

    abbrev p : ℕ
    p = q.at

    -- 12
    pub fields_missing : q.«open» ≡ false → Octets a → (x : List ℕ) → refused_by 12 a ≡ leaves a (record_data table d x)
    unfolding record_data record_refusal data_judged record_as
    fields_missing s o x = rw (free_missing (judged_passed a e).1.fine (place_free d.id table q is s)) (refused 12 o)

    -- k is the key that stands there, and m is what it gives
    module _ (s : KeptAt d.id table p) (k : Key) (key_is : k ≡ key_at a p) (m : ℕ) (j : m ≡ key_refusal k d) where
      found : find d.id (keys table) ≡ some k
      found = kept_found s ∙ ap some (ap (λ (x : Transfer). x.key) (kept_transfer a d.id p s) ∙ sym key_is)

      -- 13, 14 and 15
      pub fields_refused : (m ≡ 0 → ⊥) → Octets a → (x : List ℕ) → refused_by m a ≡ leaves a (record_data table d x)
      unfolding record_data record_refusal data_judged
      fields_refused z o x = rw (found, ← j, stays m (runs_refusal (grown table d)) z, as_refused m (some k) (grown table d) table d x z) (refused m o)

      -- 16, or the runs stored
      abbrev rest : List Run
      rest = insert d.offset (stop_of d) (nth table p).runs

      absorbed_is : absorbed_in table d ≡ absorbed d.offset (stop_of d) (nth table p).runs
      unfolding absorbed_in absorbed_by
      absorbed_is = ap (absorbed d.offset (stop_of d)) (kept_runs s)

      adds_is : adds_in table d ≡ adds d.offset (stop_of d) (nth table p).runs
      unfolding adds_in adds_by
      adds_is = ap (adds d.offset (stop_of d)) (kept_runs s)

      grown_is : grown table d ≡ rest
      unfolding grown extended
      grown_is = ap (insert d.offset (stop_of d)) (kept_runs s)

      pub fields_extended : m ≡ 0 → Octets a → (x : List ℕ) → offsets_given a p k d.offset (stop_of d) x ≡ leaves a (record_data table d x)
      unfolding record_data record_refusal data_judged record_as runs_refusal runs_given
      fields_extended z o x =
          let y : key_refusal k d ≡ 0 = sym j ∙ z in
          rw (found, y, grown_is)
          (⊎_elim
          (λ (l : length rest ≤ run_places). rw (le-ltb run_places (length rest) l, absorbed_is, adds_is, set_at d.id rest x (kept_placed s) s.inside s.same))
          (λ (l : run_places < length rest). rw (lt-ltb run_places (length rest) l) (refused 16 o))
          (le_or_lt (length rest) run_places))
