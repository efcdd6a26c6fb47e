-- R12.5, R6.8: what an accepted recording tells is what the marks that it leaves say, whatever marks it began with: how far the transfer
-- has come, how many runs the packet absorbed, and whether it added anything.
-- Assumes nothing.
use Prim.Native.Nat.{ℕ, ◌+◌}
use mathlib.Core.Path.{◌≡◌, sym, ap, ◌∙◌}
use mathlib.Core.List.{List}
use mathlib.Core.Logic.{◌↔◌}
use lib.ListN.{length}
use Rattle.packet_data.specs.Data.{data_of}
use Rattle.packet_data.specs.declared.Data.{Data}
use Rattle.transfer.specs.declared.Key.{Key}
use Rattle.transfer.specs.Transfers.{reached, Tells}
use Rattle.transfer.specs.Record.{extended, absorbed_by, adds_by, receipt}
use Rattle.transfer.proofs.ReachedLaws.{reached_tells}
use Rattle.transfer.proofs.ExtendLaws.{extended_count, none_added, same_extended}
use Rattle.marks.specs.MarkedRuns.{marked_runs}
use Rattle.marks.proofs.MarkLaws.{marks_known, marked_canonical, marked_member}
use Rattle.bitmap_extend.specs.Record.{record_refusal, record_as, record_marks}
use Rattle.bitmap_extend.proofs.KeptLaws.{record_sets, payload, record_runs}
use Rattle.std.specs.Prelude.{Ok}

module _ (k : Key) (s packet : List ℕ) (e : record_refusal k s packet ≡ 0) where
  pub record_answers : (record_marks k s packet).answer
      ≡ Ok (receipt k (extended (marked_runs s) (data_of packet)) (absorbed_by (marked_runs s) (data_of packet)) (adds_by (marked_runs s) (data_of packet)))
  unfolding record_marks record_as
  record_answers = rw e

  pub record_told : Tells k.length (marked_runs (record_marks k s packet).marks) (reached k (extended (marked_runs s) (data_of packet)))
  record_told = rw (← record_runs k s packet e) (reached_tells k _ (marked_canonical (record_marks k s packet).marks))

  -- R5.8
  pub record_counted : length (marked_runs (record_marks k s packet).marks) + absorbed_by (marked_runs s) (data_of packet) ≡ length (marked_runs s) + 1
  record_counted = rw (record_runs k s packet e) (extended_count (marked_runs s) (data_of packet) (payload k s packet e) (marked_canonical s))

  -- R5.9: nothing is added exactly when every octet of the marks is as before
  pub record_adds : (adds_by (marked_runs s) (data_of packet) ≡ 0) ↔ ((record_marks k s packet).marks ≡ s)
  record_adds =
      let d : Data = data_of packet in
      let known = none_added (marked_runs s) d (payload k s packet e) (marked_canonical s) in
      let same = same_extended (marked_runs s) d (payload k s packet e) (marked_canonical s) in (
        (λ z. record_sets k s packet e ∙ marks_known d.offset d.length s (λ m p q. ((marked_member s m).0 (known.0 z m p q)).1)),
        (λ z. same.1 (sym (record_runs k s packet e) ∙ ap marked_runs z)),
      )
