-- `engine_record::record_fields` meets its contract: what the steps find is applied.
-- Assumes nothing.
use native.Mathlib.Omega.{arith}
use Rattle.refusals.specs.Faults.{number_of}
use Rattle.engine_record.proofs.FieldLaws.{place_refused, runs_refused, fields_taken}
use Rattle.engine_record.proofs.record_fields.Goals as goal

pub returns-in_default : goal.returns-in_default
returns-in_default c =
    place_refused _ _ (number_of c.in_default.field-0) c.in_default.ensures _

pub returns-in_default-cut : goal.returns-in_default-cut
returns-in_default-cut c =
    runs_refused _ _ c.in-Ok.t c.in-Ok.ensures.1 (number_of c.in_default-cut.field-0) c.in_default-cut.ensures _

pub returns : goal.returns
returns c =
    fields_taken _ _ _ c.in-Ok.ensures.1 _ (λ i. omega (arith, c.type_inv.packet i)) c.requires.2 _ _ c.join-s.ensures _ _
    c.put_runs.ensures c.keep_stamp.ensures
