-- What is looked up in a snapshot, and what that is after each change of it.
-- Assumes nothing.
pub use Rattle.engine_model.proofs.FitLaws.{Fit, Alike, fit_empty, open_key_lem, key_open, shut_key, key_shut, member_open, received_canonical, complete_open, complete_member, alike_same, alike_open, alike_then, alike_complete, fit_slot, slot_key, slot_runs, slot_same, slot_other}
pub use Rattle.engine_model.proofs.RecordingLaws.{recording, fit_recording, recording_key, recording_slot, recording_other, recording_only, recording_keeps, recording_brings, recording_refused}
pub use Rattle.engine_model.proofs.OpenCloseLaws.{with_key, fit_new, new_key, new_runs, new_slot_lem, new_other, new_open, fit_closed, closed_gone, closed_other, closed_open}
