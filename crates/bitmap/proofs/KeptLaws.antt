-- What opening leaves: marks that are the new transfer's, with nothing received; and all of them on refusal.
-- Assumes nothing.
use Prim.Native.Nat.{ℕ, zero, suc, ◌≤◌, ◌<◌}
use mathlib.Core.Path.{◌≡◌, refl, ap, ◌∙◌}
use mathlib.Core.List.{List, []}
use native.Mathlib.Omega.{arith}
use lib.ListN.{length, drop}
use lib.Dec.{ltb}
use borrow.Author.Tests.{ltb-false}
use Rattle.octets.specs.Numbers.{Octets}
use Rattle.refusals.proofs.RefusalLaws.{first_none, rest_none, failed}
use Rattle.runs.specs.Holes.{edge_from}
use Rattle.packet_metadata.specs.Metadata.{metadata_refusal, metadata_of, read_metadata}
use Rattle.transfer.specs.declared.Key.{Key}
use Rattle.transfer.specs.Transfers.{key_of}
use Rattle.transfer.proofs.FieldLaws.{metadata_known}
use Rattle.transfer.proofs.LengthLaws.{length_passes}
use Rattle.marks.specs.Marks.{mark_octets, cleared}
use Rattle.marks.specs.MarkedRuns.{marked_runs}
use Rattle.marks.proofs.MarkLaws.{length_cleared, cleared_past, runs_cleared}
use Rattle.bitmap.specs.State.{longest, marks_refusal, state_refusal}
use Rattle.bitmap.specs.Open.{open_refusal, open_as, open_marks}
use Rattle.bitmap.proofs.StateLaws.{known_state}
use Rattle.bitmap.proofs.LimitLaws.{nine_iff}

module _ (s packet : List ℕ) where
  open_as_same : (n : ℕ) (k : Key) → (n ≡ 0 → ⊥) → (open_as n s k).marks ≡ s
  unfolding open_as
  open_as_same zero k h = absurd (h refl)
  open_as_same (suc n) k h = refl

  pub open_refused_same : (open_refusal s packet ≡ 0 → ⊥) → (open_marks s packet).marks ≡ s
  unfolding open_marks
  open_refused_same h = open_as_same (open_refusal s packet) (key_of (metadata_of packet)) h

  module _ (e : open_refusal s packet ≡ 0) where
    pub open_clears : (open_marks s packet).marks ≡ cleared s
    unfolding open_marks open_as
    open_clears = rw e

    pub long : mark_octets ≤ length s
    unfolding open_refusal marks_refusal
    long = ltb-false (length s) mark_octets (failed (ltb (length s) mark_octets) 19 (first_none (marks_refusal s) _ e))

    pub opened_read : metadata_refusal packet ≡ 0
    unfolding open_refusal
    opened_read = first_none (metadata_refusal packet) _ (rest_none (marks_refusal s) _ e)

    pub short : (key_of (metadata_of packet)).length ≤ longest
    short =
        let f : longest < (key_of (metadata_of packet)).length → open_refusal s packet ≡ 9 = (nine_iff s packet long opened_read).1 in
        grind (arith, e)

    -- nothing is received
    pub open_runs : marked_runs (open_marks s packet).marks ≡ []
    open_runs = ap marked_runs open_clears ∙ runs_cleared s

    -- and the marks are the new transfer's
    pub open_leaves : Octets packet → state_refusal (key_of (metadata_of packet)) (open_marks s packet).marks ≡ 0
    unfolding read_metadata edge_from
    open_leaves o =
        let m = metadata_known packet (metadata_of packet) o (rw opened_read) in
        known_state (key_of (metadata_of packet)) (open_marks s packet).marks (record {
          long = rw (open_clears, length_cleared s long) long;
          taken = length_passes (key_of (metadata_of packet)).width (key_of (metadata_of packet)).length m.width_is m.size_fits m.size_held;
          short = short;
          few = rw open_runs (omega arith);
          within = rw open_runs (omega arith);
        })

  -- octets past the marks stay
  pub open_past : drop mark_octets (open_marks s packet).marks ≡ drop mark_octets s
  open_past = go (open_refusal s packet) refl
    where
      go : (n : ℕ) → open_refusal s packet ≡ n → drop mark_octets (open_marks s packet).marks ≡ drop mark_octets s
      go zero e = ap (drop mark_octets) (open_clears e) ∙ cleared_past s (long e)
      go (suc n) e = ap (drop mark_octets) (open_refused_same (λ z. omega arith))
