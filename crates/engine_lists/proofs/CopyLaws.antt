-- The pending snapshot of a state, copied, is what a start takes.
-- Assumes nothing.
use Prim.Native.Nat.{ℕ, ◌+◌, ◌*◌, ◌≤◌, ◌<◌}
use mathlib.Core.Path.{◌≡◌, ap, ◌∙◌}
use mathlib.Core.List.{List}
use mathlib.Core.Option.{some}
use native.Mathlib.Omega.{arith}
use lib.ListN.{length, take, drop, length-drop}
use lib.Seq.{length-take-le}
use Rattle.octets.specs.Numbers.{le_value}
use Rattle.octets.proofs.NumberLaws.{octets_take, octets_drop}
use Rattle.octets.proofs.PutParts.{part_of}
use Rattle.words.specs.Words.{word_at}
use Rattle.engine_slots.specs.Layout.{snapshot_words, snapshot_octets}
use Rattle.engine_model.specs.Snapshots.{Snapshot}
use Rattle.engine_model.specs.Engine.{Engine}
use Rattle.engine_state.specs.Layout.{pending_at, pending_octet, under_way_field, state_octets}
use Rattle.engine_state.specs.State.{snapshot_in, number_in}
use Rattle.engine_state.proofs.StateLaws.{Held, held_known}
use Rattle.engine_laws.specs.Speaks.{Holds}
use Rattle.engine_laws.proofs.PartLaws.{At, word_from, at_same}
use Rattle.engine_laws.proofs.SyncSpeaks.{pending_some}
use Rattle.engine_laws.proofs.Theorems.{holds_known}
use Rattle.engine_lists.specs.Claims.{Saved}

module _ (s : List ℕ) (e : Engine) (x : Snapshot) (h : Holds s e) (under_way : e.pending ≡ some x) where
  abbrev copied : List ℕ
  copied = take snapshot_octets (drop pending_octet s)

  held : Held s
  held = held_known s (holds_known s e h).0

  whole : snapshot_octets ≤ length (drop pending_octet s)
  whole = let l : state_octets ≤ length s = held.long in omega (arith, length-drop pending_octet s)

  word_copied : (k : ℕ) → k < snapshot_words → word_at copied (0 + k) ≡ word_at s (pending_at + k)
  word_copied k l =
      let z : 0 + k ≡ k = omega arith in
      ap (word_at copied) z
      ∙ ap le_value (part_of snapshot_octets 8 (k * 8) (drop pending_octet s) (omega arith) whole)
      ∙ word_from s pending_at k

  is_pending : snapshot_in (drop pending_octet s) ≡ x
  is_pending =
      pending_some (number_in s under_way_field) (snapshot_in (drop pending_octet s)) x (ap (λ (g : Engine). g.pending) (holds_known s e h).1 ∙ under_way)

  pub copy_saved : Saved copied x
  copy_saved =
      let size : length copied ≡ snapshot_octets = length-take-le snapshot_octets (drop pending_octet s) whole in
      let at : At copied 0 x =
      at_same s copied pending_at 0 x (record { fine = held.pending_judged; is = is_pending }) (omega (arith, size)) word_copied in
      record {
        octets = octets_take snapshot_octets (drop pending_octet s) (octets_drop pending_octet s h.octets);
        long = omega (arith, size);
        fine = at.fine;
        is = at.is;
      }
