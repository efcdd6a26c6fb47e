-- R12.2, R12.3, R5.4, R5.7: what opening tells and hands out is what the marks that it leaves say: none is set.
-- Assumes nothing.
use Prim.Native.Nat.{ℕ, zero, suc, ◌≤◌}
use mathlib.Core.Path.{◌≡◌, refl, sym}
use mathlib.Core.List.{List, []}
use native.Mathlib.Omega.{arith}
use lib.ListN.{length}
use Rattle.packet_metadata.specs.Metadata.{metadata_of}
use Rattle.transfer.specs.declared.Key.{Key}
use Rattle.transfer.specs.Transfers.{key_of, reached, Tells}
use Rattle.transfer.proofs.ReachedLaws.{reached_tells}
use Rattle.marks.specs.Marks.{mark_octets, cleared}
use Rattle.marks.specs.MarkedRuns.{marked_runs}
use Rattle.bitmap.specs.State.{unstamped, longest}
use Rattle.bitmap.specs.Open.{open_refusal, open_as, open_marks}
use Rattle.bitmap.specs.declared.Opening.{Opening}
use Rattle.bitmap.proofs.KeptLaws.{open_clears, long, short, open_runs}
use Rattle.std.specs.Prelude.{Ok}

-- what METADATA opens
abbrev pub opens : List ℕ → Opening
opens packet = let k = key_of (metadata_of packet) in record { held = unstamped k; reached = reached k [] }

module _ (s packet : List ℕ) (e : open_refusal s packet ≡ 0) where
  pub open_answers : (open_marks s packet).answer ≡ Ok (opens packet)
  unfolding open_marks open_as
  open_answers = rw e

  pub open_told : (k : Key) → Tells k.length (marked_runs (open_marks s packet).marks) (reached k [])
  open_told k = rw (open_runs s packet e) (reached_tells k [] tt)

-- what is known of an opening that is answered as new
pub record MarksOpened (s packet : List ℕ) (o : Opening) : Type 0 where
  pub opened : o ≡ opens packet
  pub left : (open_marks s packet).marks ≡ cleared s
  pub enough : mark_octets ≤ length s
  pub held : (key_of (metadata_of packet)).length ≤ longest

pub marks_opened : (s packet : List ℕ) (o : Opening) → (open_marks s packet).answer ≡ Ok o → MarksOpened s packet o
unfolding open_marks open_as
marks_opened s packet o new = go (open_refusal s packet) refl new
  where
    go : (n : ℕ) → open_refusal s packet ≡ n → (open_as n s (key_of (metadata_of packet))).answer ≡ Ok o → MarksOpened s packet o
    go zero e q = record {
      opened = let y : opens packet ≡ o = cc in sym y;
      left = open_clears s packet e;
      enough = long s packet e;
      held = short s packet e;
    }
    go (suc n) e q = absurd (let z : ◌≡◌ {A = ℕ} 0 1 = cc in omega arith)
