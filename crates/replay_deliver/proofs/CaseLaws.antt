-- What is shown for the case that a packet is read as is shown for the packet. Assumes nothing.
use Prim.Native.Nat.{ℕ}
use mathlib.Core.Path.{◌≡◌}
use mathlib.Core.List.{List}
use Rattle.packet.specs.declared.Packet.{Packet}
use Rattle.text.specs.Added.{Added}
use Rattle.replay_deliver.specs.Deliver.{deliver_lines, deliver_area}
use Rattle.std.specs.Prelude.{Result}
use Rattle.refusals.specs.declared.Refusal.{Refusal}

pub of_packet : (n : ℕ) (s area room : List ℕ) {x y : Result Packet Refusal} {o p l : List ℕ} {r : ℕ} → x ≡ y
    → (Added o 0 (deliver_lines n s x area room) p r) × (l ≡ deliver_area s x area)
    → (Added o 0 (deliver_lines n s y area room) p r) × (l ≡ deliver_area s y area)
of_packet n s area room e h = rw e at h
