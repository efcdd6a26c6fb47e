-- What reading any packet answers, where its start is refused and where it isn't. Assumes nothing.
use Prim.Native.Nat.{ℕ}
use mathlib.Core.Path.{◌≡◌, ◌∙◌}
use mathlib.Core.List.{List}
use Rattle.refusals.specs.Refusals.{refusal_of}
use Rattle.refusals.proofs.RefusalLaws.{answered_refused}
use Rattle.header.specs.FirstWord.{type_of}
use Rattle.header.specs.Start.{word_of, start_refusal}
use Rattle.packet.specs.Read.{read_type, read_packet}
use Rattle.packet.specs.declared.Packet.{Packet}
use Rattle.std.specs.Prelude.{Result, Err}
use Rattle.refusals.specs.declared.Refusal.{Refusal}

pub read_refused : (s : List ℕ) → (start_refusal s ≡ 0 → ⊥) → Err (refusal_of (start_refusal s)) ≡ read_packet s
unfolding read_packet
read_refused s h = answered_refused Err (start_refusal s) _ h

pub read_by_type : (s : List ℕ) {r : Result Packet Refusal} → start_refusal s ≡ 0 → r ≡ read_type (type_of (word_of s)) s → r ≡ read_packet s
unfolding read_packet
read_by_type s z e = e ∙ rw z
