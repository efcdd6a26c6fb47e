-- Only a packet that begins 0 1 is refused with a code: of the packets that may be answered, the type alone tells which is a BEACON.
-- Assumes nothing.
use Prim.Native.Nat.{ℕ, zero, suc}
use mathlib.Core.Path.{◌≡◌, refl, sym, ap, ◌∙◌}
use mathlib.Core.Bool.{Bool, true, false, not}
use mathlib.Core.List.{List}
use lib.Dec.{ltb, eqb}
use lib.ListN.{length}
use Rattle.refusals.specs.Refusals.{◌▹◌, when, code_of, refusal_of, answered}
use Rattle.refusals.specs.declared.Refusal.{Refusal}
use Rattle.header.specs.FirstWord.{mark_of, type_of}
use Rattle.header.specs.Start.{word_of, start_octets, start_refusal}
use Rattle.header.proofs.StartLaws.{start_fine}
use Rattle.packet.specs.Read.{read_type, read_packet}
use Rattle.packet.specs.declared.Packet.TheVariants as read
use Rattle.std.specs.Prelude.{Err}

-- 2, 1 and 3, which come before all others, have no code
start_code : (s : List ℕ) → code_of (start_refusal s) ≡ 0
unfolding start_refusal code_of
start_code s = go (ltb 65535 (length s)) (ltb (length s) (start_octets (word_of s))) (not (eqb (mark_of (word_of s)) 1))
  where
    go : (a b c : Bool) → code_of (when a 2 ▹ when b 1 ▹ when c 3) ≡ 0
    go true b c = refl
    go false true c = refl
    go false false true = refl
    go false false false = refl

pub coded_begins : (s : List ℕ) (x : Refusal) → read_packet s ≡ Err x → (x.code ≡ 0 → ⊥) → mark_of (word_of s) ≡ 1
unfolding read_packet
coded_begins s x e coded = go (start_refusal s) refl e
  where
    go : (n : ℕ) → start_refusal s ≡ n → answered Err n (read_type (type_of (word_of s)) s) ≡ Err x → mark_of (word_of s) ≡ 1
    go zero z f = (start_fine s z).mark
    go (suc n) z f =
        let same : x ≡ refusal_of (suc n) = cc in
        absurd (coded (ap (λ (r : Refusal). r.code) same ∙ ap code_of (sym z) ∙ start_code s))
