-- The hex of octets one after the other. Assumes nothing.
use Prim.Native.Nat.{ℕ, ◌+◌, ◌/◌, ◌%◌, ◌<◌}
use mathlib.Core.Path.{◌≡◌, refl, ap, sym, ◌∙◌}
use mathlib.Core.List.{List, [], ◌∷◌, ◌++◌, append_assoc}
use native.Mathlib.Numerals.{add-one}
use lib.ListN.{length, take, get_or}
use lib.Seq.{take-suc}
use Rattle.text.specs.Added.{Added}
use Rattle.text.proofs.AddedLaws.{◌then◌, added_as}
use Rattle.text.specs.Hex.{glyph, hex_of}

pub hex_append : (a b : List ℕ) → hex_of (a ++ b) ≡ hex_of a ++ hex_of b
unfolding hex_of
hex_append [] b = refl
hex_append (x ∷ xs) b = ap (λ (l : List ℕ). glyph (x / 16) ∷ (glyph (x % 16) ∷ l)) (hex_append xs b)

-- one octet more
pub hex_one : (a : List ℕ) (x : ℕ) → hex_of (a ++ (x ∷ [])) ≡ hex_of a ++ (glyph (x / 16) ∷ (glyph (x % 16) ∷ []))
unfolding hex_of
hex_one a x = hex_append a (x ∷ [])

-- the two digits of the next octet put after those of the octets before it
pub hex_next : {a b c d : List ℕ} {at j k l : ℕ} (s : List ℕ) (i g h : ℕ) → i < length s
    → g ≡ glyph (get_or s i 0 / 16) → h ≡ glyph (get_or s i 0 % 16)
    → Added a at (hex_of (take i s)) b j → Added b j (g ∷ []) c k → Added c k (h ∷ []) d l → Added a at (hex_of (take (i + 1) s)) d l
hex_next s i g h f eg eh p q r =
    added_as (sym (digits s i g h f eg eh)) ((p then q) then r)
  where
    digits : (s : List ℕ) (i g h : ℕ) → i < length s → g ≡ glyph (get_or s i 0 / 16) → h ≡ glyph (get_or s i 0 % 16)
        → hex_of (take (i + 1) s) ≡ (hex_of (take i s) ++ (g ∷ [])) ++ (h ∷ [])
    digits s i g h f eg eh =
        rw (add-one, take-suc s i 0, eg, eh) (hex_one (take i s) (get_or s i 0) ∙ sym (append_assoc (hex_of (take i s)) _ _))
