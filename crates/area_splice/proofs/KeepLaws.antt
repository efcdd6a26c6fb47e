-- A timestamp kept at a place, by whether there is one: three words put, or none.
-- Assumes nothing.
use Prim.Native.Nat.{ℕ, ◌+◌, ◌≤◌, ◌<◌}
use mathlib.Core.Path.{◌≡◌, sym, ap, ◌∙◌}
use mathlib.Core.List.{List, []}
use native.Mathlib.Omega.{arith}
use lib.ListN.{length, take, drop, length-drop}
use lib.Seq.{drop-drop, length-take-le}
use Rattle.octets.specs.Numbers.{le_value}
use Rattle.octets.proofs.PutParts.{part_of}
use Rattle.words.specs.Words.{put_word}
use Rattle.timestamp.proofs.StampLaws.{none_stamped, stamped_some}
use Rattle.area.specs.Layout.{stamped_field, head_at, half_at}
use Rattle.area.specs.Places.{half_of}
use Rattle.area_splice.specs.Splice.{Brings, stamped_area}

pub none_kept : (a : List ℕ) (p : ℕ) → stamped_area a p [] ≡ a
unfolding stamped_area
none_kept a p = rw none_stamped

pub nothing_brought : (a : List ℕ) (p n : ℕ) (l : List ℕ) → n ≡ 0 → a ≡ stamped_area a p (take n l)
nothing_brought a p n l e = rw e (sym (none_kept a p))

abbrev words_put : List ℕ → ℕ → ℕ → ℕ → List ℕ
words_put a p x y = put_word (half_at p 1) y (put_word (half_at p 0) x (put_word (head_at p stamped_field) 1 a))

pub one_kept : (a : List ℕ) (p : ℕ) (s : List ℕ) → 0 < length s → stamped_area a p s ≡ words_put a p (half_of s 0) (half_of s 1)
unfolding stamped_area
one_kept a p s h = rw (stamped_some s h)

-- the three words in a row, the halves as they were read from the packet
pub halves_brought : (a x y z packet : List ℕ) (p n h at first last : ℕ) → (n ≡ 0 → ⊥) → Brings packet n → h ≡ head_at p stamped_field → at ≡ half_at p 0
    → first ≡ le_value (take 8 (drop 8 packet)) → last ≡ le_value (take 8 (drop 16 packet)) → x ≡ put_word h 1 a → y ≡ put_word at first x
    → z ≡ put_word (at + 1) last y → z ≡ stamped_area a p (take n (drop 8 packet))
halves_brought a x y z packet p n h at first last some brings e f u v i j k =
    let size : n ≡ 16 = brings.size some in
    let whole : 24 ≤ length packet = omega (arith, brings.whole) in
    let rest = drop 8 packet in
    let long : 16 ≤ length rest = omega (arith, length-drop 8 packet) in
    let l : length (take 16 rest) ≡ 16 = length-take-le 16 rest long in
    let g : at + 1 ≡ half_at p 1 = omega arith in
    let low : first ≡ half_of (take 16 rest) 0 = u ∙ ap le_value (sym (part_of 16 8 0 rest (omega arith) long)) in
    let high : last ≡ half_of (take 16 rest) 1 =
    v ∙ ap (λ (m : List ℕ). le_value (take 8 m)) (sym (drop-drop 8 8 packet)) ∙ ap le_value (sym (part_of 16 8 8 rest (omega arith) long)) in
    k ∙ rw (j, i, e, g, f, low, high, size) (sym (one_kept a p (take 16 rest) (omega arith)))
