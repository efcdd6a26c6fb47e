-- Areas and tables: every valid table has an image in every area that is long enough, an area holds at most one table, storing the
-- table that is held changes nothing, and octets past the layout stay.
-- Assumes nothing.
use Prim.Native.Nat.{ℕ, ◌≤◌}
use mathlib.Core.Path.{◌≡◌, refl, sym, ap, ◌∙◌}
use mathlib.Core.List.{List, []}
use mathlib.Core.Bool.{true, false}
use mathlib.Core.Option.{Option, none, some}
use mathlib.Core.Logic.{◌↔◌}
use native.Mathlib.Omega.{arith}
use lib.ListN.{length, drop, length-append, length-drop}
use Rattle.octets.specs.Numbers.{Octets}
use Rattle.octets.proofs.NumberLaws.{octets_drop}
use Rattle.octets.proofs.OctetLaws.{octets_append}
use Rattle.words.specs.Words.{word_at, octets_by}
use Rattle.words.proofs.WordLaws.{length_by, by_octets, by_past, word_first}
use Rattle.transfer.specs.Transfers.{Transfer}
use Rattle.table.specs.Tables.{Valid}
use Rattle.table.proofs.ValidLaws.{fresh_valid}
use Rattle.area.specs.Layout.{area_words, area_octets}
use Rattle.area.specs.Places.{read_table}
use Rattle.area.specs.Judge.{judged, table_of}
use Rattle.area.specs.Stored.{word_or, stored_in, fresh_in}
use Rattle.area.proofs.JudgeLaws.{judged_passed, held_passes, held_passed, held_valid}
use Rattle.area.proofs.StoredLaws.{stored_held, held_stored}

pub held_long : (a : List ℕ) (t : List Transfer) → table_of a ≡ some t → area_octets ≤ length a
held_long a t e = (judged_passed a (held_passed a t e).0).0

pub stored_octets : (a : List ℕ) (t : List Transfer) → Octets a → Octets (stored_in a t)
unfolding stored_in
stored_octets a t o = octets_append (octets_by (λ k. word_or t k (word_at a k)) 0 area_words) (drop area_octets a) (by_octets _ 0 area_words) (octets_drop area_octets a o)

-- an area holds at most one table
pub held_once : (a : List ℕ) (t u : List Transfer) → table_of a ≡ some t → table_of a ≡ some u → t ≡ u
held_once a t u e f = let p : some t ≡ some u = sym e ∙ f in cc

-- an area holds t exactly where t is valid and its numbers stand in the used places: storing t there changes nothing
pub held_exact : (a : List ℕ) (t : List Transfer) → Octets a → (table_of a ≡ some t) ↔ (Valid t × (stored_in a t ≡ a))
held_exact a t o = ((λ e. (held_valid a t e, held_stored a t o e)), (λ h. ap table_of (sym h.1) ∙ stored_held a t h.0))

-- ---- R9.22: where an area holds no table, and only then
pub unheld_iff : (a : List ℕ) → Octets a → (table_of a ≡ none) ↔ ((t : List Transfer) → Valid t → stored_in a t ≡ a → ⊥)
unheld_iff a o = (
  (λ e t v s.
      let p : table_of a ≡ some t = (held_exact a t o).1 (v, s) in
      let z : ◌≡◌ {A = ℕ} 0 1 = cc in
      omega arith),
  (λ f. go f (table_of a) refl),
)
  where
    go : ((t : List Transfer) → Valid t → stored_in a t ≡ a → ⊥) → (x : Option (List Transfer)) → table_of a ≡ x → table_of a ≡ none
    go f none e = e
    go f (some t) e = let d = (held_exact a t o).0 e in absurd (f t d.0 d.1)

-- by the test
pub judged_held : (a : List ℕ) → judged a ≡ true → table_of a ≡ some (read_table a)
unfolding table_of
judged_held a e = rw e

pub judged_unheld : (a : List ℕ) → judged a ≡ false → table_of a ≡ none
unfolding table_of
judged_unheld a e = rw e

-- ---- the fresh table

fresh_front : length (octets_by (λ k. 0) 0 area_words) ≡ area_octets
fresh_front = length_by (λ k. 0) 0 area_words

pub length_fresh : (a : List ℕ) → area_octets ≤ length a → length (fresh_in a) ≡ length a
unfolding fresh_in
length_fresh a h = omega (arith, length-append (octets_by (λ k. 0) 0 area_words) (drop area_octets a), fresh_front, length-drop area_octets a)

pub fresh_past : (a : List ℕ) → drop area_octets (fresh_in a) ≡ drop area_octets a
unfolding fresh_in
fresh_past a = by_past (λ k. 0) 0 area_words (drop area_octets a)

pub fresh_octets : (a : List ℕ) → Octets a → Octets (fresh_in a)
unfolding fresh_in
fresh_octets a o = octets_append (octets_by (λ k. 0) 0 area_words) (drop area_octets a) (by_octets _ 0 area_words) (octets_drop area_octets a o)

fresh_count : (a : List ℕ) → word_at (fresh_in a) 0 ≡ 0
unfolding fresh_in
fresh_count a = word_first (λ k. 0) area_words 0 (drop area_octets a) (omega arith) (omega arith)

pub fresh_held : (a : List ℕ) → area_octets ≤ length a → table_of (fresh_in a) ≡ some []
fresh_held a h =
    held_passes (fresh_in a) [] (omega (arith, length_fresh a h)) fresh_valid
    (record { count = fresh_count a; heads = λ i f p q. absurd (omega arith); sides = λ s i j l p q. absurd (omega arith) })
    (λ i h l p c. absurd (omega arith))
