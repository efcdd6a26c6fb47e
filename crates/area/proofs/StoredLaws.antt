-- An area into which a table is stored: its words, what is read back from it, and when it is the area itself.
-- Assumes nothing.
use Prim.Native.Nat.{ℕ, zero, suc, ◌*◌, ◌^◌, ◌≤◌, ◌<◌}
use mathlib.Core.Path.{◌≡◌, refl, sym, ap, ◌∙◌}
use mathlib.Core.List.{List, [], ◌∷◌}
use mathlib.Core.Option.{some}
use mathlib.Core.Logic.{inl, inr, ⊎_elim}
use native.Mathlib.Omega.{arith}
use native.Mathlib.Nat.{lt_of_lt_of_le, pow-le-pow_right}
use lib.ListN.{length, drop, length-append, length-drop}
use Rattle.octets.specs.Numbers.{Octets}
use Rattle.octets.proofs.NumberLaws.{width_le}
use Rattle.octets.proofs.LowFirstLaws.{low_part_lt}
use Rattle.runs.specs.Runs.{Run, nth_run, CanonicalFrom, StopsTo}
use Rattle.runs.proofs.CompareLaws.{le_or_lt}
use Rattle.words.specs.Words.{word_at, octets_by}
use Rattle.words.proofs.WordLaws.{length_by, word_first, by_past, by_known}
use Rattle.timestamp.specs.Timestamps.{Stamp}
use Rattle.transfer.specs.Transfers.{Transfer, TransferFine}
use Rattle.table.specs.Tables.{FineFrom, Valid}
use Rattle.area.specs.Layout.{transfer_places, run_places, stamp_words, area_words, area_octets, head_at, run_at, half_at}
use Rattle.area.specs.Places.{nth, field, side_of, stamp_code, half_of, Holds, HoldsHalves}
use Rattle.area.specs.Judge.{table_of}
use Rattle.area.specs.Stored.{word_or, stored_in}
use Rattle.area.proofs.PlaceLaws.{or_count, or_head, or_run, or_half, head_used, run_used, half_used, run_there, Few, holds_stored, length_transfers, code_none, code_sixteen, read_holds, read_halves}
use Rattle.area.proofs.JudgeLaws.{fine_at, judged_passed, held_passes, held_passed}

-- ---- what is stored

-- the rule by which the words of stored_in are made
abbrev rule : List ℕ → List Transfer → ℕ → ℕ
rule a t k = word_or t k (word_at a k)

stored_front : (a : List ℕ) (t : List Transfer) → length (octets_by (rule a t) 0 area_words) ≡ area_octets
stored_front a t = length_by (rule a t) 0 area_words

-- R8.3: octets past the layout stay
pub stored_past : (a : List ℕ) (t : List Transfer) → drop area_octets (stored_in a t) ≡ drop area_octets a
unfolding stored_in
stored_past a t = by_past (rule a t) 0 area_words (drop area_octets a)

pub stored_long : (a : List ℕ) (t : List Transfer) → area_octets ≤ length (stored_in a t)
unfolding stored_in
stored_long a t = omega (arith, length-append (octets_by (rule a t) 0 area_words) (drop area_octets a), stored_front a t)

pub length_stored : (a : List ℕ) (t : List Transfer) → area_octets ≤ length a → length (stored_in a t) ≡ length a
unfolding stored_in
length_stored a t h =
    omega (arith, length-append (octets_by (rule a t) 0 area_words) (drop area_octets a), stored_front a t, length-drop area_octets a)

stored_word : (a : List ℕ) (t : List Transfer) (k : ℕ) → k < area_words → word_or t k (word_at a k) < 2 ^ 64 → word_at (stored_in a t) k ≡ word_or t k (word_at a k)
unfolding stored_in
stored_word a t k h b = word_first (rule a t) area_words k (drop area_octets a) h b

-- what has the words of t stored in a, and a's octets past them, is a with t stored in it
pub stored_is : (a b : List ℕ) (t : List Transfer) → Octets b → area_octets ≤ length b
    → ((k : ℕ) → k < area_words → word_at b k ≡ word_or t k (word_at a k)) → drop area_octets b ≡ drop area_octets a → b ≡ stored_in a t
unfolding stored_in
stored_is a b t o l w d = by_known (rule a t) b (drop area_octets a) area_words o l w d

-- ---- the numbers of a valid table fit their words, and its places the layout

field_fits : (x : Transfer) (f : ℕ) → TransferFine x → field x f < 2 ^ 64
field_fits x zero h = omega (arith, h.id_fits)
field_fits x (suc zero) h = omega (arith, width_le h.width_is)
field_fits x (suc (suc zero)) h = h.length_held
field_fits x (suc (suc (suc zero))) h = omega (arith, h.few)
field_fits x (suc (suc (suc (suc (suc f))))) h = omega arith
field_fits x (suc (suc (suc (suc zero)))) h = code_fits x.stamp h.stamp_is
  where
    code_fits : (s : List ℕ) → Stamp s → stamp_code s < 2 ^ 64
    code_fits s (inl e) = rw (e, code_none) (omega arith)
    code_fits s (inr e) = rw (code_sixteen s e.0) (omega arith)

half_fits : (s : List ℕ) (h : ℕ) → h < stamp_words → Stamp s → stamp_code s ≡ 1 → half_of s h < 2 ^ 64
half_fits s h l (inl e) c = absurd (omega (arith, ap stamp_code e ∙ code_none))
half_fits s h l (inr e) c = low_part_lt s (h * 8) 8 e.1 (omega (arith, e.0))

stop_fits : (k L : ℕ) (rs : List Run) (j : ℕ) → CanonicalFrom k rs → StopsTo L rs → j < length rs
    → ((nth_run rs j).start < (nth_run rs j).stop) × ((nth_run rs j).stop ≤ L)
stop_fits k L [] j c s h = absurd (omega arith)
stop_fits k L (r ∷ rs) zero c s h = (c.1, s.0)
stop_fits k L (r ∷ rs) (suc j) c s h = stop_fits (suc r.stop) L rs j c.2 s.1 (omega arith)

pub valid_few : (t : List Transfer) → Valid t → Few t
valid_few t v = record {
  transfers = v.few;
  runs = λ i.
      ⊎_elim
      (λ (p : length (nth t i).runs ≤ 64). p)
      (λ (p : 64 < length (nth t i).runs). let f : TransferFine (nth t i) = fine_at 0 t i v.fine (run_there t i 64 p) in f.few)
      (le_or_lt (length (nth t i).runs) 64);
}

-- ---- the laws

run_fits : (x : Transfer) (s j : ℕ) → TransferFine x → j < length x.runs → side_of (nth_run x.runs j) s < 2 ^ 64
run_fits x zero j f h =
    let r = stop_fits 0 x.key.length x.runs j f.canonical f.within h in
    omega (arith, f.length_held)
run_fits x (suc s) j f h =
    let r = stop_fits 0 x.key.length x.runs j f.canonical f.within h in
    omega (arith, f.length_held)

stored_holds_table : (a : List ℕ) (t : List Transfer) → Valid t → Holds (stored_in a t) t
stored_holds_table a t v =
    let few = valid_few t v in
    let n : length t ≤ transfer_places = v.few in
    record {
      count = let e = or_count t (word_at a 0) in stored_word a t 0 (omega arith) (rw e (omega arith)) ∙ e;
      heads = λ i f p q.
          let e = or_head t i f (word_at a (head_at i f)) (omega arith) q ∙ head_used t i f (word_at a (head_at i f)) p in
          stored_word a t (head_at i f) (omega arith) (rw e (field_fits (nth t i) f (fine_at 0 t i v.fine p))) ∙ e;
      sides = λ s i j l p q.
          let m : length (nth t i).runs ≤ run_places = few.runs i in
          let e = or_run t s i j (word_at a (run_at s i j)) l (omega arith) (omega arith) ∙ run_used t s i j (word_at a (run_at s i j)) q in
          stored_word a t (run_at s i j) (omega arith) (rw e (run_fits (nth t i) s j (fine_at 0 t i v.fine p) q)) ∙ e;
    }

stored_holds_halves : (a : List ℕ) (t : List Transfer) → Valid t → HoldsHalves (stored_in a t) t
stored_holds_halves a t v i h l p c =
    let n : length t ≤ transfer_places = v.few in
    let e = or_half t i h (word_at a (half_at i h)) (omega arith) l ∙ half_used t i h (word_at a (half_at i h)) c in
    stored_word a t (half_at i h) (omega arith) (rw e (half_fits (nth t i).stamp h l (fine_at 0 t i v.fine p).stamp_is c)) ∙ e

-- each valid table is read back from any area into which it was stored
pub stored_held : (a : List ℕ) (t : List Transfer) → Valid t → table_of (stored_in a t) ≡ some t
stored_held a t v = held_passes (stored_in a t) t (stored_long a t) v (stored_holds_table a t v) (stored_holds_halves a t v)

-- and storing what an area holds changes nothing
pub held_stored : (a : List ℕ) (t : List Transfer) → Octets a → table_of a ≡ some t → stored_in a t ≡ a
held_stored a t o e =
    let p = held_passed a t e in
    let j = judged_passed a p.0 in
    let n : word_at a 0 ≤ transfer_places = omega (arith, j.1.few, length_transfers a 0 (word_at a 0)) in
    let h : Holds a t = rw p.1 at (read_holds a) in
    let s : HoldsHalves a t = rw p.1 at (read_halves a o j.0 n) in
    sym (stored_is a a t o j.0 (λ k l. sym (holds_stored a t h s k l)) refl)
