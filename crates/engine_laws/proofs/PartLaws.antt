-- A snapshot inside octets is what its words say: where the words are the same, so is the snapshot.
-- Assumes nothing.
use Prim.Native.Nat.{ℕ, ◌+◌, ◌*◌, ◌≤◌, ◌<◌}
use mathlib.Core.Path.{◌≡◌, sym, ap, ◌∙◌}
use mathlib.Core.Bool.{true}
use mathlib.Core.List.{List}
use native.Mathlib.Omega.{arith}
use lib.ListN.{length, take, drop, length-drop}
use lib.Seq.{drop-drop}
use borrow.Author.Tests.{le-leb}
use Rattle.octets.specs.Numbers.{le_value}
use Rattle.words.specs.Words.{word_at}
use Rattle.area.specs.Layout.{transfer_places, area_octets}
use Rattle.area.specs.Places.{read_table}
use Rattle.area.specs.Judge.{judged}
use Rattle.area.proofs.PlaceLaws.{length_transfers}
use Rattle.area.proofs.JudgeLaws.{judged_passed, fine_passes}
use Rattle.engine_slots.specs.Layout.{slot_words, slot_word_at, snapshot_words}
use Rattle.engine_slots.specs.Slots.{slot_at, slots_from}
use Rattle.engine_slots.proofs.BesideLaws.{same_table}
use Rattle.engine_slots.proofs.SlotLaws.{same_slots}
use Rattle.engine_model.specs.Snapshots.{Snapshot}
use Rattle.engine_state.specs.State.{snapshot_in}

-- ---- words that are the same hold the same snapshot

module _ (a b : List ℕ) (j : judged a ≡ true) (long : area_octets ≤ length b)
    (w : (k : ℕ) → k < snapshot_words → word_at b k ≡ word_at a k) where
  few : word_at a 0 ≤ transfer_places
  few = omega (arith, (judged_passed a j).1.few, length_transfers a 0 (word_at a 0))

  table_same : read_table b ≡ read_table a
  table_same = same_table a b j (λ k h. w k (omega arith))

  still_judged : judged b ≡ true
  unfolding judged
  still_judged =
      rw (le-leb area_octets (length b) long, table_same, w 0 (omega arith), le-leb (word_at a 0) transfer_places few)
      (fine_passes 0 (read_table a) (judged_passed a j).1.fine)

  slot_same : (i : ℕ) → i < transfer_places → slot_at b i ≡ slot_at a i
  unfolding slot_at
  slot_same i h =
      let v : (f : ℕ) → f < slot_words → word_at b (slot_word_at i f) ≡ word_at a (slot_word_at i f) = λ f g. w (slot_word_at i f) (omega arith) in
      let v0 = v 0 (omega arith) in let v1 = v 1 (omega arith) in let v2 = v 2 (omega arith) in let v3 = v 3 (omega arith) in
      let v4 = v 4 (omega arith) in let v5 = v 5 (omega arith) in let v6 = v 6 (omega arith) in let v7 = v 7 (omega arith) in
      let v8 = v 8 (omega arith) in let v9 = v 9 (omega arith) in let v10 = v 10 (omega arith) in let v11 = v 11 (omega arith) in
      λ x. record {
        file = v0 x;
        owner = record { high = v1 x; low = v2 x; port = v3 x };
        digest = record { first = v4 x; second = v5 x };
        named = v6 x;
        reported = v7 x;
        due = v8 x;
        asked = v9 x;
        heard = v10 x;
        last = v11 x;
      }

  slots_same : slots_from b 0 (word_at b 0) ≡ slots_from a 0 (word_at a 0)
  slots_same = ap (slots_from b 0) (w 0 (omega arith)) ∙ same_slots a b (word_at a 0) (λ k h. slot_same k (omega (arith, few)))

  snapshot_same : snapshot_in b ≡ snapshot_in a
  snapshot_same = let t = table_same in let s = slots_same in λ k. record { table = t k; slots = s k }

-- ---- the snapshot at word q of a is x

pub record At (a : List ℕ) (q : ℕ) (x : Snapshot) : Type 0 where
  pub fine : judged (drop (q * 8) a) ≡ true
  pub is : snapshot_in (drop (q * 8) a) ≡ x

pub word_from : (a : List ℕ) (q k : ℕ) → word_at (drop (q * 8) a) k ≡ word_at a (q + k)
word_from a q k =
    let e : q * 8 + k * 8 ≡ (q + k) * 8 = omega arith in
    ap (λ (l : List ℕ). le_value (take 8 l)) (drop-drop (k * 8) (q * 8) a ∙ ap (λ (n : ℕ). drop n a) e)

-- the words from word q on of b are those from word p on of a
pub at_same : (a b : List ℕ) (p q : ℕ) (x : Snapshot) → At a p x → (q + snapshot_words) * 8 ≤ length b
    → ((k : ℕ) → k < snapshot_words → word_at b (q + k) ≡ word_at a (p + k)) → At b q x
at_same a b p q x h l w =
    let v : (k : ℕ) → k < snapshot_words → word_at (drop (q * 8) b) k ≡ word_at (drop (p * 8) a) k =
    λ k g. word_from b q k ∙ w k g ∙ sym (word_from a p k) in
    let m : area_octets ≤ length (drop (q * 8) b) = omega (arith, length-drop (q * 8) b) in
    record {
      fine = still_judged (drop (p * 8) a) (drop (q * 8) b) h.fine m v;
      is = snapshot_same (drop (p * 8) a) (drop (q * 8) b) h.fine m v ∙ h.is;
    }
