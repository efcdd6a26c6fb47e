-- An area in which the runs of a place were put is the area with the table stored that has these runs there.
-- Assumes nothing.
use Prim.Native.Nat.{ℕ, zero, suc, ◌≤◌, ◌<◌}
use mathlib.Core.Path.{◌≡◌, refl, sym, ap, ap₂, ◌∙◌}
use mathlib.Core.Bool.{true, cond}
use mathlib.Core.List.{List, []}
use mathlib.Core.Logic.{◌⊎◌, inl, inr, ⊎_elim}
use native.Mathlib.Omega.{arith}
use lib.ListN.{length, length-set}
use lib.Seq.{get_or-set_same, get_or-set_other}
use lib.Dec.{ltb, eqb}
use Rattle.octets.specs.Numbers.{Octets}
use Rattle.runs.specs.Runs.{Run, nth_run}
use Rattle.runs.proofs.CompareLaws.{same_or, le_or_lt}
use Rattle.words.specs.Words.{word_at}
use Rattle.row_union.specs.Joined.{Kept}
use Rattle.timestamp.specs.Timestamps.{renewed}
use Rattle.timestamp.proofs.StampLaws.{none_renewed}
use Rattle.transfer.specs.Transfers.{Transfer}
use Rattle.area.specs.Layout.{transfer_places, run_places, head_words, stamp_words, count_field, area_words, area_octets, head_at, run_at, half_at}
use Rattle.area.specs.Places.{read_table, unused, nth, field, side_of, with_runs, stamp_code, half_of}
use Rattle.area.specs.Judge.{judged}
use Rattle.area.specs.Stored.{head_or, run_or, half_or, word_or, stored_in}
use Rattle.area.proofs.PlaceLaws.{place_cases, or_count, or_head, or_run, or_half, head_used, run_used, run_free, holds_stored, length_transfers, read_holds, read_halves}
use Rattle.area.proofs.JudgeLaws.{judged_passed}
use Rattle.area.proofs.StoredLaws.{stored_is}
use Rattle.area_union.specs.Put.{Away, RunsPut}

module _ (a : List ℕ) (held : judged a ≡ true) (o : Octets a) (p : ℕ) (there : p < length (read_table a)) (rs : List Run) where
  abbrev t : List Transfer
  t = read_table a

  abbrev u : List Transfer
  u = with_runs t p rs []

  abbrev changed : Transfer
  changed = record { key = (nth t p).key; runs = rs; stamp = renewed [] (nth t p).stamp }

  -- ---- the table after it, place by place

  same_number : length u ≡ length t
  same_number = length-set t p changed

  here : nth u p ≡ changed
  here = get_or-set_same t p changed unused there

  elsewhere : (m : ℕ) → (m ≡ p → ⊥) → nth u m ≡ nth t m
  elsewhere m e = get_or-set_other t p m changed unused e

  same_stamp : (m : ℕ) → (nth u m).stamp ≡ (nth t m).stamp
  same_stamp m =
      ⊎_elim
      (λ (e : m ≡ p). rw e (ap (λ (x : Transfer). x.stamp) here ∙ none_renewed (nth t p).stamp))
      (λ (e : m ≡ p → ⊥). ap (λ (x : Transfer). x.stamp) (elsewhere m e))
      (same_or m p)

  same_field : (f : ℕ) → (f ≡ count_field → ⊥) → field changed f ≡ field (nth t p) f
  same_field zero n = refl
  same_field (suc zero) n = refl
  same_field (suc (suc zero)) n = refl
  same_field (suc (suc (suc zero))) n = absurd (n refl)
  same_field (suc (suc (suc (suc zero)))) n = ap stamp_code (none_renewed (nth t p).stamp)
  same_field (suc (suc (suc (suc (suc f))))) n = refl

  -- ---- words that are stored alike

  few : word_at a 0 ≤ transfer_places
  few = omega (arith, (judged_passed a held).1.few, length_transfers a 0 (word_at a 0))

  stays : (k : ℕ) → k < area_words → word_or t k (word_at a k) ≡ word_at a k
  stays = holds_stored a t (read_holds a) (read_halves a o (judged_passed a held).0 few)

  head_alike : (m f old : ℕ) → field (nth u m) f ≡ field (nth t m) f → head_or u m f old ≡ head_or t m f old
  unfolding head_or
  head_alike m f old e = ap₂ (λ (n x : ℕ). cond (ltb m n) x old) same_number e

  run_alike : (s m q old : ℕ) → nth u m ≡ nth t m → run_or u s m q old ≡ run_or t s m q old
  unfolding run_or
  run_alike s m q old e = ap (λ (x : Transfer). cond (ltb q (length x.runs)) (side_of (nth_run x.runs q) s) old) e

  half_alike : (m h old : ℕ) → half_or u m h old ≡ half_or t m h old
  unfolding half_or
  half_alike m h old = ap (λ (s : List ℕ). cond (eqb (stamp_code s) 1) (half_of s h) old) (same_stamp m)

  -- ---- the area b, in which the runs rs were put at place p

  module _ (b starts stops : List ℕ) (n : ℕ) (put : RunsPut a b p starts stops n) (kept : Kept starts stops n rs) (count : n ≡ length rs)
      (in-starts : n ≤ length starts) (in-stops : n ≤ length stops) (room : n ≤ run_places) where
    place : p < transfer_places
    place = omega (arith, (judged_passed a held).1.few)

    -- a word that is stored alike and was not put
    unchanged : (k : ℕ) → k < area_words → (k ≡ head_at p count_field → ⊥) → Away (run_at 0 p 0) n k → Away (run_at 1 p 0) n k
        → word_or u k (word_at a k) ≡ word_or t k (word_at a k) → word_at b k ≡ word_or u k (word_at a k)
    unchanged k l d v w e = put.others k l d v w ∙ sym (stays k l) ∙ sym e

    count_word : word_at b (head_at p count_field) ≡ word_or u (head_at p count_field) (word_at a (head_at p count_field))
    count_word =
        let v : p < transfer_places = place in
        put.count ∙ count
        ∙ sym (or_head u p count_field (word_at a (head_at p count_field)) v (omega arith)
        ∙ head_used u p count_field (word_at a (head_at p count_field)) (omega (arith, same_number)) ∙ ap (λ (x : Transfer). field x count_field) here)

    head_word : (m f : ℕ) → m < transfer_places → f < head_words → word_at b (head_at m f) ≡ word_or u (head_at m f) (word_at a (head_at m f))
    head_word m f k l =
        ⊎_elim
        (λ (e : m ≡ p).
        ⊎_elim
        (λ (g : f ≡ count_field). rw (e, g) count_word)
        (λ (g : f ≡ count_field → ⊥). other (λ i j. g j) (rw e (ap (λ (x : Transfer). field x f) here ∙ same_field f g)))
        (same_or f count_field))
        (λ (e : m ≡ p → ⊥). other (λ i j. e i) (ap (λ (x : Transfer). field x f) (elsewhere m e)))
        (same_or m p)
      where
        other : (m ≡ p → f ≡ count_field → ⊥) → field (nth u m) f ≡ field (nth t m) f → word_at b (head_at m f) ≡ word_or u (head_at m f) (word_at a (head_at m f))
        other d e =
            let v : p < transfer_places = place in
            unchanged (head_at m f) (omega arith) (λ z. d (omega arith) (omega arith)) (inl (omega arith)) (inl (omega arith))
            (or_head u m f (word_at a (head_at m f)) k l ∙ head_alike m f (word_at a (head_at m f)) e ∙ sym (or_head t m f (word_at a (head_at m f)) k l))

    -- at the place itself: a run that was put, and one past them
    put_side : (s q : ℕ) → s < 2 → q < n → word_at b (run_at s p q) ≡ side_of (nth_run rs q) s
    put_side zero q z l = put.starts_are q l ∙ kept.starts_are q l (omega arith)
    put_side (suc zero) q z l = put.stops_are q l ∙ kept.stops_are q l (omega arith)
    put_side (suc (suc s)) q z l = absurd (omega arith)

    past_side : (s q : ℕ) → s < 2 → n ≤ q → q < run_places → word_at b (run_at s p q) ≡ word_at a (run_at s p q)
    past_side zero q z l r = let v : p < transfer_places = place in put.others (run_at 0 p q) (omega arith) (λ e. omega arith) (inr (omega arith)) (inl (omega arith))
    past_side (suc zero) q z l r = let v : p < transfer_places = place in put.others (run_at 1 p q) (omega arith) (λ e. omega arith) (inr (omega arith)) (inr (omega arith))
    past_side (suc (suc s)) q z l r = absurd (omega arith)

    run_here : (s q : ℕ) → s < 2 → q < run_places → word_at b (run_at s p q) ≡ run_or u s p q (word_at a (run_at s p q))
    run_here s q z r =
        let c : length (nth u p).runs ≡ length rs = ap (λ (x : Transfer). length x.runs) here in
        ⊎_elim
        (λ (l : n ≤ q). past_side s q z l r ∙ sym (run_free u s p q (word_at a (run_at s p q)) (omega arith)))
        (λ (l : q < n).
        put_side s q z l ∙ sym (run_used u s p q (word_at a (run_at s p q)) (omega arith) ∙ ap (λ (x : Transfer). side_of (nth_run x.runs q) s) here))
        (le_or_lt n q)

    -- two places of runs are apart
    away : (d s m q : ℕ) → d < 2 → s < 2 → m < transfer_places → q < run_places → (m ≡ p → ⊥) → Away (run_at d p 0) n (run_at s m q)
    away d s m q y z k r e =
        let v : p < transfer_places = place in
        ⊎_elim
        (λ (i : d ≤ s).
        ⊎_elim
        (λ (j : s ≤ d). ⊎_elim (λ (g : p ≤ m). inr (omega (arith, e))) (λ (g : m < p). inl (omega arith)) (le_or_lt p m))
        (λ (j : d < s). inr (omega arith))
        (le_or_lt s d))
        (λ (i : s < d). inl (omega arith))
        (le_or_lt d s)

    side_word : (s m q : ℕ) → s < 2 → m < transfer_places → q < run_places → word_at b (run_at s m q) ≡ word_or u (run_at s m q) (word_at a (run_at s m q))
    side_word s m q z k r =
        let v : p < transfer_places = place in
        ⊎_elim
        (λ (e : m ≡ p). rw e (run_here s q z r ∙ sym (or_run u s p q (word_at a (run_at s p q)) z v r)))
        (λ (e : m ≡ p → ⊥).
        unchanged (run_at s m q) (omega arith) (λ i. omega arith) (away 0 s m q (omega arith) z k r e) (away 1 s m q (omega arith) z k r e)
        (or_run u s m q (word_at a (run_at s m q)) z k r ∙ run_alike s m q (word_at a (run_at s m q)) (elsewhere m e)
        ∙ sym (or_run t s m q (word_at a (run_at s m q)) z k r)))
        (same_or m p)

    half_word : (m h : ℕ) → m < transfer_places → h < stamp_words → word_at b (half_at m h) ≡ word_or u (half_at m h) (word_at a (half_at m h))
    half_word m h k l =
        let v : p < transfer_places = place in
        unchanged (half_at m h) (omega arith) (λ i. omega arith) (inr (omega arith)) (inr (omega arith))
        (or_half u m h (word_at a (half_at m h)) k l ∙ half_alike m h (word_at a (half_at m h)) ∙ sym (or_half t m h (word_at a (half_at m h)) k l))

    count_of_transfers : word_at b 0 ≡ word_or u 0 (word_at a 0)
    count_of_transfers =
        unchanged 0 (omega arith) (λ i. omega arith) (inl (omega arith)) (inl (omega arith)) (or_count u (word_at a 0) ∙ same_number ∙ sym (or_count t (word_at a 0)))

    pub put_stored : Octets b → b ≡ stored_in a u
    put_stored q =
        let l : area_octets ≤ length a = (judged_passed a held).0 in
        stored_is a b u q (omega (arith, put.size))
        (place_cases (λ k. word_at b k ≡ word_or u k (word_at a k)) count_of_transfers head_word side_word half_word)
        put.past
