-- An area in which a timestamp was kept at a place: where it had the words of a table stored in another area, it has those of the table
-- that keeps the timestamp there.
-- Assumes nothing.
use Prim.Native.Nat.{ℕ, zero, suc, ◌<◌}
use mathlib.Core.Path.{◌≡◌, refl, sym, ap, ap₂, subst, ◌∙◌}
use mathlib.Core.Bool.{cond}
use mathlib.Core.List.{List, []}
use mathlib.Core.Logic.{inl, inr, ⊎_elim}
use native.Mathlib.Omega.{arith}
use lib.ListN.{length, drop, length-set}
use lib.Dec.{ltb}
use lib.Seq.{get_or-set_same, get_or-set_other}
use Rattle.octets.specs.Numbers.{Octets}
use Rattle.octets.proofs.LowFirstLaws.{low_part_lt}
use Rattle.runs.specs.Runs.{Run, nth_run}
use Rattle.runs.proofs.CompareLaws.{same_or}
use Rattle.words.specs.Words.{word_at, put_word}
use Rattle.words.proofs.RowLaws.{put_length, put_at, put_other, put_after}
use Rattle.timestamp.specs.Timestamps.{Stamp}
use Rattle.timestamp.proofs.StampLaws.{stamped_some, renewed_some}
use Rattle.transfer.specs.Transfers.{Transfer, with_received}
use Rattle.area.specs.Layout.{transfer_places, run_places, head_words, stamp_words, stamped_field, area_octets, head_at, run_at, half_at}
use Rattle.area.specs.Places.{unused, nth, field, side_of, stamp_code, half_of, with_runs}
use Rattle.area.specs.Stored.{head_or, run_or, word_or}
use Rattle.area.proofs.PlaceLaws.{place_cases, or_count, or_head, or_run, or_half, head_used, half_used, code_sixteen}
use Rattle.area_splice.specs.Splice.{stamped_area}
use Rattle.area_splice.proofs.OverlayLaws.{Stores, half_same}
use Rattle.area_splice.proofs.SplicedAreaLaws.{word_octets_lem}
use Rattle.area_splice.proofs.KeepLaws.{none_kept, one_kept}

-- of the table v, the transfer at place p has the runs rs; t keeps the timestamp that it had, and u the new one
module _ (a b : List ℕ) (v : List Transfer) (p : ℕ) (rs : List Run) (s : List ℕ) (there : p < length v) (low : p < transfer_places)
    (h : Stores a b (with_runs v p rs [])) where
  abbrev old : Transfer
  old = with_received (nth v p) rs []

  abbrev changed : Transfer
  changed = with_received (nth v p) rs s

  abbrev t : List Transfer
  t = with_runs v p rs []

  abbrev u : List Transfer
  u = with_runs v p rs s

  length_same : length u ≡ length t
  length_same = length-set v p changed ∙ sym (length-set v p old)

  -- all but the timestamp at the place is the same in both
  old_here : nth t p ≡ old
  old_here = get_or-set_same v p old unused there

  new_here : nth u p ≡ changed
  new_here = get_or-set_same v p changed unused there

  elsewhere : (m : ℕ) → (m ≡ p → ⊥) → nth t m ≡ nth u m
  elsewhere m e = get_or-set_other v p m old unused e ∙ sym (get_or-set_other v p m changed unused e)

  runs_same : (m : ℕ) → (nth t m).runs ≡ (nth u m).runs
  runs_same m =
      ⊎_elim
      (λ (e : m ≡ p). rw e (ap (λ (y : Transfer). y.runs) old_here ∙ sym (ap (λ (y : Transfer). y.runs) new_here)))
      (λ (e : m ≡ p → ⊥). ap (λ (y : Transfer). y.runs) (elsewhere m e))
      (same_or m p)

  field_here : (f : ℕ) → (f ≡ stamped_field → ⊥) → field old f ≡ field changed f
  field_here zero e = refl
  field_here (suc zero) e = refl
  field_here (suc (suc zero)) e = refl
  field_here (suc (suc (suc zero))) e = refl
  field_here (suc (suc (suc (suc zero)))) e = absurd (e refl)
  field_here (suc (suc (suc (suc (suc f))))) e = refl

  field_same : (m f : ℕ) → (m ≡ p → f ≡ stamped_field → ⊥) → field (nth t m) f ≡ field (nth u m) f
  field_same m f e =
      ⊎_elim
      (λ (d : m ≡ p). rw (d, old_here, new_here) (field_here f (e d)))
      (λ (d : m ≡ p → ⊥). ap (λ (y : Transfer). field y f) (elsewhere m d))
      (same_or m p)

  head_same : (m f w : ℕ) → (m ≡ p → f ≡ stamped_field → ⊥) → head_or t m f w ≡ head_or u m f w
  unfolding head_or
  head_same m f w e = ap₂ (λ (n z : ℕ). cond (ltb m n) z w) (sym length_same) (field_same m f e)

  run_same : (o m q w : ℕ) → run_or t o m q w ≡ run_or u o m q w
  unfolding run_or
  run_same o m q w = ap (λ (l : List Run). cond (ltb q (length l)) (side_of (nth_run l q) o) w) (runs_same m)

  -- ---- where there is one
  module _ (size : length s ≡ 16) (octets : Octets s) where
    -- after the word of the head, and after each half
    abbrev c₁ : List ℕ
    c₁ = put_word (head_at p stamped_field) 1 b

    abbrev c₂ : List ℕ
    c₂ = put_word (half_at p 0) (half_of s 0) c₁

    abbrev c₃ : List ℕ
    c₃ = put_word (half_at p 1) (half_of s 1) c₂

    length₁ : length c₁ ≡ length b
    length₁ = put_length b (head_at p stamped_field) 1 (omega (arith, h.long))

    length₂ : length c₂ ≡ length b
    length₂ = put_length c₁ (half_at p 0) (half_of s 0) (omega (arith, h.long, length₁)) ∙ length₁

    length₃ : length c₃ ≡ length b
    length₃ = put_length c₂ (half_at p 1) (half_of s 1) (omega (arith, h.long, length₂)) ∙ length₂

    other₁ : (m : ℕ) → (m ≡ head_at p stamped_field → ⊥) → word_at c₁ m ≡ word_at b m
    other₁ = put_other b (head_at p stamped_field) 1 (omega (arith, h.long))

    other₂ : (m : ℕ) → (m ≡ half_at p 0 → ⊥) → word_at c₂ m ≡ word_at c₁ m
    other₂ = put_other c₁ (half_at p 0) (half_of s 0) (omega (arith, h.long, length₁))

    other₃ : (m : ℕ) → (m ≡ half_at p 1 → ⊥) → word_at c₃ m ≡ word_at c₂ m
    other₃ = put_other c₂ (half_at p 1) (half_of s 1) (omega (arith, h.long, length₂))

    -- a word that is none of the three stays
    kept : (m : ℕ) → (m ≡ head_at p stamped_field → ⊥) → (m ≡ half_at p 0 → ⊥) → (m ≡ half_at p 1 → ⊥) → word_at c₃ m ≡ word_at b m
    kept m d e f = other₃ m f ∙ other₂ m e ∙ other₁ m d

    head_new : word_at c₃ (head_at p stamped_field) ≡ 1
    head_new =
        other₃ (head_at p stamped_field) (λ z. omega arith) ∙ other₂ (head_at p stamped_field) (λ z. omega arith)
        ∙ put_at b (head_at p stamped_field) 1 (omega (arith, h.long)) (omega arith)

    half_new : (f : ℕ) → f < stamp_words → word_at c₃ (half_at p f) ≡ half_of s f
    half_new zero l =
        other₃ (half_at p 0) (λ z. omega arith)
        ∙ put_at c₁ (half_at p 0) (half_of s 0) (omega (arith, h.long, length₁)) (low_part_lt s 0 8 octets (omega arith))
    half_new (suc zero) l = put_at c₂ (half_at p 1) (half_of s 1) (omega (arith, h.long, length₂)) (low_part_lt s 8 8 octets (omega arith))
    half_new (suc (suc f)) l = absurd (omega arith)

    stamp_new : (nth u p).stamp ≡ s
    stamp_new = ap (λ (y : Transfer). y.stamp) new_here ∙ renewed_some s (nth v p).stamp (stamped_some s (omega arith))

    code_new : stamp_code (nth u p).stamp ≡ 1
    code_new = ap stamp_code stamp_new ∙ code_sixteen s size

    -- ---- its words
    abbrev Right : ℕ → Type 0
    Right k = word_at c₃ k ≡ word_or u k (word_at a k)

    head_right : Right (head_at p stamped_field)
    head_right =
        let w = word_at a (head_at p stamped_field) in
        head_new ∙ sym (or_head u p stamped_field w low (omega arith) ∙ head_used u p stamped_field w (omega (arith, length-set v p changed)) ∙ code_new)

    head_word : (m f : ℕ) → m < transfer_places → f < head_words → Right (head_at m f)
    head_word m f k l =
        ⊎_elim
        (λ (e : head_at m f ≡ head_at p stamped_field). subst Right (sym e) head_right)
        (λ (e : head_at m f ≡ head_at p stamped_field → ⊥).
        let w = word_at a (head_at m f) in
        kept (head_at m f) e (λ z. omega arith) (λ z. omega arith) ∙ h.words (head_at m f) (omega arith)
        ∙ or_head t m f w k l ∙ head_same m f w (λ y z. e (omega arith)) ∙ sym (or_head u m f w k l))
        (same_or (head_at m f) (head_at p stamped_field))

    side_word : (o m q : ℕ) → o < 2 → m < transfer_places → q < run_places → Right (run_at o m q)
    side_word o m q z k l =
        let w = word_at a (run_at o m q) in
        kept (run_at o m q) (λ y. omega arith) (λ y. omega arith) (λ y. omega arith) ∙ h.words (run_at o m q) (omega arith)
        ∙ or_run t o m q w z k l ∙ run_same o m q w ∙ sym (or_run u o m q w z k l)

    half_word : (m f : ℕ) → m < transfer_places → f < stamp_words → Right (half_at m f)
    half_word m f k l =
        ⊎_elim
        (λ (e : m ≡ p). subst (λ (n : ℕ). Right (half_at n f)) (sym e) here)
        (λ (e : m ≡ p → ⊥).
        let w = word_at a (half_at m f) in
        kept (half_at m f) (λ y. omega arith) (λ y. e (omega arith)) (λ y. e (omega arith)) ∙ h.words (half_at m f) (omega arith)
        ∙ or_half t m f w k l ∙ half_same t u m f w (ap (λ (y : Transfer). y.stamp) (elsewhere m e)) ∙ sym (or_half u m f w k l))
        (same_or m p)
      where
        here : Right (half_at p f)
        here =
            let w = word_at a (half_at p f) in
            half_new f l ∙ sym (or_half u p f w low l ∙ half_used u p f w code_new ∙ ap (λ (y : List ℕ). half_of y f) stamp_new)

    count_word : Right 0
    count_word =
        kept 0 (λ z. omega arith) (λ z. omega arith) (λ z. omega arith) ∙ h.words 0 (omega arith) ∙ or_count t (word_at a 0) ∙ sym length_same
        ∙ sym (or_count u (word_at a 0))

    past₃ : drop area_octets c₃ ≡ drop area_octets a
    past₃ =
        put_after c₂ (half_at p 1) (half_of s 1) (omega (arith, h.long, length₂)) area_octets (omega arith)
        ∙ put_after c₁ (half_at p 0) (half_of s 0) (omega (arith, h.long, length₁)) area_octets (omega arith)
        ∙ put_after b (head_at p stamped_field) 1 (omega (arith, h.long)) area_octets (omega arith) ∙ h.past

    octets₃ : Octets c₃
    octets₃ =
        word_octets_lem (half_at p 1) (half_of s 1) c₂
        (word_octets_lem (half_at p 0) (half_of s 0) c₁ (word_octets_lem (head_at p stamped_field) 1 b h.octets))

    one_stores : Stores a (stamped_area b p s) u
    one_stores =
        rw (one_kept b p s (omega arith))
        (record { octets = octets₃; long = omega (arith, length₃, h.long); words = place_cases Right count_word head_word side_word half_word; past = past₃ })

  -- ---- one, or none
  pub stamped_stores : Stamp s → Stores a (stamped_area b p s) u
  stamped_stores (inl e) = rw (e, none_kept b p) h
  stamped_stores (inr e) = one_stores e.0 e.1
