-- A transfer taken out at a place: the later ones are copied down, the lowest first.
-- Assumes nothing.
use Prim.Native.Nat.{ℕ, zero, suc, ◌+◌, ◌-◌, ◌≤◌, ◌<◌}
use mathlib.Core.Path.{◌≡◌, refl, sym, ap, ◌∙◌}
use mathlib.Core.Bool.{true}
use mathlib.Core.List.{List, [], ◌∷◌}
use mathlib.Core.Logic.{inl, inr, ⊎_elim}
use native.Mathlib.Omega.{arith}
use native.Mathlib.Numerals.{add-one}
use lib.ListN.{length}
use Rattle.octets.specs.Numbers.{Octets}
use Rattle.runs.proofs.CompareLaws.{le_or_lt}
use Rattle.words.specs.Words.{word_at, put_word}
use Rattle.words.proofs.RowLaws.{put_at}
use Rattle.transfer.specs.Transfers.{Transfer}
use Rattle.area.specs.Layout.{transfer_places, area_octets}
use Rattle.area.specs.Places.{read_table, nth, remove_at}
use Rattle.area.specs.Judge.{judged}
use Rattle.area.specs.Stored.{stored_in}
use Rattle.area.proofs.PlaceLaws.{read_holds}
use Rattle.area_move.specs.Blocks.{blocks, block_words, used_at}
use Rattle.area_move.specs.Moves.{Copied}
use Rattle.area_move.proofs.ChangeLaws.{put_changed, first_changed}
use Rattle.area_move.proofs.StoredBlocks.{stored_kept, past_stored, all_stored}
use Rattle.area_move.proofs.TransferMoves.{Moving, moving_start, moving_fits, moving_next}

-- ---- the list

length_removed : (p : ℕ) (t : List Transfer) → p < length t → length (remove_at p t) + 1 ≡ length t
unfolding remove_at
length_removed p [] h = absurd (omega arith)
length_removed zero (y ∷ t) h = omega arith
length_removed (suc p) (y ∷ t) h = omega (arith, length_removed p t (omega arith))

removed_before : (p : ℕ) (t : List Transfer) (i : ℕ) → i < p → nth (remove_at p t) i ≡ nth t i
unfolding remove_at
removed_before p [] i h = refl
removed_before zero (y ∷ t) i h = absurd (omega arith)
removed_before (suc p) (y ∷ t) zero h = refl
removed_before (suc p) (y ∷ t) (suc i) h = removed_before p t i (omega arith)

removed_after : (p : ℕ) (t : List Transfer) (i : ℕ) → p ≤ i → nth (remove_at p t) i ≡ nth t (suc i)
unfolding remove_at
removed_after p [] i h = refl
removed_after zero (y ∷ t) i h = refl
removed_after (suc p) (y ∷ t) zero h = absurd (omega arith)
removed_after (suc p) (y ∷ t) (suc i) h = removed_after p t i (omega arith)

-- ---- the loop: the places before q are those of the table that comes

pub record Closing (a b : List ℕ) (p n q : ℕ) : Type 0 where
  pub moving : Moving a b (remove_at p (read_table a)) n (λ i. i < q) (λ i. q ≤ i)
  pub few : n ≤ transfer_places
  pub after : p ≤ q
  pub inside : q + 1 ≤ n

pub close_start : (a : List ℕ) (p n : ℕ) → judged a ≡ true → Octets a → p < length (read_table a) → n ≡ word_at a 0 → Closing a a p n p
close_start a p n j b h e =
    let t : List Transfer = read_table a in
    let l : length (remove_at p t) + 1 ≡ length t = length_removed p t h in
    let c : word_at a 0 ≡ length t = (read_holds a).count in
    let m = moving_start a (remove_at p t) n (λ i. i < p) (λ i. p ≤ i) j b e (λ i r o. inl (omega arith, omega arith, removed_before p t i o)) in
    record { moving = m; few = m.few; after = omega arith; inside = omega arith }

module _ (a b : List ℕ) (p n q : ℕ) (inv : Closing a b p n q) where
  abbrev m : Moving a b (remove_at p (read_table a)) n (λ i. i < q) (λ i. q ≤ i)
  m = inv.moving

  length_u : length (remove_at p (read_table a)) + 1 ≡ n
  length_u = length_removed p (read_table a) (omega (arith, m.held, inv.after, inv.inside)) ∙ sym m.held

  pub close_long : area_octets ≤ length b
  close_long = omega (arith, m.held_image.long, m.size)

  module _ (more : q + 1 < n) where
    pub close_fits : (k : ℕ) → k < blocks → used_at b (q + 1) k ≤ block_words k
    close_fits = moving_fits a b (remove_at p (read_table a)) n (λ i. i < q) (λ i. q ≤ i) m (q + 1) more (omega arith)

    pub close_next : (e : List ℕ) → Copied b e (q + 1) q blocks → Closing a e p n (q + 1)
    close_next e c = record {
      moving =
          moving_next a b (remove_at p (read_table a)) n (λ i. i < q) (λ i. q ≤ i) m (q + 1) more (omega arith) e q (λ i. i < q + 1) (λ i. q + 1 ≤ i)
          (omega (arith, inv.few)) (omega (arith, length_u)) (rw add-one (removed_after p (read_table a) q inv.after)) (omega arith) c
          (λ i h. ⊎_elim (λ (o : q ≤ i). inl (omega arith)) (λ (o : i < q). inr ((λ z. omega arith), o)) (le_or_lt q i))
          (λ i h. ((λ z. omega arith), omega arith));
      few = inv.few;
      after = omega (arith, inv.after);
      inside = omega arith;
    }

  pub close_end : n ≤ q + 1 → (e : List ℕ) → Octets e → e ≡ put_word 0 (n - 1) b → e ≡ stored_in a (remove_at p (read_table a))
  close_end h e o f =
      let l : area_octets ≤ length b = close_long in
      let c = put_changed b e 0 (n - 1) (omega arith) f in
      all_stored a e (remove_at p (read_table a)) o (omega (arith, c.size)) (c.past area_octets (omega arith) ∙ m.past)
      (ap (λ (x : List ℕ). word_at x 0) f ∙ put_at b 0 (n - 1) (omega arith) (omega (arith, inv.few)) ∙ omega (arith, length_u))
      (λ i r.
      stored_kept
      (⊎_elim
      (λ (z : q ≤ i). past_stored a b (remove_at p (read_table a)) i (omega (arith, length_u)) (m.rest i r z))
      (λ (z : i < q). m.done i r z)
      (le_or_lt q i))
      (first_changed c i r))
