-- The places of a table that comes, stored one after the other: a place that stays as it was, and one to which a transfer is copied.
-- Assumes nothing.
use Prim.Native.Nat.{ℕ, zero, suc, ◌≤◌, ◌<◌}
use mathlib.Core.Path.{◌≡◌, refl, sym, subst, ◌∙◌}
use mathlib.Core.Bool.{true}
use mathlib.Core.List.{List}
use mathlib.Core.Logic.{◌⊎◌, ⊎_elim}
use native.Mathlib.Omega.{arith}
use lib.ListN.{length, drop}
use Rattle.octets.specs.Numbers.{Octets}
use Rattle.words.specs.Words.{word_at}
use Rattle.transfer.specs.Transfers.{Transfer}
use Rattle.area.specs.Layout.{transfer_places, head_words, area_octets, count_field, stamped_field, head_at}
use Rattle.area.specs.Places.{read_table, nth, field}
use Rattle.area.specs.Judge.{judged}
use Rattle.area.proofs.PlaceLaws.{read_holds}
use Rattle.area_move.specs.Blocks.{blocks, block_words, used_by, used_at}
use Rattle.area_move.specs.Changes.{PlaceKept}
use Rattle.area_move.specs.Moves.{Copied}
use Rattle.area_move.proofs.ChangeLaws.{kept_kept, same_place}
use Rattle.area_move.proofs.StoredBlocks.{Image, image, PlaceStored, stored_kept, place_stored, past_stored}

-- ---- one place

-- a place that stays has what is stored there, where the table that comes has the same transfer there
pub kept_same : (a b : List ℕ) (u : List Transfer) (i : ℕ) → Image a → i < length (read_table a) → i < length u → nth u i ≡ nth (read_table a) i
    → PlaceKept a b i → PlaceStored a b u i
kept_same a b u i im l m e k =
    place_stored a b u i (nth (read_table a) i) m e (im.fits i l)
    (λ n j o q h. k.words n j o q ∙ im.reads i n j l o h)
    (λ n j o q h. k.words n j o q)

-- ---- a copy

module _ (a b : List ℕ) (s : ℕ) (im : Image a) (there : s < length (read_table a)) (source : PlaceKept a b s) where
  source_head : (f : ℕ) → f < head_words → word_at b (head_at s f) ≡ field (nth (read_table a) s) f
  source_head f h = source.words 0 f (omega arith) h ∙ (read_holds a).heads s f there h

  pub source_used : (k : ℕ) → used_at b s k ≡ used_by (field (nth (read_table a) s)) k
  source_used zero = refl
  source_used (suc zero) = source_head count_field (omega arith)
  source_used (suc (suc zero)) = source_head count_field (omega arith)
  source_used (suc (suc (suc k))) = omega (arith, source_head stamped_field (omega arith))

  -- a place to which the transfer that the new table has there is copied
  pub copied_stored : (e : List ℕ) (u : List Transfer) (d : ℕ) → d < length u → nth u d ≡ nth (read_table a) s
      → PlaceKept a b d → Copied b e s d blocks → PlaceStored a e u d
  copied_stored e u d m same target c =
      place_stored a e u d (nth (read_table a) s) m same (im.fits s there)
      (λ k j o q h. c.used k j o (omega (arith, source_used k)) ∙ source.words k j o q ∙ im.reads s k j there o h)
      (λ k j o q h. c.free k j o q (omega (arith, source_used k)) ∙ target.words k j o q)

-- ---- copies one after the other

-- b is on the way from a, which holds n transfers, to a with u stored in it: the places of Done are stored, those of Rest as they were
pub record Moving (a b : List ℕ) (u : List Transfer) (n : ℕ) (Done Rest : ℕ → Type 0) : Type 0 where
  pub held_image : Image a
  pub few : n ≤ transfer_places
  pub held : n ≡ length (read_table a)
  pub size : length b ≡ length a
  pub past : drop area_octets b ≡ drop area_octets a
  pub done : (i : ℕ) → i < transfer_places → Done i → PlaceStored a b u i
  pub rest : (i : ℕ) → i < transfer_places → Rest i → PlaceKept a b i

pub moving_start : (a : List ℕ) (u : List Transfer) (n : ℕ) (Done Rest : ℕ → Type 0) → judged a ≡ true → Octets a → n ≡ word_at a 0
    → ((i : ℕ) → i < transfer_places → Done i → ((i < length (read_table a)) × (i < length u) × (nth u i ≡ nth (read_table a) i)) ⊎ (length u ≤ i))
    → Moving a a u n Done Rest
moving_start a u n Done Rest j o e d =
    let im = image a j o in
    let h : word_at a 0 ≡ length (read_table a) = (read_holds a).count in
    let m : length (read_table a) ≤ transfer_places = im.few in
    record {
      held_image = im;
      few = omega arith;
      held = e ∙ h;
      size = refl;
      past = refl;
      done = λ i p q. ⊎_elim (λ g. kept_same a a u i im g.0 g.1 g.2 (same_place a i)) (λ g. past_stored a a u i g (same_place a i)) (d i p q);
      rest = λ i p q. same_place a i;
    }

module _ (a b : List ℕ) (u : List Transfer) (n : ℕ) (Done Rest : ℕ → Type 0) (m : Moving a b u n Done Rest)
    (s : ℕ) (from : s < n) (left : Rest s) where
  there : s < length (read_table a)
  there = omega (arith, m.held)

  source : PlaceKept a b s
  source = m.rest s (omega (arith, m.few)) left

  pub moving_fits : (k : ℕ) → k < blocks → used_at b s k ≤ block_words k
  moving_fits k h = omega (arith, source_used a b s m.held_image there source k, m.held_image.fits s there k h)

  pub moving_next : (e : List ℕ) (d : ℕ) (Done' Rest' : ℕ → Type 0) → d < transfer_places → d < length u → nth u d ≡ nth (read_table a) s
      → Rest d → Copied b e s d blocks → ((i : ℕ) → Done' i → (i ≡ d) ⊎ ((i ≡ d → ⊥) × Done i)) → ((i : ℕ) → Rest' i → (i ≡ d → ⊥) × Rest i)
      → Moving a e u n Done' Rest'
  moving_next e d Done' Rest' to inside same right c more less = record {
    held_image = m.held_image;
    few = m.few;
    held = m.held;
    size = c.rest.size ∙ m.size;
    past = c.rest.past ∙ m.past;
    done = λ i p q.
        ⊎_elim
        (λ (h : i ≡ d).
        subst (PlaceStored a e u) (sym h) (copied_stored a b s m.held_image there source e u d inside same (m.rest d to right) c))
        (λ (h : (i ≡ d → ⊥) × Done i). stored_kept (m.done i p h.1) (c.rest.others i p h.0))
        (more i q);
    rest = λ i p q. let h = less i q in kept_kept (m.rest i p h.1) (c.rest.others i p h.0);
  }
