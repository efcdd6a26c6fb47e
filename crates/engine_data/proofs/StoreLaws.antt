-- What was done, way by way, and what is known of the stretch that a look gives.
-- Assumes nothing.
use Prim.Native.Nat.{ℕ}
use mathlib.Core.Path.{◌≡◌, refl, sym, ap, subst, ◌∙◌}
use mathlib.Core.Bool.{Bool, true, false, cond}
use mathlib.Core.List.{List}
use native.Mathlib.Omega.{arith}
use Rattle.refusals.specs.Refusals.{refusal_of}
use Rattle.refusals.specs.declared.Refusal.{Refusal}
use Rattle.packet_data.specs.Data.{data_refusal, data_of, read_data}
use Rattle.packet_data.specs.declared.Data.{Data}
use Rattle.packet_data.proofs.DataLaws.{data_accepted, data_given}
use Rattle.engine_slots.specs.declared.Sender.{Sender}
use Rattle.engine_slots.specs.declared.Stretch.{Stretch}
use Rattle.engine_slots.specs.declared.Look.{Look}
use Rattle.engine_slots.specs.declared.Look.TheVariants as look
use Rattle.engine_model.specs.Snapshots.{is_open}
use Rattle.engine_model.specs.Stretches.{look_data}
use Rattle.engine_model.proofs.LookLaws.{Looked as LookedAt, looked_open, look_new, look_known}
use Rattle.engine_state.specs.State.{snapshot_in, held_state}
use Rattle.engine_state.proofs.StateLaws.{held_known, open_kept}
use Rattle.engine_piece.specs.Piece.{piece_state, differs_state}
use Rattle.engine_piece.specs.Known.{Piece}
use Rattle.engine_data.specs.Store.{look_state, stored_by, stored_state}
use Rattle.engine_data.specs.Taken.{Looked}
use Rattle.engine_data.proofs.TakenLaws.{snapshot_fit}
use Rattle.std.specs.Prelude.{Result, Ok, Err}

-- ---- the ways

module _ (s : List ℕ) (t : ℕ) (p : List ℕ) where
  module _ (z : data_refusal p ≡ 0) (x : Stretch) where
    pub new_bad : (w : Bool) → w ≡ false → s ≡ stored_by s t p w (read_data p) (Ok (look.New x))
    unfolding stored_by
    new_bad w f = rw (f, data_accepted p z)

    pub new_well : (w : Bool) → w ≡ true → (b : List ℕ) → b ≡ piece_state s t p (data_of p) x → b ≡ stored_by s t p w (read_data p) (Ok (look.New x))
    unfolding stored_by
    new_well w f b e = rw (f, data_accepted p z) e

    pub known_bad : (w : Bool) → w ≡ false → (i : ℕ) → i ≡ (data_of p).id → (b : List ℕ) → b ≡ differs_state s i
        → b ≡ stored_by s t p w (read_data p) (Ok (look.Known x))
    unfolding stored_by
    known_bad w f i e b g = rw (f, data_accepted p z) (g ∙ ap (differs_state s) e)

    pub known_well : (w : Bool) → w ≡ true → (b : List ℕ) → b ≡ piece_state s t p (data_of p) x → b ≡ stored_by s t p w (read_data p) (Ok (look.Known x))
    unfolding stored_by
    known_well w f b e = rw (f, data_accepted p z) e

  pub over_same : (b : Bool) → s ≡ stored_by s t p b (read_data p) (Ok look.Over)
  unfolding stored_by
  over_same b = go b (read_data p)
    where
      go : (b : Bool) (r : Result Data Refusal) → s ≡ stored_by s t p b r (Ok look.Over)
      go true (Ok d) = refl
      go false (Ok d) = refl
      go true (Err r) = refl
      go false (Err r) = refl

  pub stranger_same : (b : Bool) → s ≡ stored_by s t p b (read_data p) (Ok look.Stranger)
  unfolding stored_by
  stranger_same b = go b (read_data p)
    where
      go : (b : Bool) (r : Result Data Refusal) → s ≡ stored_by s t p b r (Ok look.Stranger)
      go true (Ok d) = refl
      go false (Ok d) = refl
      go true (Err r) = refl
      go false (Err r) = refl

  pub refused_same : (b : Bool) (n : Refusal) → s ≡ stored_by s t p b (read_data p) (Err n)
  unfolding stored_by
  refused_same b n = go b (read_data p)
    where
      go : (b : Bool) (r : Result Data Refusal) → s ≡ stored_by s t p b r (Err n)
      go true (Ok d) = refl
      go false (Ok d) = refl
      go true (Err r) = refl
      go false (Err r) = refl

  -- by the case
  pub by_look : (b : Bool) (l m : Result Look Refusal) → l ≡ m → (e : List ℕ) → e ≡ stored_by s t p b (read_data p) m → e ≡ stored_by s t p b (read_data p) l
  by_look b l m f e g = g ∙ ap (stored_by s t p b (read_data p)) (sym f)

  pub stored_is : (r : Sender) (from : ℕ) (b : Bool) (l : Result Look Refusal) → l ≡ look_state s r p from → (e : List ℕ) → e ≡ stored_by s t p b (read_data p) l
      → e ≡ stored_state s t r p from b
  unfolding stored_state
  stored_is r from b l f e g = g ∙ ap (stored_by s t p b (read_data p)) f

-- ---- what is known of the stretch that a look gives

module _ (s : List ℕ) (r : Sender) (p : List ℕ) (from : ℕ) where
  piece_known : (x : Stretch) → held_state s ≡ true → LookedAt (snapshot_in s) r p x → Piece s p x
  piece_known x h l =
      let g = data_given p l.d l.read in
      record {
        held = h;
        read = g.0;
        id_is = l.id_is ∙ ap (λ (d : Data). d.id) (sym g.1);
        kept =
            open_kept s x.id (held_known s h).now_judged
            (subst (λ (n : ℕ). is_open (snapshot_in s) n ≡ true) (sym l.id_is) (looked_open l));
        some = l.some_octets;
      }

  pub look_known_of : (l : Result Look Refusal) → l ≡ look_state s r p from → Looked s p l
  unfolding look_state
  look_known_of (Ok (look.New x)) e = go (held_state s) refl e
    where
      go : (b : Bool) → held_state s ≡ b → Ok (look.New x) ≡ cond b (look_data (snapshot_in s) r p from) (Err (refusal_of 22)) → Piece s p x
      go true h f = piece_known x h (look_new (snapshot_in s) r p from x (snapshot_fit s (held_known s h).now_judged) (sym f)).0
      go false h f = absurd (let z : ◌≡◌ {A = ℕ} 0 1 = cc in omega arith)
  look_known_of (Ok (look.Known x)) e = go (held_state s) refl e
    where
      go : (b : Bool) → held_state s ≡ b → Ok (look.Known x) ≡ cond b (look_data (snapshot_in s) r p from) (Err (refusal_of 22)) → Piece s p x
      go true h f = piece_known x h (look_known (snapshot_in s) r p from x (snapshot_fit s (held_known s h).now_judged) (sym f)).0
      go false h f = absurd (let z : ◌≡◌ {A = ℕ} 0 1 = cc in omega arith)
  look_known_of (Ok look.Over) e = tt
  look_known_of (Ok look.Stranger) e = tt
  look_known_of (Err n) e = tt
