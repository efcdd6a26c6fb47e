-- A state, part by part: three snapshots and six numbers. What a number that is set, and a snapshot that is copied, leaves of them.
-- Assumes nothing.
use Prim.Native.Nat.{ℕ, ◌+◌, ◌*◌, ◌^◌, ◌≤◌, ◌<◌}
use mathlib.Core.Path.{◌≡◌, refl, sym, ap, subst, ◌∙◌}
use mathlib.Core.Bool.{true, cond}
use mathlib.Core.List.{List, [], ◌∷◌, ◌++◌}
use mathlib.Core.Option.{some}
use native.Mathlib.Omega.{arith}
use native.Mathlib.Decide.{ℕ_discrete}
use lib.ListN.{length, take, drop}
use lib.Seq.{length-take-le}
use lib.Dec.{eqb}
use borrow.Author.Tests.{eq-eqb, ne_eqb}
use Rattle.octets.specs.Numbers.{le_value, Octets}
use Rattle.octets.specs.Put.{put}
use Rattle.octets.proofs.NumberLaws.{octets_take, octets_drop}
use Rattle.octets.proofs.OctetLaws.{octets_append}
use Rattle.octets.proofs.PutLaws.{length_put}
use Rattle.octets.proofs.PutParts.{part, part_before, part_inside, part_after, part_of}
use Rattle.words.specs.Words.{word_at, put_word}
use Rattle.words.proofs.RowLaws.{put_length, put_at, put_other}
use Rattle.engine_slots.specs.Layout.{snapshot_words, snapshot_octets}
use Rattle.engine_slots.specs.Slots.{put_words}
use Rattle.engine_slots.proofs.BesideLaws.{words_octets}
use Rattle.engine_model.specs.Snapshots.{Snapshot}
use Rattle.engine_model.specs.Meetings.{last_number}
use Rattle.engine_model.specs.Engine.{Engine}
use Rattle.engine_state.specs.Layout.{pending_at, synced_at, numbers_at, under_way_field, number_field, done_field, next_field, changed_field, begun_field, state_octets}
use Rattle.engine_state.specs.State.{snapshot_in, number_in, pending_if, engine_in, engine_of, held_state, set_number}
use Rattle.engine_state.proofs.StateLaws.{Held, known_held}
use Rattle.engine_laws.specs.Speaks.{Holds}
use Rattle.engine_laws.proofs.PartLaws.{At, at_same}

-- ---- a state by its parts

pub record Stands (s : List ℕ) (now pending synced : Snapshot) (num : ℕ → ℕ) : Type 0 where
  pub octets : Octets s
  pub long : state_octets ≤ length s
  pub now_at : At s 0 now
  pub pending_at_lem : At s pending_at pending
  pub synced_at_lem : At s synced_at synced
  pub number_is : (f : ℕ) → f < 6 → number_in s f ≡ num f

abbrev pub engine_from : Snapshot → Snapshot → Snapshot → (ℕ → ℕ) → Engine
engine_from now pending synced num = record {
  now = now;
  pending = pending_if (num under_way_field) pending;
  number = num number_field;
  done = num done_field;
  synced = synced;
  next = num next_field;
  changed = num changed_field;
  begun = num begun_field;
}

-- numbers of fields
pub six : (0 < 6) × (1 < 6) × (2 < 6) × (3 < 6) × (4 < 6) × (5 < 6)
six = omega arith

module _ (s : List ℕ) where
  -- what octets that hold an engine stand for
  pub stands : Octets s → Held s → Stands s (snapshot_in s) (snapshot_in (drop (pending_at * 8) s)) (snapshot_in (drop (synced_at * 8) s)) (number_in s)
  stands o h = record {
    octets = o;
    long = h.long;
    now_at = record { fine = h.now_judged; is = refl };
    pending_at_lem = record { fine = h.pending_judged; is = refl };
    synced_at_lem = record { fine = h.synced_judged; is = refl };
    number_is = λ f l. refl;
  }

  pub stands_holds : {now pending synced : Snapshot} {num : ℕ → ℕ} → Stands s now pending synced num → num number_field ≤ last_number
      → Holds s (engine_from now pending synced num)
  unfolding engine_of
  stands_holds {now} {pending} {synced} {num} h l =
      let way = h.number_is under_way_field six.0 in
      let n = h.number_is number_field six.1 in
      let done = h.number_is done_field six.2 in
      let next = h.number_is next_field six.3 in
      let changed = h.number_is changed_field six.4 in
      let begun = h.number_is begun_field six.5 in
      let held : held_state s ≡ true =
      known_held s
      (record {
        long = h.long;
        low = subst (λ (x : ℕ). x ≤ last_number) (sym n) l;
        now_judged = h.now_at.fine;
        pending_judged = h.pending_at_lem.fine;
        synced_judged = h.synced_at_lem.fine;
      }) in
      let e : engine_in s ≡ engine_from now pending synced num =
      λ k. record {
        now = h.now_at.is k;
        pending = pending_if (way k) (h.pending_at_lem.is k);
        number = n k;
        done = done k;
        synced = h.synced_at_lem.is k;
        next = next k;
        changed = changed k;
        begun = begun k;
      } in
      record { octets = h.octets; engine = rw held (ap (λ (x : Engine). some x) e) }

-- ---- a number set

abbrev pub with_number : (ℕ → ℕ) → ℕ → ℕ → ℕ → ℕ
with_number num g v f = cond (eqb f g) v (num f)

module _ (s : List ℕ) (g v : ℕ) {now pending synced : Snapshot} {num : ℕ → ℕ} where
  pub set_number_lem : g < 6 → v < 2 ^ 64 → Stands s now pending synced num → Stands (set_number s g v) now pending synced (with_number num g v)
  unfolding set_number put_words
  set_number_lem inside fits h =
      let long : state_octets ≤ length s = h.long in
      let room : (numbers_at + g) * 8 + 8 ≤ length s = omega arith in
      let size : length (put_word (numbers_at + g) v s) ≡ length s = put_length s (numbers_at + g) v room in
      let other : (m : ℕ) → (m ≡ numbers_at + g → ⊥) → word_at (put_word (numbers_at + g) v s) m ≡ word_at s m = put_other s (numbers_at + g) v room in
      record {
        octets = words_octets (numbers_at + g) (v ∷ []) s h.octets;
        long = omega arith;
        now_at = at_same s (put_word (numbers_at + g) v s) 0 0 now h.now_at (omega arith) (λ k l. other (0 + k) (λ z. omega arith));
        pending_at_lem =
            at_same s (put_word (numbers_at + g) v s) pending_at pending_at pending h.pending_at_lem (omega arith) (λ k l. other (pending_at + k) (λ z. omega arith));
        synced_at_lem =
            at_same s (put_word (numbers_at + g) v s) synced_at synced_at synced h.synced_at_lem (omega arith) (λ k l. other (synced_at + k) (λ z. omega arith));
        number_is = λ f l. go f l (ℕ_discrete f g);
      }
    where
      go : (f : ℕ) → f < 6 → Dec (f ≡ g) → number_in (set_number s g v) f ≡ with_number num g v f
      go f l (yes e) = rw (e, eq-eqb g g refl) (put_at s (numbers_at + g) v (omega (arith, h.long)) fits)
      go f l (no n) =
          rw (ne_eqb f g n) (put_other s (numbers_at + g) v (omega (arith, h.long)) (numbers_at + f) (λ z. n (omega arith)) ∙ h.number_is f l)

-- ---- a snapshot copied to word q

abbrev pub copied : List ℕ → ℕ → List ℕ → List ℕ
copied z q a = put (q * 8) (take snapshot_octets z) a

module _ (z a : List ℕ) (q : ℕ) (whole : snapshot_octets ≤ length z) (room : (q + snapshot_words) * 8 ≤ length a) where
  size : length (take snapshot_octets z) ≡ snapshot_octets
  size = length-take-le snapshot_octets z whole

  fits : q * 8 + length (take snapshot_octets z) ≤ length a
  fits = omega (arith, size)

  pub copied_length : length (copied z q a) ≡ length a
  copied_length = length_put (q * 8) (take snapshot_octets z) a fits

  pub copied_octets : Octets z → Octets a → Octets (copied z q a)
  unfolding put
  copied_octets o p =
      octets_append (take (q * 8) a) (take snapshot_octets z ++ drop (q * 8 + length (take snapshot_octets z)) a) (octets_take (q * 8) a p)
      (octets_append (take snapshot_octets z) (drop (q * 8 + length (take snapshot_octets z)) a) (octets_take snapshot_octets z o)
      (octets_drop (q * 8 + length (take snapshot_octets z)) a p))

  pub copied_before : (k : ℕ) → k < q → word_at (copied z q a) k ≡ word_at a k
  copied_before k h = ap le_value (part_before (q * 8) (take snapshot_octets z) a fits 8 (k * 8) (omega arith))

  pub copied_after : (k : ℕ) → q + snapshot_words ≤ k → word_at (copied z q a) k ≡ word_at a k
  copied_after k h = ap le_value (part_after (q * 8) (take snapshot_octets z) a fits 8 (k * 8) (omega (arith, size)))

  copied_word : (k : ℕ) → k < snapshot_words → word_at (copied z q a) (q + k) ≡ word_at z k
  copied_word k h =
      let e : (q + k) * 8 ≡ q * 8 + k * 8 = omega arith in
      ap le_value
      (ap (λ (n : ℕ). part 8 n (copied z q a)) e
      ∙ part_inside (q * 8) (take snapshot_octets z) a fits 8 (k * 8) (omega (arith, size))
      ∙ part_of snapshot_octets 8 (k * 8) z (omega arith) whole)

  -- it stands there, and the others stay
  pub copied_at : (x : Snapshot) → At z 0 x → At (copied z q a) q x
  copied_at x h = at_same z (copied z q a) 0 q x h (omega (arith, copied_length)) (λ k l. copied_word k l ∙ ap (word_at z) (sym (zero_plus k)))
    where
      zero_plus : (k : ℕ) → 0 + k ≡ k
      zero_plus k = omega arith

  pub copied_later : (p : ℕ) (x : Snapshot) → At a p x → p + snapshot_words ≤ q → At (copied z q a) p x
  copied_later p x h l =
      at_same a (copied z q a) p p x h (omega (arith, copied_length)) (λ k g. copied_before (p + k) (omega arith))

  pub copied_earlier : (p : ℕ) (x : Snapshot) → At a p x → q + snapshot_words ≤ p → (p + snapshot_words) * 8 ≤ length a → At (copied z q a) p x
  copied_earlier p x h l r =
      at_same a (copied z q a) p p x h (omega (arith, copied_length)) (λ k g. copied_after (p + k) (omega arith))
