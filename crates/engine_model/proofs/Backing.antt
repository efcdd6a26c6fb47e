-- What is asked of a snapshot: its files have the writes for it, and of each open Id something holds. And a snapshot that differs from
-- another in one Id alone.
-- Assumes nothing.
use Prim.Native.Nat.{ℕ}
use mathlib.Core.Path.{◌≡◌, sym, ap, subst, ◌∙◌}
use mathlib.Core.Bool.{Bool, true}
use mathlib.Core.List.{List}
use mathlib.Core.Option.{some}
use native.Mathlib.Decide.{ℕ_discrete}
use Rattle.runs.specs.Runs.{Member}
use Rattle.transfer.specs.declared.Key.{Key}
use Rattle.engine_slots.specs.declared.Slot.{Slot}
use Rattle.engine_model.specs.Snapshots.{Snapshot, key_in, is_open, slot_of, file_of, received}
use Rattle.engine_model.specs.Engine.{octets_part, name_part, meta_part}
use Rattle.engine_model.specs.Disk.{Write}
use Rattle.engine_model.proofs.DiskLaws.{Some, Carries}
use Rattle.engine_model.proofs.SnapshotLaws.{Fit, Alike, alike_open, open_key_lem, key_open, member_open}

-- every received offset of the Id has a write with the property q; so has the METADATA beside it, and its name where it has one
pub record BackedAt (q : Write → Bool) (ws : List Write) (s : Snapshot) (i : ℕ) : Type 0 where
  pub octets : (o : ℕ) → Member (received s i) o → Some q ws i (file_of s i) octets_part o
  pub meta : is_open s i ≡ true → Some q ws i (file_of s i) meta_part 0
  pub name : is_open s i ≡ true → (slot_of s i).named ≡ 1 → Some q ws i (file_of s i) name_part 0

abbrev pub Backed : (Write → Bool) → List Write → Snapshot → Type 0
Backed q ws s = (i : ℕ) → BackedAt q ws s i

-- it has the offset o received for the Id i, if it has the Id open with the file f
abbrev pub Keeps : Snapshot → ℕ → ℕ → ℕ → Type 0
Keeps s i f o = is_open s i ≡ true → file_of s i ≡ f → Member (received s i) o

-- it is one, and of each open Id, with its slot and its key, P holds
pub record Sound (P : ℕ → Slot → Key → Type 0) (s : Snapshot) : Type 0 where
  pub fit : Fit s
  pub each : (i : ℕ) (k : Key) → key_in s i ≡ some k → P i (slot_of s i) k

pub backed_carried : (q r : Write → Bool) (ws us : List Write) (s : Snapshot) → Carries q r ws us → Backed q ws s → Backed r us s
backed_carried q r ws us s c b i =
    record {
      octets = λ o m. c i (file_of s i) octets_part o ((b i).octets o m);
      meta = λ e. c i (file_of s i) meta_part 0 ((b i).meta e);
      name = λ e n. c i (file_of s i) name_part 0 ((b i).name e n);
    }

pub sound_later : (P Q : ℕ → Slot → Key → Type 0) → ((i : ℕ) (x : Slot) (k : Key) → P i x k → Q i x k) → (s : Snapshot) → Sound P s → Sound Q s
sound_later P Q g s h = record { fit = h.fit; each = λ i k e. g i (slot_of s i) k (h.each i k e) }

-- of an Id that is open P holds
pub sound_open : (P : ℕ → Slot → Key → Type 0) (s : Snapshot) (i : ℕ) → Sound P s → is_open s i ≡ true → (k : Key) × P i (slot_of s i) k
sound_open P s i h e = let k = open_key_lem s i e in (k.0, h.each i k.0 k.1)

-- ---- an Id of which both have the same

module _ {s n : Snapshot} {j : ℕ} (a : Alike s n j) where
  was_open : is_open n j ≡ true → is_open s j ≡ true
  was_open e = sym (alike_open a) ∙ e

  same_file_lem : is_open n j ≡ true → file_of n j ≡ file_of s j
  same_file_lem e = ap (λ (x : Slot). x.file) (a.slot (was_open e))

  pub alike_keeps : (f o : ℕ) → Keeps s j f o → Keeps n j f o
  alike_keeps f o h e z = rw a.runs (h (was_open e) (sym (same_file_lem e) ∙ z))

  pub alike_backed : (q : Write → Bool) (ws : List Write) → BackedAt q ws s j → BackedAt q ws n j
  alike_backed q ws b =
      record {
        octets = λ o m. let y : Member (received s j) o = rw a.runs at m in
            rw (same_file_lem (alike_open a ∙ member_open s j o y)) (b.octets o y);
        meta = λ e. rw (same_file_lem e) (b.meta (was_open e));
        name = λ e z. rw (same_file_lem e) (b.name (was_open e) (ap (λ (x : Slot). x.named) (sym (a.slot (was_open e))) ∙ z));
      }

  alike_each : (P : ℕ → Slot → Key → Type 0) → ((k : Key) → key_in s j ≡ some k → P j (slot_of s j) k) → (k : Key) → key_in n j ≡ some k → P j (slot_of n j) k
  alike_each P h k e = let y : key_in s j ≡ some k = sym a.key ∙ e in rw (a.slot (key_open s j k y)) (h k y)

-- ---- alike apart from one Id

abbrev pub Apart : Snapshot → Snapshot → ℕ → Type 0
Apart s n i = (j : ℕ) → (i ≡ j → ⊥) → Alike s n j

module _ (s n : Snapshot) (i : ℕ) (a : Apart s n i) where
  -- what holds of this Id, and of the others since they are alike, holds of all
  apart : (P : ℕ → Type 0) → P i → ((j : ℕ) → Alike s n j → P j) → (j : ℕ) → P j
  apart P x y j = go (ℕ_discrete i j)
    where
      go : Dec (i ≡ j) → P j
      go (yes e) = subst P e x
      go (no e) = y j (a j e)

  pub apart_keeps : (f o : ℕ) → (Keeps s i f o → Keeps n i f o) → (j : ℕ) → Keeps s j f o → Keeps n j f o
  apart_keeps f o x = apart (λ j. Keeps s j f o → Keeps n j f o) x (λ j y. alike_keeps y f o)

  pub apart_backed : (q : Write → Bool) (ws : List Write) → BackedAt q ws n i → Backed q ws s → Backed q ws n
  apart_backed q ws x b = apart (λ j. BackedAt q ws n j) x (λ j y. alike_backed y q ws (b j))

  pub apart_sound : (P : ℕ → Slot → Key → Type 0) → Fit n → ((k : Key) → key_in n i ≡ some k → P i (slot_of n i) k) → Sound P s → Sound P n
  apart_sound P f x h =
      record { fit = f; each = apart (λ j. (k : Key) → key_in n j ≡ some k → P j (slot_of n j) k) x (λ j y. alike_each y P (h.each j)) }
