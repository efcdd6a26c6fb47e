-- What is known of a stretch that is to be written, or compared.
-- Assumes nothing.
use Prim.Native.Nat.{ℕ, ◌+◌, ◌-◌, ◌≤◌, ◌<◌, max}
use mathlib.Core.Path.{◌≡◌, refl, sym, ap, subst, ◌∙◌}
use mathlib.Core.Bool.{Bool, true, false, true≢false, cond, ◌&&◌}
use mathlib.Core.List.{List}
use mathlib.Core.Option.{Option, none, some}
use native.Mathlib.Omega.{arith}
use lib.ListN.{get_or}
use lib.Dec.{leb, ltb}
use borrow.Author.Tests.{leb-true, ltb-true, le-leb, lt-ltb}
use Rattle.refusals.proofs.TestLaws.{and_iff}
use Rattle.runs.specs.Runs.{Run, run, Within, Member}
use Rattle.packet_data.specs.Data.{read_data}
use Rattle.packet_data.specs.declared.Data.{Data}
use Rattle.transfer.specs.declared.Key.{Key}
use Rattle.transfer.specs.Record.{stop_of}
use Rattle.table.specs.Record.{data_judged}
use Rattle.table.specs.Outcome.{Outcome}
use Rattle.table.proofs.TableLaws.{by_test}
use Rattle.table.proofs.RecordLaws.{recorded_as, record_cases}
use Rattle.engine_slots.specs.declared.Sender.{Sender}
use Rattle.engine_slots.specs.declared.Stretch.{Stretch}
use Rattle.engine_slots.specs.declared.Look.{Look}
use Rattle.engine_slots.specs.declared.Look.TheVariants as look
use Rattle.engine_stretch.specs.declared.Reach.{Reach}
use Rattle.engine_stretch.specs.Stretch.{reach_from}
use Rattle.engine_model.specs.Snapshots.{Snapshot, key_in, is_open, slot_of, file_of, received, same_sender}
use Rattle.engine_model.specs.Stretches.{brings, brings_in, piece_of, stretch_of, look_reach, look_from, look_owned, look_judged, look_data}
use Rattle.engine_model.proofs.SameLaws.{same_sender_lem}
use Rattle.engine_model.proofs.ReachLaws.{IsReceived, Reaches, reaches}
use Rattle.engine_model.proofs.SnapshotLaws.{Fit, key_open, received_canonical}
use Rattle.std.specs.Prelude.{Result, Ok, Err}
use Rattle.refusals.specs.declared.Refusal.{Refusal}
use Rattle.transfer.specs.declared.Receipt.{Receipt}

-- the packet p of r is DATA d that the snapshot takes, and x a stretch of it
pub record Looked (s : Snapshot) (r : Sender) (p : List ℕ) (x : Stretch) : Type 0 where
  pub d : Data
  pub read : read_data p ≡ Ok d
  pub key : Key
  pub found : key_in s d.id ≡ some key
  pub judged : data_judged (some key) d ≡ 0
  pub owned : (slot_of s d.id).owner ≡ r
  pub id_is : x.id ≡ d.id
  pub file_is : x.file ≡ file_of s d.id
  pub start_is : x.start ≡ d.start + (x.from - d.offset)
  pub after : d.offset ≤ x.from
  pub some_octets : x.from < x.to
  pub inside : x.to ≤ stop_of d

pub looked_open : {s : Snapshot} {r : Sender} {p : List ℕ} {x : Stretch} (l : Looked s r p x) → is_open s l.d.id ≡ true
looked_open {s} l = key_open s l.d.id l.key l.found

-- ---- where a stretch comes from

-- a stretch that was received, or one that was not
abbrev pub look_as : Bool → Stretch → Result Look Refusal
look_as known x = cond known (Ok (look.Known x)) (Ok (look.New x))

look_same : (b c : Bool) (x y : Stretch) → look_as b x ≡ look_as c y → (b ≡ c) × (x ≡ y)
look_same true true x y e = (refl, cc)
look_same true false x y e = absurd (let z : ◌≡◌ {A = ℕ} 0 1 = cc in omega arith)
look_same false true x y e = absurd (let z : ◌≡◌ {A = ℕ} 0 1 = cc in omega arith)
look_same false false x y e = (refl, cc)

abbrev is_stretch : Result Look Refusal → Bool
is_stretch (Err r) = false
is_stretch (Ok look.Stranger) = false
is_stretch (Ok look.Over) = false
is_stretch (Ok (look.Known x)) = true
is_stretch (Ok (look.New x)) = true

as_stretch : (b : Bool) (x : Stretch) → is_stretch (look_as b x) ≡ true
as_stretch true x = refl
as_stretch false x = refl

-- what the packet is, and that it is the owner's
record Takes (s : Snapshot) (r : Sender) (p : List ℕ) (d : Data) : Type 0 where
  key : Key
  read : read_data p ≡ Ok d
  found : key_in s d.id ≡ some key
  judged : data_judged (some key) d ≡ 0
  owned : (slot_of s d.id).owner ≡ r

-- anything else, or a stretch from an offset of the packet on
look_cases : (P : Result Look Refusal → Type 0) (s : Snapshot) (r : Sender) (p : List ℕ) (from : ℕ)
    → ((l : Result Look Refusal) → is_stretch l ≡ false → P l)
    → ((d : Data) (a : ℕ) → Takes s r p d → d.offset ≤ a → a < stop_of d → P (look_reach s d a (reach_from (received s d.id) a (stop_of d))))
    → P (look_data s r p from)
unfolding look_data look_judged look_owned look_from
look_cases P s r p from other stretch =
    record_cases (λ (o : Outcome (Result Receipt Refusal)). P (look_judged s r from o.answer (read_data p))) s.table p (λ n. other (Err _) refl)
    (λ d k e f j few.
    subst (λ (x : Result Data Refusal). P (look_judged s r from (recorded_as s.table p d k).answer x)) (sym e)
    (by_test P (same_sender (slot_of s d.id).owner r) (look_from s d from) (Ok look.Stranger)
    (λ t.
    by_test P (ltb (max from d.offset) (stop_of d)) _ (Ok look.Over)
    (λ u.
    stretch d (max from d.offset) (record { key = k; read = e; found = f; judged = j; owned = same_sender_lem _ r t }) (omega arith) (ltb-true _ _ u))
    (λ u. other (Ok look.Over) refl))
    (λ t. other (Ok look.Stranger) refl)))

-- all of the stretch was received, or none of it
abbrev Judged : Snapshot → Sender → List ℕ → Stretch → Bool → Type 0
Judged s r p x b = (l : Looked s r p x) × ((o : ℕ) → Within (run x.from x.to) o → IsReceived b (received s l.d.id) o)

look_stretch : (s : Snapshot) (r : Sender) (p : List ℕ) (from : ℕ) (known : Bool) (x : Stretch) → Fit s → look_data s r p from ≡ look_as known x
    → Judged s r p x known
unfolding look_reach stretch_of
look_stretch s r p from known x f =
    look_cases (λ (y : Result Look Refusal). y ≡ look_as known x → Judged s r p x known) s r p from
    (λ y n e. absurd (true≢false (sym (as_stretch known x) ∙ sym (ap is_stretch e) ∙ n)))
    (λ d a t low high e.
    let rs = received s d.id in
    let reached = reaches 0 rs a (stop_of d) (received_canonical s d.id f) high in
    let same = look_same (reach_from rs a (stop_of d)).received known (stretch_of s d a (reach_from rs a (stop_of d))) x e in
    subst (λ (y : Stretch). Judged s r p y known) same.1
    (subst (Judged s r p (stretch_of s d a (reach_from rs a (stop_of d)))) same.0 (
      record {
        d = d;
        key = t.key;
        read = t.read;
        found = t.found;
        judged = t.judged;
        owned = t.owned;
        id_is = refl;
        file_is = refl;
        start_is = refl;
        after = low;
        some_octets = reached.some_octets;
        inside = reached.inside;
      },
      λ o w. reached.alike o w.0 w.1,
    )))

-- nothing of a new stretch was received
pub look_new : (s : Snapshot) (r : Sender) (p : List ℕ) (from : ℕ) (x : Stretch) → Fit s → look_data s r p from ≡ Ok (look.New x)
    → (l : Looked s r p x) × ((o : ℕ) → Within (run x.from x.to) o → Member (received s l.d.id) o → ⊥)
look_new s r p from x f e = look_stretch s r p from false x f e

-- all of a known one was
pub look_known : (s : Snapshot) (r : Sender) (p : List ℕ) (from : ℕ) (x : Stretch) → Fit s → look_data s r p from ≡ Ok (look.Known x)
    → (l : Looked s r p x) × ((o : ℕ) → Within (run x.from x.to) o → Member (received s l.d.id) o)
look_known s r p from x f e = look_stretch s r p from true x f e

-- ---- what the stretch brings

pub brings_some : {s : Snapshot} {r : Sender} {p : List ℕ} {x : Stretch} (l : Looked s r p x) (o : ℕ) → Within (run x.from x.to) o
    → (v : ℕ) × (brings_in p l.d x o ≡ some v)
unfolding brings_in brings
brings_some {p = p} {x} l o w = (
  get_or p (l.d.start + (o - l.d.offset)) 0,
  rw (le-leb x.from o w.0, lt-ltb o x.to w.1, le-leb l.d.offset o (omega arith), lt-ltb o (stop_of l.d) (omega arith)),
)

pub brings_only : (p : List ℕ) (d : Data) (x : Stretch) (o v : ℕ) → brings_in p d x o ≡ some v
    → Within (run x.from x.to) o × (brings p d o ≡ some v)
unfolding brings_in
brings_only p d x o v e = go (leb x.from o && ltb o x.to) refl e
  where
    go : (b : Bool) → leb x.from o && ltb o x.to ≡ b → cond b (brings p d o) none ≡ some v
        → Within (run x.from x.to) o × (brings p d o ≡ some v)
    go true q z = let h = (and_iff (leb x.from o) (ltb o x.to)).0 q in ((leb-true _ _ h.0, ltb-true _ _ h.1), z)
    go false q z = absurd (let y : ◌≡◌ {A = ℕ} 0 1 = cc in omega arith)

-- ---- the stretch as DATA

pub piece_id : (d : Data) (x : Stretch) → (piece_of d x).id ≡ d.id
unfolding piece_of
piece_id d x = refl

pub piece_offset : (d : Data) (x : Stretch) → (piece_of d x).offset ≡ x.from
unfolding piece_of
piece_offset d x = refl

pub piece_some : (d : Data) (x : Stretch) → x.from < x.to → 0 < (piece_of d x).length
unfolding piece_of
piece_some d x l = omega arith

pub piece_stop : (d : Data) (x : Stretch) → x.from ≤ x.to → stop_of (piece_of d x) ≡ x.to
unfolding piece_of
piece_stop d x l = omega arith
