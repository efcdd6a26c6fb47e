-- What a STATUS has as received was received.
-- Assumes nothing.
use Prim.Native.Nat.{ℕ, zero, suc, ◌≤◌, ◌<◌, ◌-◌}
use mathlib.Core.Path.{◌≡◌, refl, sym, subst, ◌∙◌}
use mathlib.Core.Bool.{Bool, true, false, true≢false, cond}
use mathlib.Core.List.{List, [], ◌∷◌}
use mathlib.Core.Logic.{◌⊎◌, inl, inr}
use mathlib.Core.Option.{Option, none, some}
use native.Mathlib.Omega.{arith}
use lib.ListN.{length, take}
use lib.Seq.{take_all}
use lib.Dec.{ltb}
use borrow.Author.Tests.{ltb-false}
use Rattle.refusals.specs.Tests.{bit}
use Rattle.refusals.proofs.TestLaws.{bit_le}
use Rattle.refusals.proofs.WritingLaws.{written_size}
use Rattle.header.specs.FirstWord.{partial_of}
use Rattle.runs.specs.Runs.{Run, Member, Canonical, contains}
use Rattle.runs.specs.Holes.{edge, holes, progress, complete, InHole, HolesApart}
use Rattle.runs.specs.declared.Hole.{Hole}
use Rattle.runs.proofs.CanonicalLaws.{contains_sound, contains_holds}
use Rattle.runs.proofs.CompleteLaws.{complete_iff}
use Rattle.runs.proofs.HoleLaws.{hole_iff, holes_apart}
use Rattle.runs.proofs.ProgressLaws.{progress_below}
use Rattle.timestamp.specs.Timestamps.{stamped}
use Rattle.packet_status.specs.Status.{read_status}
use Rattle.packet_status.specs.declared.SuccessStatus.{SuccessStatus}
use Rattle.packet_status.specs.declared.Status.TheVariants as status
use Rattle.success_status.specs.SuccessStatus.{status_size, status_flags, fields_read}
use Rattle.success_status.specs.declared.Fields.{Fields}
use Rattle.transfer.specs.declared.Key.{Key}
use Rattle.transfer.specs.Transfers.{Transfer}
use Rattle.transfer_status.specs.WriteStatus.{hole_room, holes_sent, partial_sent, last_offset, response_sent, fields_sent, transfer_refused, transfer_written}
use Rattle.table.specs.Tables.{Valid, keys, find, runs_of, stamp_of}
use Rattle.table.specs.WriteStatus.{written_for, status_written, status_buffer}
use Rattle.table.proofs.FineLaws.{runs_canonical}
use Rattle.table.proofs.StatusWritten.{status_written_size, status_buffer_read, status_buffer_holes}
use Rattle.engine_laws.specs.Told.{BelowHole, HasReceived}
use Rattle.std.specs.Prelude.{Result, Ok}
use Rattle.refusals.specs.declared.Refusal.{Refusal}

-- ---- holes of which the first m are listed

module _ (o : ℕ) where
  from_first : (k top : ℕ) (hs : List Hole) → HolesApart k top hs → InHole hs o → k ≤ o
  from_first k top [] a i = absurd i
  from_first k top (x ∷ xs) a (inl i) = omega arith
  from_first k top (x ∷ xs) a (inr i) = omega (arith, from_first (suc x.end) top xs a.3 i)

  -- below the end of one that is listed, it is in none that isn't
  in_none_later : (k top m : ℕ) (hs : List Hole) → HolesApart k top hs → (InHole (take m hs) o → ⊥) → BelowHole (take m hs) o → InHole hs o → ⊥
  in_none_later k top zero hs a n b i = b
  in_none_later k top (suc m) [] a n b i = b
  in_none_later k top (suc m) (x ∷ xs) a n b (inl i) = n (inl i)
  in_none_later k top (suc m) (x ∷ xs) a n (inl b) (inr i) = omega (arith, from_first (suc x.end) top xs a.3 i)
  in_none_later k top (suc m) (x ∷ xs) a n (inr b) (inr i) = in_none_later (suc x.end) top m xs a.3 (λ z. n (inr z)) b i

  below_top : (k top m : ℕ) (hs : List Hole) → HolesApart k top hs → BelowHole (take m hs) o → o < top
  below_top k top zero hs a b = absurd b
  below_top k top (suc m) [] a b = absurd b
  below_top k top (suc m) (x ∷ xs) a (inl b) = let l : x.end ≤ top = a.2 in omega arith
  below_top k top (suc m) (x ∷ xs) a (inr b) = below_top (suc x.end) top m xs a.3 b

-- ---- runs

module _ (rs : List Run) (c : Canonical rs) (o : ℕ) where
  not_missing : o < edge rs → (InHole (holes rs) o → ⊥) → Member rs o
  not_missing l n = go (contains rs o) refl
    where
      go : (b : Bool) → contains rs o ≡ b → Member rs o
      go true e = contains_sound rs o e
      go false e = absurd (n ((hole_iff rs o c).1 (l, λ m. true≢false (sym (contains_holds rs o m) ∙ e))))

  from_below : (m : ℕ) → (InHole (take m (holes rs)) o → ⊥) → BelowHole (take m (holes rs)) o → Member rs o
  from_below m n b =
      not_missing (below_top o 0 (edge rs) m (holes rs) (holes_apart rs c) b) (in_none_later o 0 (edge rs) m (holes rs) (holes_apart rs c) n b)

  from_response : (L : ℕ) → (InHole (holes rs) o → ⊥) → o < response_sent L rs → Member rs o
  unfolding response_sent last_offset
  from_response L n = go (complete L rs) refl
    where
      last : (L : ℕ) → o < last_offset L → o < L
      last zero l = omega arith
      last (suc k) l = omega arith

      go : (b : Bool) → complete L rs ≡ b → o < cond b (last_offset L) (edge rs) → Member rs o
      go true e l = (complete_iff L rs c).0 e o (last L l)
      go false e l = not_missing l n

-- ---- a STATUS of a table

partial_bit : (kept : Bool) (f : Fields) → partial_of (status_flags kept f) ≡ bit f.partial
unfolding status_flags
partial_bit kept f = omega (arith, bit_le kept, bit_le f.partial, bit_le f.unasked)

-- no hole was left out
none_left : (ts d room n : ℕ) → bit (partial_sent ts d 0 room n) ≡ 0 → n ≤ hole_room ts d room
unfolding partial_sent
none_left ts d room n e = go (ltb (hole_room ts d room) (n - 0)) refl e
  where
    go : (b : Bool) → ltb (hole_room ts d room) (n - 0) ≡ b → bit b ≡ 0 → n ≤ hole_room ts d room
    go true q z = absurd (omega arith)
    go false q z = let l : n - 0 ≤ hole_room ts d room = ltb-false _ _ q in omega arith

pub record Shows (t : List Transfer) (i : ℕ) (p : List ℕ) : Type 0 where
  pub fields : SuccessStatus
  pub read : read_status p ≡ Ok (status.Success fields)
  pub of_id : fields.id ≡ i
  pub members : (o : ℕ) → HasReceived p fields o → Member (runs_of t i) o

module _ (t : List Transfer) (v : Valid t) (i : ℕ) (unasked : Bool) (out : List ℕ) where
  module _ (key : Key) (found : find i (keys t) ≡ some key) (fine : transfer_refused key (runs_of t i) (stamp_of t i) 0 unasked out ≡ 0) (n : ℕ)
      (size : status_written t i 0 unasked out ≡ Ok n) where
    abbrev rs : List Run
    rs = runs_of t i

    abbrev ts : ℕ
    ts = length (stamp_of t i)

    abbrev listed : List Hole
    listed = holes_sent ts key.width 0 (length out) (holes rs)

    abbrev sent : Fields
    sent = fields_sent (record { id = i; width = key.width; length = key.length }) rs (partial_sent ts key.width 0 (length out) (length (holes rs))) unasked

    abbrev Below : List Hole → ℕ → Type 0
    Below hs o =
        (o < progress rs) ⊎ (BelowHole hs o ⊎ ((partial_of (status_flags (stamped (stamp_of t i)) sent) ≡ 0) × (o < response_sent key.length rs)))

    has : (o : ℕ) → (InHole listed o → ⊥) → Below listed o → Member rs o
    unfolding holes_sent
    has o n (inl l) = progress_below rs o l
    has o n (inr (inl b)) = from_below rs (runs_canonical i t v) o (hole_room ts key.width (length out)) n b
    has o n (inr (inr e)) =
        let z = none_left ts key.width (length out) (length (holes rs)) (sym (partial_bit (stamped (stamp_of t i)) sent) ∙ e.0) in
        from_response rs (runs_canonical i t v) o key.length
        (λ y. n (subst (λ (l : List Hole). InHole l o) (sym (take_all (hole_room ts key.width (length out)) (holes rs) z)) y)) e.1

    shown : Shows t i (take n (status_buffer t i 0 unasked out))
    shown =
        let q : ◌≡◌ {A = Result ℕ Refusal} (Ok (status_size ts key.width (length listed))) (Ok n) = sym (status_written_size t v i 0 unasked out key found fine) ∙ size in
        let e : status_size ts key.width (length listed) ≡ n = cc in
        subst (λ (m : ℕ). Shows t i (take m (status_buffer t i 0 unasked out))) e
        (record {
          fields = fields_read sent (stamp_of t i) (length listed);
          read = status_buffer_read t v i 0 unasked out key found fine;
          of_id = refl;
          members = λ o r.
              let l = status_buffer_holes t v i 0 unasked out key found fine in
              has o (λ y. r.in_none (subst (λ (hs : List Hole). InHole hs o) (sym l) y)) (subst (λ (hs : List Hole). Below hs o) l r.below);
        })

  -- a STATUS that was written shows what was received
  pub status_shows : (n : ℕ) → status_written t i 0 unasked out ≡ Ok n → Shows t i (take n (status_buffer t i 0 unasked out))
  unfolding status_written written_for transfer_written
  status_shows n e = go (find i (keys t)) refl e
    where
      go : (k : Option Key) → find i (keys t) ≡ k → written_for k (runs_of t i) (stamp_of t i) 0 unasked out ≡ Ok n
          → Shows t i (take n (status_buffer t i 0 unasked out))
      go none f q = absurd (let z : ◌≡◌ {A = ℕ} 0 1 = cc in omega arith)
      go (some key) f q = shown key f (written_size (transfer_refused key (runs_of t i) (stamp_of t i) 0 unasked out) _ n q).0 n e
