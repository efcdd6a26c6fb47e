-- The steps one after the other: what the last of them finds is what recording answers and leaves.
-- Assumes nothing.
use Prim.Native.Nat.{ℕ, ◌<◌}
use mathlib.Core.Path.{◌≡◌, refl, sym, ap, ◌∙◌}
use mathlib.Core.Bool.{Bool, true, false}
use mathlib.Core.List.{List}
use native.Mathlib.Omega.{arith}
use lib.ListN.{length, take, drop}
use Rattle.octets.specs.Numbers.{Octets}
use Rattle.refusals.specs.Refusals.{refusal_of}
use Rattle.header.specs.Start.{word_of}
use Rattle.packet_data.specs.Data.{payload_at, data_refusal, data_of}
use Rattle.packet_data.specs.declared.Data.{Data}
use Rattle.packet_data.proofs.DataLaws.{data_fine, data_accepted}
use Rattle.timestamp.specs.Timestamps.{Stamp}
use Rattle.transfer.specs.Record.{stamp_in}
use Rattle.transfer.proofs.StampLaws.{stamp_known}
use Rattle.table.specs.Record.{record_data}
use Rattle.area.specs.Places.{read_table}
use Rattle.area.specs.Judge.{judged}
use Rattle.area.specs.Operations.{OnArea, leaves, record_area}
use Rattle.area_splice.specs.Splice.{spliced_area, Brings, stamped_area}
use Rattle.area_locate.specs.Locate.{unread_as, refused_by, given}
use Rattle.area_join.specs.Join.{told_by, recorded_area, Joins}
use Rattle.area_locate.specs.declared.Target.{Target}
use Rattle.area_join.specs.declared.Cuts.{Cuts}
use Rattle.area_join.specs.declared.Joined.{Joined}
use Rattle.area_locate.proofs.RecordLaws.{fields_some, record_unheld, record_unread, record_read_lem}
use Rattle.std.specs.Prelude.{Result, Ok, Err}
use Rattle.refusals.specs.declared.Refusal.{Refusal}
use Rattle.transfer.specs.declared.Receipt.{Receipt}

read_fine : (held : Bool) (s : List ℕ) → unread_as held s ≡ 0 → (held ≡ true) × (data_refusal s ≡ 0)
read_fine true s e = (refl, e)
read_fine false s e = absurd (omega arith)

-- an answer with its area, part by part
both : {x : Result Receipt Refusal} {l : List ℕ} {o : OnArea (Result Receipt Refusal)} → record { answer = x; area = l } ≡ o → (x ≡ o.answer) × (l ≡ o.area)
both f = (ap (λ (r : OnArea (Result Receipt Refusal)). r.answer) f, ap (λ (r : OnArea (Result Receipt Refusal)). r.area) f)

-- R6.14: a packet that is read brings 16 octets, or none
read_brings : (s : List ℕ) → data_refusal s ≡ 0 → Brings s (data_of s).timestamp
unfolding data_of
read_brings s z =
    let f = data_fine s z in
    let h : payload_at (word_of s) < length s = f.more in
    record { size = λ n. omega arith; whole = omega arith }

-- ---- the packet s, recorded in the area a

module _ (a s : List ℕ) where
  pub passed : unread_as (judged a) s ≡ 0 → (judged a ≡ true) × (data_refusal s ≡ 0)
  passed = read_fine (judged a) s

  -- 22, or the reader's refusal
  pub unread_refused : Octets a → (n : ℕ) → n ≡ unread_as (judged a) s → (n ≡ 0 → ⊥) → (Err (refusal_of n) ≡ (record_area a s).answer) × (a ≡ (record_area a s).area)
  unread_refused o n is e = both (go (judged a) refl is)
    where
      go : (b : Bool) → judged a ≡ b → n ≡ unread_as b s → refused_by n a ≡ record_area a s
      go true h i = record_unread a h s n o i e
      go false h i = ap (λ (m : ℕ). refused_by m a) i ∙ record_unheld a s h

  -- ---- its fields d
  module _ (j : judged a ≡ true) (f : data_refusal s ≡ 0) (d : Data) (fields : d ≡ data_of s) where
    pub locate_asks : (judged a ≡ true) × (0 < d.length)
    locate_asks = (j, fields_some s d f fields)

    pub keep_asks : Brings s d.timestamp
    keep_asks = rw fields (read_brings s f)

    of_fields : leaves a (record_data (read_table a) d (stamp_in s d)) ≡ record_area a s
    of_fields = ap (λ (x : Data). leaves a (record_data (read_table a) x (stamp_in s x))) fields ∙ record_read_lem a j s f

    -- the timestamp that it brings
    stamp_fine : Octets s → Stamp (stamp_in s d)
    stamp_fine o = stamp_known s d o (data_accepted s f ∙ ap Ok (sym fields))

    -- 12 to 15
    pub place_refused : (n : ℕ) → ((y : List ℕ) → refused_by n a ≡ leaves a (record_data (read_table a) d y))
        → (Err (refusal_of n) ≡ (record_area a s).answer) × (a ≡ (record_area a s).area)
    place_refused n g = both (g (stamp_in s d) ∙ of_fields)

    -- ---- its place t
    module _ (t : Target) (g : (y : List ℕ) → given a t y ≡ leaves a (record_data (read_table a) d y)) where
      of_place : given a t (stamp_in s d) ≡ record_area a s
      of_place = g (stamp_in s d) ∙ of_fields

      -- 16
      pub runs_refused : (n : ℕ) → ((y : List ℕ) → refused_by n a ≡ given a t y) → (Err (refusal_of n) ≡ (record_area a s).answer) × (a ≡ (record_area a s).area)
      runs_refused n h = both (h (stamp_in s d) ∙ of_place)

      -- and this where it is taken
      pub steps_taken : Octets s → (c : Cuts) (j : Joined) → Joins a t c j → (x b : List ℕ)
          → x ≡ spliced_area a t.place c.count c.i c.j j.lo j.hi → b ≡ stamped_area x t.place (take d.timestamp (drop 8 s))
          → (Ok (told_by c j) ≡ (record_area a s).answer) × (b ≡ (record_area a s).area)
      unfolding stamp_in
      steps_taken o c j h x b e f =
          let left : b ≡ recorded_area a t c j (stamp_in s d) = f ∙ ap (λ (l : List ℕ). stamped_area l t.place (stamp_in s d)) e in
          both
          (ap (λ (l : List ℕ). record { answer = Ok (told_by c j); area = l }) left ∙ h.is (stamp_in s d) (stamp_fine o)
          ∙ of_place)
