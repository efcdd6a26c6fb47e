-- The places that are walked: what the walks come to.
-- Assumes nothing.
use Prim.Native.Nat.{ℕ, zero, suc, ◌+◌, ◌-◌, ◌≤◌, ◌<◌}
use mathlib.Core.Path.{◌≡◌, sym, ap, ◌∙◌}
use mathlib.Core.Bool.{Bool, true, false, cond}
use mathlib.Core.List.{List, [], ◌∷◌}
use lib.ListN.{length}
use lib.Dec.{eqb}
use native.Mathlib.Omega.{arith}
use borrow.Author.Tests.{lt-ltb, le-ltb, eq-eqb, ne_eqb}
use Rattle.words.specs.Words.{word_at}
use Rattle.transfer.specs.Transfers.{Transfer}
use Rattle.table.specs.Tables.{FineFrom}
use Rattle.area.specs.Layout.{id_field, head_at}
use Rattle.area.specs.Places.{transfer_at, transfers_from, read_table, nth, place_of}
use Rattle.area.proofs.JudgeLaws.{judged_passed}
use Rattle.area.proofs.PlaceLaws.{length_transfers, transfer_at_lem}
use Rattle.engine_slots.specs.declared.Slot.{Slot}
use Rattle.engine_slots.specs.Slots.{slot_at, slots_from}
use Rattle.engine_model.specs.Snapshots.{slot_of}
use Rattle.engine_state.specs.State.{snapshot_in, engine_in, held_state}
use Rattle.engine_state.proofs.StateLaws.{held_known, slot_known}
use Rattle.engine_due.specs.declared.Waits.{Waits}
use Rattle.engine_due.specs.Due.{kind_from}
use Rattle.engine_next.specs.declared.Page.{Page}
use Rattle.engine_next.specs.declared.Next.{Next}
use Rattle.engine_next.specs.declared.Next.TheVariants.{Sync, Nothing}
use Rattle.engine_next.specs.Next.{is_urgent, any_urgent, page_of, next_by, sync_due, first_next}

-- ---- whether a sync is urgent

step : (a : List ℕ) (n i : ℕ) → i < n → slots_from a i (n - i) ≡ slot_at a i ∷ slots_from a (suc i) (n - suc i)
unfolding slots_from
step a n i l = let e : n - i ≡ suc (n - suc i) = omega arith in rw e

module _ (a : List ℕ) (n i done : ℕ) (l : i < n) (x : Slot) (is : x ≡ slot_at a i) (all : Bool) (inv : any_urgent done (slots_from a i (n - i)) ≡ all) where
  here : (b : Bool) → b ≡ is_urgent done x → cond b true (any_urgent done (slots_from a (suc i) (n - suc i))) ≡ all
  unfolding any_urgent
  here b e = rw (e, is) (ap (any_urgent done) (sym (step a n i l)) ∙ inv)

  pub urgent_here : (b : Bool) → b ≡ is_urgent done x → b ≡ true → true ≡ all
  urgent_here b e t = here true (sym t ∙ e)

  pub urgent_later : (b : Bool) → b ≡ is_urgent done x → b ≡ false → any_urgent done (slots_from a (i + 1) (n - (i + 1))) ≡ all
  urgent_later b e f =
      let k : i + 1 ≡ suc i = omega arith in
      ap (λ (j : ℕ). any_urgent done (slots_from a j (n - j))) k ∙ here false (sym f ∙ e)

pub urgent_none : (a : List ℕ) (n i done : ℕ) (all : Bool) → n ≤ i → any_urgent done (slots_from a i (n - i)) ≡ all → false ≡ all
unfolding any_urgent slots_from
urgent_none a n i done all l inv =
    let k : 0 ≡ n - i = omega arith in
    ap (λ (j : ℕ). any_urgent done (slots_from a i j)) k ∙ inv

-- ---- what is to be done first

-- a table in order finds its own Ids at their places
above : (k : ℕ) (t : List Transfer) (i : ℕ) → FineFrom k t → i < length t → k ≤ (nth t i).key.id
above k [] i f h = absurd (omega arith)
above k (x ∷ t) zero f h = f.0
above k (x ∷ t) (suc i) f h = omega (arith, f.0, above (suc x.key.id) t i f.2 (omega arith))

own_place : (k : ℕ) (t : List Transfer) (i : ℕ) → FineFrom k t → i < length t → i ≡ place_of (nth t i).key.id t
unfolding place_of
own_place k [] i f h = absurd (omega arith)
own_place k (x ∷ t) zero f h = rw (le-ltb x.key.id x.key.id (omega arith))
own_place k (x ∷ t) (suc i) f h =
    rw (lt-ltb x.key.id (nth t i).key.id (above (suc x.key.id) t i f.2 (omega arith)))
    (ap suc (own_place (suc x.key.id) t i f.2 (omega arith)))

slot_there : (s : List ℕ) (i : ℕ) → held_state s ≡ true → i < length (read_table s)
    → slot_of (snapshot_in s) (word_at s (head_at i id_field)) ≡ slot_at s i
slot_there s i h l =
    let j = (held_known s h).now_judged in
    let same : (nth (read_table s) i).key.id ≡ word_at s (head_at i id_field) = ap (λ (x : Transfer). x.key.id) (transfer_at_lem s i (omega (arith, length_transfers s 0 (word_at s 0)))) in
    slot_known s (word_at s (head_at i id_field)) i
    (record {
      place = own_place 0 (read_table s) i (judged_passed s j).1.fine l ∙ ap (λ (x : ℕ). place_of x (read_table s)) same;
      inside = l;
      same = same;
    })

turn : (a : List ℕ) (n i : ℕ) → i < n → transfers_from a i (n - i) ≡ transfer_at a i ∷ transfers_from a (suc i) (n - suc i)
unfolding transfers_from
turn a n i l = let e : n - i ≡ suc (n - suc i) = omega arith in rw e

module _ (a : List ℕ) (t : ℕ) (w : Waits) (from n i : ℕ) (l : i < n) (h : held_state a ≡ true) (count : n ≡ word_at a 0)
    (kind : ℕ) (is : kind ≡ kind_from (engine_in a) t w from (word_at a (head_at i id_field)) (slot_at a i))
    (all : Next) (inv : first_next (engine_in a) t w from (transfers_from a i (n - i)) ≡ all) where
  this : cond (eqb kind 0) (first_next (engine_in a) t w from (transfers_from a (suc i) (n - suc i))) (next_by kind (page_of (engine_in a) (word_at a (head_at i id_field)))) ≡ all
  unfolding first_next
  this =
      let id = word_at a (head_at i id_field) in
      let k : kind ≡ kind_from (engine_in a) t w from id (slot_of (snapshot_in a) id)
      = is ∙ ap (kind_from (engine_in a) t w from id) (sym (slot_there a i h (omega (arith, count, length_transfers a 0 (word_at a 0))))) in
      ap (λ (x : ℕ). cond (eqb x 0) (first_next (engine_in a) t w from (transfers_from a (suc i) (n - suc i))) (next_by x (page_of (engine_in a) id))) k
      ∙ ap (first_next (engine_in a) t w from) (sym (turn a n i l)) ∙ inv

  pub next_here : (kind ≡ 0 → ⊥) → (id : ℕ) → id ≡ word_at a (head_at i id_field) → (page : Page) → page ≡ page_of (engine_in a) id
      → (r : Next) → r ≡ next_by kind page → r ≡ all
  next_here d id e page f r g =
      let later = first_next (engine_in a) t w from (transfers_from a (suc i) (n - suc i)) in
      let x = next_by kind (page_of (engine_in a) (word_at a (head_at i id_field))) in
      g ∙ ap (next_by kind) (f ∙ ap (page_of (engine_in a)) e) ∙ ap (λ (b : Bool). cond b later x) (sym (ne_eqb kind 0 d)) ∙ this

  pub next_later : kind ≡ 0 → first_next (engine_in a) t w from (transfers_from a (i + 1) (n - (i + 1))) ≡ all
  next_later d =
      let k : i + 1 ≡ suc i = omega arith in
      let later = first_next (engine_in a) t w from (transfers_from a (suc i) (n - suc i)) in
      let x = next_by kind (page_of (engine_in a) (word_at a (head_at i id_field))) in
      ap (λ (j : ℕ). first_next (engine_in a) t w from (transfers_from a j (n - j))) k
      ∙ ap (λ (b : Bool). cond b later x) (sym (eq-eqb kind 0 d)) ∙ this

pub next_none : (a : List ℕ) (t : ℕ) (w : Waits) (from n i : ℕ) (all : Next) → n ≤ i → first_next (engine_in a) t w from (transfers_from a i (n - i)) ≡ all
    → (b : Bool) → b ≡ sync_due (engine_in a) t w → cond b Sync Nothing ≡ all
unfolding first_next transfers_from
next_none a t w from n i all l inv b e =
    let k : 0 ≡ n - i = omega arith in
    ap (λ (c : Bool). cond c Sync Nothing) e ∙ ap (λ (j : ℕ). first_next (engine_in a) t w from (transfers_from a i j)) k ∙ inv
