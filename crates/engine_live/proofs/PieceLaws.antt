-- A piece of a plan lies in one hole, and no other piece takes of it: what comes of it is one new stretch.
-- Assumes nothing.
use Prim.Native.Nat.{ℕ, suc, ◌≤◌, ◌<◌, min, max}
use mathlib.Core.Path.{◌≡◌, refl, sym, ap, ◌∙◌}
use mathlib.Core.Bool.{true, false, false≢true}
use mathlib.Core.List.{List, [], ◌∷◌}
use mathlib.Core.Logic.{inl, inr, ⊎_elim}
use native.Mathlib.Omega.{arith}
use lib.Dec.{leb}
use borrow.Author.Tests.{leb-true, leb-false, eq-eqb, lt-ltb}
use Rattle.runs.specs.Runs.{Run, Member, CanonicalFrom, Canonical}
use Rattle.runs.specs.Holes.{holes, InHole}
use Rattle.runs.specs.declared.Hole.{Hole}
use Rattle.runs.proofs.CompareLaws.{le_or_lt}
use Rattle.runs.proofs.HoleLaws.{hole_iff}
use Rattle.packet_data.specs.Data.{read_data}
use Rattle.packet_data.specs.declared.Data.{Data}
use Rattle.plan.specs.declared.Piece.{Piece}
use Rattle.plan_check.specs.GoodPlan.{Each, Some, InPiece, LiesIn, GoodPlan}
use Rattle.plan_check.proofs.GoodPlanLaws.{each_map}
use Rattle.transfer.specs.Record.{stop_of}
use Rattle.table.specs.Record.{record_packet, record_accepted}
use Rattle.table.proofs.TableLaws.{by_test}
use Rattle.engine_slots.specs.declared.Sender.{Sender}
use Rattle.engine_slots.specs.declared.Stretch.{Stretch}
use Rattle.engine_slots.specs.declared.Look.TheVariants as look
use Rattle.engine_stretch.specs.declared.Reach.{Reach}
use Rattle.engine_stretch.specs.Stretch.{reach, reach_from}
use Rattle.engine_model.specs.Snapshots.{Snapshot, slot_of, received, same_sender}
use Rattle.engine_model.specs.Stretches.{piece_of, stretch_of, look_reach, look_from, look_owned, look_judged, look_data}
use Rattle.engine_model.proofs.FitLaws.{Fit, received_canonical}
use Rattle.std.specs.Prelude.{Result, Ok, Err}
use Rattle.refusals.specs.declared.Refusal.{Refusal}
use Rattle.transfer.specs.declared.Receipt.{Receipt}

-- ---- nothing of a piece was received

abbrev pub Clear : List Run → Piece → Type 0
Clear rs p = (o : ℕ) → InPiece o p → Member rs o → ⊥

lies_hole : (hs : List Hole) (p : Piece) → Some (LiesIn p) hs → (o : ℕ) → InPiece o p → InHole hs o
lies_hole [] p s o w = s
lies_hole (h ∷ hs) p (inl l) o w = inl (omega arith, omega arith)
lies_hole (h ∷ hs) p (inr s) o w = inr (lies_hole hs p s o w)

pub pieces_clear : (m : ℕ) (rs : List Run) (ps : List Piece) → Canonical rs → GoodPlan m (holes rs) ps → Each (Clear rs) ps
pieces_clear m rs ps c g =
    each_map (λ p. Some (LiesIn p) (holes rs)) (Clear rs) ps (λ p l o w n. ((hole_iff rs o c).0 (lies_hole (holes rs) p l o w)).1 n) g.in_holes

-- ---- so it is new up to its end

pub reach_clear : (k : ℕ) (rs : List Run) (a b : ℕ) → CanonicalFrom k rs → a < b → ((o : ℕ) → a ≤ o → o < b → Member rs o → ⊥)
    → reach_from rs a b ≡ reach false b
unfolding reach_from
reach_clear k [] a b c l n = refl
reach_clear k (r ∷ rs) a b c l n =
    by_test (λ (x : Reach). x ≡ reach false b) (leb r.stop a) (reach_from rs a b) _
    (λ t. reach_clear (suc r.stop) rs a b c.2 l (λ o i j m. n o i j (inr m)))
    (λ t.
    let h : a < r.stop = leb-false _ _ t in
    by_test (λ (x : Reach). x ≡ reach false b) (leb r.start a) (reach true (min r.stop b)) (reach false (min r.start b))
    (λ u. absurd (n a (omega arith) l (inl (leb-true _ _ u, h))))
    (λ u.
    let g : a < r.start = leb-false _ _ u in
    ⊎_elim (λ (q : b ≤ r.start). ap (λ (x : ℕ). reach false x) (let z : min r.start b ≡ b = omega arith in z))
    (λ (q : r.start < b). absurd (n r.start (omega arith) q (inl (omega arith, c.1)))) (le_or_lt b r.start)))

-- ---- the whole packet as one stretch

abbrev pub whole_of : Snapshot → Data → Stretch
whole_of s d = stretch_of s d d.offset (reach false (stop_of d))

-- without end of data it is the packet
pub piece_whole : (s : Snapshot) (d : Data) → d.eod ≡ 0 → piece_of d (whole_of s d) ≡ d
unfolding piece_of stretch_of
piece_whole s d e =
    let start_is : (piece_of d (whole_of s d)).start ≡ d.start = omega arith in
    let length_is : (piece_of d (whole_of s d)).length ≡ d.length = omega arith in
    λ j.
    record {
      flags = d.flags;
      id = d.id;
      width = d.width;
      timestamp = d.timestamp;
      wanted = d.wanted;
      eod = sym e j;
      offset = d.offset;
      start = start_is j;
      length = length_is j;
    }

same_as_itself : (r : Sender) → same_sender r r ≡ true
unfolding same_sender
same_as_itself r = rw (eq-eqb r.high r.high refl, eq-eqb r.low r.low refl, eq-eqb r.port r.port refl)

module _ (s : Snapshot) (r : Sender) (p : List ℕ) (d : Data) where
  taken_owned : (from : ℕ) (x : Result Receipt Refusal) → record_accepted x ≡ true → look_judged s r from x (Ok d) ≡ look_owned s r d from
  unfolding look_judged
  taken_owned from (Ok x) e = refl
  taken_owned from (Err n) e = absurd (false≢true e)

  owned_from : (from : ℕ) → (slot_of s d.id).owner ≡ r → look_owned s r d from ≡ look_from s d from
  unfolding look_owned
  owned_from from e = rw (e, same_as_itself r)

  from_new : Fit s → 0 < d.length → ((o : ℕ) → d.offset ≤ o → o < stop_of d → Member (received s d.id) o → ⊥)
      → look_from s d 0 ≡ Ok (look.New (whole_of s d))
  unfolding look_from look_reach
  from_new f l n =
      let at : max 0 d.offset ≡ d.offset = omega arith in
      let some : d.offset < stop_of d = omega arith in
      rw (at, lt-ltb d.offset (stop_of d) some, reach_clear 0 (received s d.id) d.offset (stop_of d) (received_canonical s d.id f) some n)

  -- a packet that is accepted, and is the owner's
  pub look_taken : (from : ℕ) → record_accepted (record_packet s.table p).answer ≡ true → read_data p ≡ Ok d
      → (slot_of s d.id).owner ≡ r → look_data s r p from ≡ look_from s d from
  unfolding look_data
  look_taken from a e o =
      ap (look_judged s r from (record_packet s.table p).answer) e ∙ taken_owned from (record_packet s.table p).answer a ∙ owned_from from o

  -- and nothing of it was received
  pub look_whole : record_accepted (record_packet s.table p).answer ≡ true → read_data p ≡ Ok d → (slot_of s d.id).owner ≡ r
      → Fit s → 0 < d.length → ((o : ℕ) → d.offset ≤ o → o < stop_of d → Member (received s d.id) o → ⊥)
      → look_data s r p 0 ≡ Ok (look.New (whole_of s d))
  look_whole a e o f l n = look_taken 0 a e o ∙ from_new f l n
