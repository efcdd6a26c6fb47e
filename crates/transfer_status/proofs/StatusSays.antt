-- What a STATUS says of its transfer: its holes are the offsets below the edge that were not received, its bit 12 that a timestamp is kept, its bit 14 that
-- holes are left out, its bit 15 that it was sent unasked or that the transfer is complete, its In-Response-To the last octet of a
-- complete transfer and the edge of any other.
-- Assumes nothing.
use Prim.Native.Nat.{ℕ, suc, ◌-◌, ◌<◌, ◌≤◌, max}
use mathlib.Core.Path.{◌≡◌, refl, sym, ap, subst, ◌∙◌}
use mathlib.Core.Bool.{Bool, true, false, ◌||◌}
use mathlib.Core.List.{List, [], ◌∷◌, ◌++◌}
use mathlib.Core.Logic.{◌⊎◌, inl, inr, ⊎_elim, ◌↔◌}
use native.Mathlib.Omega.{arith}
use lib.ListN.{length, take, drop, take-append-drop}
use Rattle.timestamp.specs.Timestamps.{stamped}
use Rattle.refusals.specs.Tests.{bit}
use Rattle.refusals.proofs.TestLaws.{or_iff, test_not, bit_iff}
use Rattle.header.specs.FirstWord.{bits, partial_of}
use Rattle.header.specs.Start.{word_of}
use Rattle.packet_status.specs.Status.{progress_of, response_of, hole_list}
use Rattle.runs.specs.declared.Hole.{Hole}
use Rattle.runs.specs.Runs.{Run, Member}
use Rattle.runs.specs.Holes.{edge, holes, progress, complete, InHole}
use Rattle.runs.proofs.EdgeLaws.{edge_highest, edge_none}
use Rattle.runs.proofs.HoleLaws.{hole_iff}
use Rattle.runs.proofs.ProgressLaws.{progress_lowest, progress_edge, progress_no_holes}
use Rattle.runs.proofs.CompleteLaws.{complete_iff, complete_progress, complete_edge, complete_no_holes}
use Rattle.runs.proofs.CompareLaws.{le_or_lt}
use Rattle.transfer.specs.Transfers.{Transfer, TransferFine}
use Rattle.success_status.specs.declared.Fields.{Fields}
use Rattle.success_status.proofs.FlagLaws.{flags_stamped, flags_partial, flags_unasked}
use Rattle.transfer_status.specs.WriteStatus.{hole_room, holes_sent, partial_sent, response_sent, fields_sent, status_packet}
use Rattle.transfer_status.proofs.StatusPartial.{partial_iff, whole_sent}
use Rattle.transfer_status.proofs.StatusSize.{holes_sent_count}
use Rattle.transfer_status.proofs.StatusResponse.{told, response_complete, response_not}
use Rattle.transfer_status.proofs.StatusReads.{status_word, status_progress_read, status_response_read, status_holes_read}

-- an offset lies in a hole of two lists joined exactly when it lies in one of the first or of the second
in_append : (f g : List Hole) (o : ℕ) → InHole (f ++ g) o ↔ (InHole f o ⊎ InHole g o)
in_append [] g o = ((λ m. inr m), (λ m. ⊎_elim (λ z. absurd z) (λ n. n) m))
in_append (h ∷ f) g o =
    let i = in_append f g o in (
      (λ m. ⊎_elim (λ w. inl (inl w)) (λ n. ⊎_elim (λ a. inl (inr a)) (λ b. inr b) (i.0 n)) m),
      (λ m. ⊎_elim (λ a. ⊎_elim (λ w. inl w) (λ n. inr (i.1 (inl n))) a) (λ b. inr (i.1 (inr b))) m),
    )

-- the holes that were skipped, those that were written, and those that did not fit are all the holes, in their order
pub holes_parts : (ts d k room : ℕ) (hs : List Hole) → take k hs ++ (holes_sent ts d k room hs ++ drop (hole_room ts d room) (drop k hs)) ≡ hs
unfolding holes_sent
holes_parts ts d k room hs = rw (take-append-drop (hole_room ts d room) (drop k hs)) (take-append-drop k hs)

in_parts : (f g h hs : List Hole) (o : ℕ) → f ++ (g ++ h) ≡ hs → (InHole f o ⊎ (InHole g o ⊎ InHole h o)) ↔ InHole hs o
in_parts f g h hs o e =
    let i = in_append f (g ++ h) o in
    let j = in_append g h o in (
      (λ m. subst (λ (l : List Hole). InHole l o) e (i.1 (⊎_elim inl (λ n. inr (j.1 n)) m))),
      (λ m. ⊎_elim inl (λ n. inr (j.0 n)) (i.0 (subst (λ (l : List Hole). InHole l o) (sym e) m))),
    )

-- a STATUS that says complete: bit 15, no holes, and In-Response-To one less than Progress, or both 0
abbrev pub SaysComplete : List ℕ → Type 0
SaysComplete s =
    (bits 32 (word_of s) 15 15 ≡ 1) × (hole_list s ≡ [])
    × ((suc (response_of s) ≡ progress_of s) ⊎ ((progress_of s ≡ 0) × (response_of s ≡ 0)))

no_holes : (l : List Hole) → length l ≡ 0 → l ≡ []
no_holes [] e = refl
no_holes (h ∷ l) e = absurd (omega arith)

module _ (x : Transfer) (k : ℕ) (unasked : Bool) (room : ℕ) (fine : TransferFine x) where
  abbrev rs : List Run
  rs = x.runs

  abbrev d : ℕ
  d = x.key.width

  abbrev ts : ℕ
  ts = length x.stamp

  abbrev hs : List Hole
  hs = holes x.runs

  -- the holes that were written
  abbrev sent : List Hole
  sent = holes_sent ts d k room hs

  -- the holes that were skipped, and those that did not fit
  abbrev skipped : List Hole
  skipped = take k hs

  abbrev unfit : List Hole
  unfit = drop (hole_room ts d room) (drop k hs)

  -- an offset lies in a hole that was skipped, written or did not fit exactly when it is below the edge and was not received
  pub status_says_missing : (o : ℕ) → (InHole skipped o ⊎ (InHole sent o ⊎ InHole unfit o)) ↔ ((o < edge rs) × (Member rs o → ⊥))
  status_says_missing o =
      let p = in_parts skipped sent unfit hs o (holes_parts ts d k room hs) in
      let h = hole_iff rs o fine.canonical in
      ((λ m. h.0 (p.0 m)), (λ m. p.1 (h.1 m)))

  -- with bit 14 clear the holes that were written say it alone
  pub status_says_whole : partial_sent ts d k room (length hs) ≡ false → (o : ℕ) → InHole sent o ↔ ((o < edge rs) × (Member rs o → ⊥))
  status_says_whole e o = rw (whole_sent ts d k room hs e) (hole_iff rs o fine.canonical)

  -- R5.6: Progress is the lowest offset not received
  pub status_says_progress : (Member rs (progress rs) → ⊥) × ((o : ℕ) → o < progress rs → Member rs o)
  status_says_progress = progress_lowest rs fine.canonical

  -- R5.7: complete exactly when all offsets below L were received
  pub status_says_complete : (complete x.key.length rs ≡ true) ↔ ((o : ℕ) → o < x.key.length → Member rs o)
  status_says_complete = complete_iff x.key.length rs fine.canonical

  abbrev word : ℕ
  word = word_of (status_packet x.key rs x.stamp k unasked room)

  abbrev fifteen : Bool
  fifteen = unasked || complete x.key.length rs

  abbrev fields : Fields
  fields = fields_sent x.key rs (partial_sent ts d k room (length hs)) unasked

  -- R7.10: bit 12 is set exactly when a timestamp is kept
  pub status_says_twelve : (bits 32 word 12 12 ≡ 1) ↔ (stamped x.stamp ≡ true)
  status_says_twelve =
      let e : bits 32 word 12 12 ≡ bit (stamped x.stamp) =
      ap (λ (n : ℕ). bits 32 n 12 12) (status_word x k unasked room fine) ∙ flags_stamped (stamped x.stamp) fields in
      let b = bit_iff (stamped x.stamp) in
      ((λ z. b.0 (sym e ∙ z)), (λ z. e ∙ b.1 z))

  -- bit 14 is set exactly when fewer holes are written than there are
  pub status_says_fourteen : (k ≡ 0) ⊎ (k < length hs) → (partial_of word ≡ 1) ↔ (length sent < length hs)
  status_says_fourteen a =
      let e : partial_of word ≡ bit (partial_sent ts d k room (length hs)) =
      ap partial_of (status_word x k unasked room fine) ∙ flags_partial (stamped x.stamp) fields in
      let b = bit_iff (partial_sent ts d k room (length hs)) in
      let q = partial_iff ts d k room hs a in
      ((λ z. q.0 (b.0 (sym e ∙ z))), (λ l. e ∙ b.1 (q.1 l)))

  -- R7.4: bit 15, exactly when unasked or complete
  pub status_says_fifteen : (bits 32 word 15 15 ≡ 1) ↔ ((unasked ≡ true) ⊎ ((o : ℕ) → o < x.key.length → Member rs o))
  status_says_fifteen =
      let e : bits 32 word 15 15 ≡ bit fifteen =
      ap (λ (n : ℕ). bits 32 n 15 15) (status_word x k unasked room fine) ∙ flags_unasked (stamped x.stamp) fields in
      let b = bit_iff fifteen in
      let o = or_iff unasked (complete x.key.length rs) in
      let c = status_says_complete in (
        (λ z. ⊎_elim inl (λ t. inr (c.0 t)) (o.0 (b.0 (sym e ∙ z)))),
        (λ m. e ∙ b.1 (o.1 (⊎_elim inl (λ t. inr (c.1 t)) m))),
      )

  -- ---- Progress and In-Response-To, as they stand in the packet

  abbrev packet : List ℕ
  packet = status_packet x.key rs x.stamp k unasked room

  abbrev L : ℕ
  L = x.key.length

  -- every octet of the stated length was received
  abbrev AllReceived : Type 0
  AllReceived = (o : ℕ) → o < L → Member rs o

  from_is : progress_of packet ≡ progress rs
  from_is = status_progress_read x k unasked room fine

  to_is : response_of packet ≡ response_sent L rs
  to_is = status_response_read x k unasked room fine

  complete_to : complete L rs ≡ true → response_of packet ≡ L - 1
  complete_to e = to_is ∙ response_complete L rs e

  edge_to : complete L rs ≡ false → response_of packet ≡ edge rs
  edge_to e = to_is ∙ response_not L rs e

  -- R7.5: until the transfer is complete it is the edge
  pub status_says_edge : (AllReceived → ⊥)
      → ((o : ℕ) → (response_of packet ≡ suc o) ↔ (Member rs o × ((y : ℕ) → Member rs y → y ≤ o)))
      × ((response_of packet ≡ 0) ↔ ((o : ℕ) → Member rs o → ⊥))
  status_says_edge n =
      let e = edge_to ((test_not (complete L rs) AllReceived status_says_complete).1 n) in
      rw e ((λ o. edge_highest rs o fine.canonical), edge_none rs fine.canonical)

  -- R7.5: for a complete transfer it is the last offset: it is received, and no received offset is higher
  pub status_says_last : AllReceived → 0 < L → (suc (response_of packet) ≡ L) × (Member rs (response_of packet) × ((o : ℕ) → Member rs o → o ≤ response_of packet))
  status_says_last a l =
      let c = status_says_complete.1 a in
      let e : suc (response_of packet) ≡ L = omega (arith, complete_to c) in (
        e,
        (edge_highest rs (response_of packet) fine.canonical).0 (complete_edge L rs fine.canonical fine.within c ∙ sym e),
      )

  pub status_says_empty : L ≡ 0 → response_of packet ≡ 0
  status_says_empty z = omega (arith, complete_to (status_says_complete.1 (λ o l. absurd (omega arith))))

  -- so the edge is the greater of Progress and In-Response-To, in every STATUS
  pub status_says_reach : max (progress_of packet) (response_of packet) ≡ edge rs
  status_says_reach =
      ⊎_elim
      (λ c.
      omega (arith, complete_to c, from_is, (complete_progress L rs fine.canonical fine.within).0 c, complete_edge L rs fine.canonical fine.within c))
      (λ n. omega (arith, edge_to n, from_is, progress_edge rs fine.canonical))
      (told (complete L rs))

  -- In-Response-To is one less than Progress exactly in the STATUS of a complete transfer that has octets
  pub status_says_one_less : (suc (response_of packet) ≡ progress_of packet) ↔ ((0 < L) × AllReceived)
  status_says_one_less = (
    (λ e. ⊎_elim
        (λ c. (omega (arith, complete_to c, from_is, (complete_progress L rs fine.canonical fine.within).0 c), status_says_complete.0 c))
        (λ n. absurd (omega (arith, edge_to n, from_is, progress_edge rs fine.canonical)))
        (told (complete L rs))),
    (λ p.
        let c = status_says_complete.1 p.1 in
        omega (arith, p.0, complete_to c, from_is, (complete_progress L rs fine.canonical fine.within).0 c)),
  )

  none_sent : hs ≡ [] → hole_list packet ≡ []
  none_sent e =
      let z : length hs ≡ 0 = ap length e in
      status_holes_read x k unasked room fine ∙ no_holes sent (omega (arith, holes_sent_count ts d k room hs))

  all_done : AllReceived → SaysComplete packet
  all_done a =
      let c = status_says_complete.1 a in (
        status_says_fifteen.1 (inr a),
        none_sent (complete_no_holes L rs fine.canonical fine.within c),
        ⊎_elim
            (λ (z : L ≤ 0). inr (omega (arith, from_is, (complete_progress L rs fine.canonical fine.within).0 c), omega (arith, complete_to c)))
            (λ (l : 0 < L). inl (status_says_one_less.1 (l, a)))
            (le_or_lt L 0),
      )

  nothing_done : unasked ≡ true → ((o : ℕ) → Member rs o → ⊥) → complete L rs ≡ false → SaysComplete packet
  nothing_done u m n =
      let e : edge rs ≡ 0 = (edge_none rs fine.canonical).1 m in
      let p : progress rs ≡ 0 = omega (arith, progress_edge rs fine.canonical) in (
        status_says_fifteen.1 (inl u),
        none_sent ((progress_no_holes rs fine.canonical).1 (p ∙ sym e)),
        inr (from_is ∙ p, edge_to n ∙ e),
      )

  -- a STATUS that says complete is written exactly where every octet was received, or, unasked, where none was
  pub status_says_done : SaysComplete packet ↔ (AllReceived ⊎ ((unasked ≡ true) × ((o : ℕ) → Member rs o → ⊥)))
  status_says_done = (
    (λ s. ⊎_elim
        (λ c. inl (status_says_complete.0 c))
        (λ n. ⊎_elim
        (λ e. inl (status_says_one_less.0 e).1)
        (λ z. ⊎_elim (λ u. inr (u, (edge_none rs fine.canonical).0 (sym (edge_to n) ∙ z.1))) inl (status_says_fifteen.0 s.0))
        s.2)
        (told (complete L rs))),
    (λ m. ⊎_elim
        all_done
        (λ p. ⊎_elim (λ c. all_done (status_says_complete.0 c)) (nothing_done p.0 p.1) (told (complete L rs)))
        m),
  )
