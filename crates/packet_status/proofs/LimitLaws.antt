-- R9: when each refusal is given, for STATUS: 1, 5 and 11 of the reader, none of them for a failure. Assumes nothing.
use Prim.Native.Nat.{ℕ, zero, suc, ◌+◌, ◌*◌, ◌%◌, ◌<◌, ◌≤◌}
use mathlib.Core.Path.{◌≡◌, refl, sym}
use mathlib.Core.Bool.{Bool, true, false, not}
use mathlib.Core.List.{List}
use mathlib.Core.Logic.{◌⊎◌, ◌↔◌}
use native.Mathlib.Nat.{div-mul-le_self}
use native.Mathlib.Omega.{arith}
use lib.ListN.{length}
use lib.Dec.{eqb}
use borrow.Author.Tests.{ne_eqb, eqb-true, eqb-false}
use Rattle.refusals.specs.Refusals.{◌▹◌, refusal_of}
use Rattle.refusals.specs.declared.Refusal.{Refusal}
use Rattle.refusals.proofs.LimitLaws as chains
use Rattle.refusals.proofs.ReasonLaws.{Reasons, Later, Means, why_if_lem, then_why, given, one, equal, unequal, denied, says, ◌▸◌, followed, under, again, named, of_start}
use Rattle.header.specs.FirstWord.{descriptor_octets, status_of}
use Rattle.header.specs.Start.{word_of, start_octets, type_refusal}
use Rattle.header.specs.Descriptor.{descriptor_refusal}
use Rattle.header.proofs.StartLaws.{TypeFine}
use Rattle.header.proofs.LimitLaws as header
use Rattle.hole_list.specs.HoleList.{list_well}
use Rattle.hole_list.specs.DescriptorList.{descriptors_refusal}
use Rattle.packet_status.specs.Status.{progress_at, response_at, holes_at, progress_of, response_of, list_octets, list_descriptors, hole_list, partial_told, unasked_told, list_refusal, success_refusal, status_refusal, accepted_status, read_status}
use Rattle.hole_list.proofs.DescriptorListLaws.{AllSmall, descriptors_some, descriptors_all, descriptors_none_iff, descriptors_five_iff}
use Rattle.hole_list.proofs.AcceptedLaws.{ListAccepted, list_well_iff}
use Rattle.std.specs.Prelude.{Err}

-- ---- read

module _ (s : List ℕ) where
  abbrev w : ℕ
  w = word_of s

  abbrev d : ℕ
  d = descriptor_octets w

  -- R9.11: no whole pairs, or not accepted
  abbrev pub ListWrong : Type 0
  ListWrong = (list_octets s % (2 * d) ≡ 0 → ⊥) ⊎ (ListAccepted (partial_told s) (unasked_told s) (progress_of s) (response_of s) (hole_list s) → ⊥)

  abbrev well : Bool
  well = list_well (partial_told s) (unasked_told s) (progress_of s) (response_of s) (hole_list s)

  abbrev list_reasons : Reasons
  list_reasons =
      again 11 (unequal (list_octets s % (2 * d)) 0)
      (one 11 (denied (says well (list_well_iff (partial_told s) (unasked_told s) (progress_of s) (response_of s) (hole_list s)))))

  -- the upper octets of each whole descriptor of the list are zero, a start without its end included
  abbrev pub ListSmall : Type 0
  ListSmall = AllSmall d s (list_descriptors s) (holes_at w)

  abbrev listed : ℕ
  listed = descriptors_refusal d (list_descriptors s) (holes_at w) s

  abbrev Answered : Type 0
  Answered = header.Readable d (response_at w) s

  -- where In-Response-To is there, so are they, and 5 alone is given
  whole : Answered → holes_at w + list_descriptors s * d ≤ length s
  whole r = omega (arith, r.0, div-mul-le_self (list_octets s) d)

  listed_given : Answered → (n : ℕ) (b : Bool) → eqb (suc n) 5 ≡ b → (listed ≡ suc n) ↔ Means (why_if_lem b (ListSmall → ⊥))
  listed_given r n true e = rw (eqb-true (suc n) 5 e) (descriptors_five_iff d s (list_descriptors s) (holes_at w) (whole r))
  listed_given r n false e = (
    descriptors_all d s (λ m. m ≡ suc n → ⊥) (list_descriptors s) (holes_at w) (whole r) (λ z. omega arith) (λ z. eqb-false (suc n) 5 e (sym z)),
    (λ z. absurd z),
  )

  abbrev listed_reasons : Answered → Reasons
  listed_reasons r =
      record {
        refusal = listed;
        None = ListSmall;
        why = λ n. why_if_lem (eqb n 5) (ListSmall → ⊥);
        none_iff = descriptors_none_iff d s (list_descriptors s) (holes_at w) (whole r);
        given_iff = λ n. listed_given r n (eqb (suc n) 5) refl;
      }

  -- what comes after In-Response-To
  abbrev rest : Later Answered
  rest =
      record {
        refusal = listed ▹ list_reasons.refusal;
        None = ListSmall × list_reasons.None;
        why = λ n. then_why (why_if_lem (eqb n 5) (ListSmall → ⊥)) ListSmall (list_reasons.why n);
        none_iff = λ r. (listed_reasons r ▸ list_reasons).none_iff;
        given_iff = λ r. (listed_reasons r ▸ list_reasons).given_iff;
      }

  -- what comes after the Id: of a failure STATUS nothing that follows is judged (R2.12)
  abbrev fields : Reasons
  fields =
      under (equal (status_of w) 0)
      (header.descriptor_reasons d (progress_at w) s ▸ followed (header.descriptor_reasons d (response_at w) s) rest)

  read_is : status_refusal s ≡ type_refusal 4 s ▹ fields.refusal
  unfolding status_refusal success_refusal descriptor_refusal list_refusal
  read_is = refl

  abbrev reasons : Reasons
  reasons = named (status_refusal s) (header.type_reasons 4 s ▸ fields) read_is

  -- 2, 3 and 4 come of what the packet begins with (header: LimitLaws)
  pub start_iff : (n : ℕ) → 2 ≤ n → n ≤ 4 → (status_refusal s ≡ n) ↔ (type_refusal 4 s ≡ n)
  start_iff = rw read_is (of_start (type_refusal 4 s) fields (λ z. z) (λ z. z) (λ z. z))

  -- no number above 11 is given
  pub status_le : status_refusal s ≤ 11
  unfolding status_refusal success_refusal list_refusal
  status_le =
      let P : ℕ → Type 0 = λ m. m ≤ 11 in
      let field : (at : ℕ) → P (descriptor_refusal d at s) = λ at. header.descriptor_all d at s P (omega arith) (omega arith) (omega arith) in
      chains.chain_all P (type_refusal 4 s) _ (omega (arith, header.type_le 4 s))
      (chains.when_all P (eqb (status_of w) 0) _ (omega arith)
      (chains.chain_all P (descriptor_refusal d (progress_at w) s) _ (field (progress_at w))
      (chains.chain_all P (descriptor_refusal d (response_at w) s) _ (field (response_at w))
      (chains.chain_all P listed _ (descriptors_some d s P (list_descriptors s) (holes_at w) (omega arith) (omega arith) (omega arith))
      (chains.link_all P (not (eqb (list_octets s % (2 * d)) 0)) 11 _ (omega arith) (chains.when_all P (not well) 11 (omega arith) (omega arith)))))))

  pub failure_start : (status_of w ≡ 0 → ⊥) → status_refusal s ≡ type_refusal 4 s
  unfolding status_refusal
  failure_start h = rw (ne_eqb (status_of w) 0 h) (chains.nothing_after (type_refusal 4 s))

  -- R9.5, of Progress, of In-Response-To, or of a descriptor of the list
  pub five_iff : (status_refusal s ≡ 5)
      ↔ (TypeFine 4 s × ((status_of w ≡ 0) × (((response_at w ≤ length s) × header.Large d (progress_at w) s)
      ⊎ (header.Readable d (progress_at w) s × (((response_at w + d ≤ length s) × header.Large d (response_at w) s) ⊎ (header.Readable d (response_at w) s × (ListSmall → ⊥)))))))
  five_iff = given reasons 5

  -- R9.1: the word or the Id, or then timestamp, Progress or In-Response-To
  pub one_iff : (status_refusal s ≡ 1)
      ↔ ((length s < start_octets w) ⊎ (TypeFine 4 s × ((status_of w ≡ 0) × ((length s < response_at w) ⊎ (header.Readable d (progress_at w) s × (length s < response_at w + d))))))
  one_iff = given reasons 1

  -- R9.11
  pub eleven_iff : (status_refusal s ≡ 11)
      ↔ (TypeFine 4 s × ((status_of w ≡ 0) × (header.Readable d (progress_at w) s × (header.Readable d (response_at w) s × (ListSmall × ListWrong)))))
  eleven_iff = given reasons 11

-- ---- the answers: refused with the number that these laws speak of

accepted_apart : (code : ℕ) (s : List ℕ) (r : Refusal) → accepted_status code s ≡ Err r → ⊥
accepted_apart zero s r e = let z : ◌≡◌ {A = ℕ} 0 1 = cc in omega arith
accepted_apart (suc code) s r e = let z : ◌≡◌ {A = ℕ} 0 1 = cc in omega arith

pub read_refused_iff : (s : List ℕ) (n : ℕ) → (read_status s ≡ Err (refusal_of (suc n))) ↔ (status_refusal s ≡ suc n)
unfolding read_status
read_refused_iff s n =
    chains.answered_iff Err (status_refusal s) n (accepted_status (status_of (word_of s)) s) (accepted_apart (status_of (word_of s)) s) (λ q r e. cc)
