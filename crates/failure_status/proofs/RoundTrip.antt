-- A failure STATUS reads back as it was written, and nothing after its Id matters. Assumes nothing.
use Prim.Native.Nat.{ℕ, ◌^◌, ◌<◌, ◌≤◌}
use mathlib.Core.Path.{◌≡◌, refl, sym, ap, ◌∙◌}
use mathlib.Core.List.{List}
use native.Mathlib.Omega.{arith}
use lib.ListN.{length, take, drop}
use lib.Seq.{length-take-le, take_at, take-take, take-add, drop_at}
use borrow.Author.Tests.{ne_eqb}
use Rattle.octets.specs.Numbers.{be_value}
use Rattle.octets.specs.Put.{put}
use Rattle.octets.proofs.NumberLaws.{value_digits}
use Rattle.header.specs.FirstWord.{status_of, word_for}
use Rattle.header.specs.Start.{word_of, id_of, type_refusal}
use Rattle.header.proofs.FirstWordLaws.{mark_for, type_for, flags_for}
use Rattle.header.proofs.StartLaws.{type_known, TypeFine, type_fine, type_none}
use Rattle.packet_status.specs.Status.{status_refusal, failure_of, read_status}
use Rattle.failure_status.specs.WriteFailure.{failure_write_refusal, failure_octets, failure_buffer}
use Rattle.packet_status.specs.declared.Status.TheVariants.{Failure}
use Rattle.packet_status.proofs.StatusLaws.{failure_accepted}
use Rattle.failure_status.proofs.FailureLaws.{FailureFine, failure_fine}
use Rattle.std.specs.Prelude.{Ok}

-- R2.12: what follows the Id of a failure STATUS is ignored
pub failure_ignores_rest : (s : List ℕ) → type_refusal 4 s ≡ 0 → (status_of (word_of s) ≡ 0 → ⊥) → read_status s ≡ Ok (Failure (failure_of s))
unfolding read_status status_refusal
failure_ignores_rest s e n = rw (e, ne_eqb (status_of (word_of s)) 0 n) (sym (failure_accepted (status_of (word_of s)) s n))

-- so the first 8 octets alone read the same
eight_word : (s : List ℕ) → word_of (take 8 s) ≡ word_of s
eight_word s = ap be_value (take-take 4 8 s (omega arith))

eight_id : (s : List ℕ) → 8 ≤ length s → id_of (take 8 s) ≡ id_of s
eight_id s h =
    ap (λ (l : List ℕ). be_value (take 4 (drop 4 l))) (take-add 4 4 s)
    ∙ ap (λ (l : List ℕ). be_value (take 4 l)) (drop_at (take 4 s) (take 4 (drop 4 s)) 4 (length-take-le 4 s (omega arith)))
    ∙ ap be_value (take-take 4 4 (drop 4 s) (omega arith))

eight_fine : (s : List ℕ) → TypeFine 4 s → TypeFine 4 (take 8 s)
eight_fine s f =
    let l : length (take 8 s) ≡ 8 = length-take-le 8 s f.long in
    type_known 4 (take 8 s) (omega arith) (rw eight_word f.start.mark) (rw eight_word f.ptype) (omega arith)

pub failure_first_eight : (s : List ℕ) → type_refusal 4 s ≡ 0 → (status_of (word_of s) ≡ 0 → ⊥) → read_status (take 8 s) ≡ read_status s
unfolding failure_of
failure_first_eight s e n =
    let f = type_fine 4 s e in
    failure_ignores_rest (take 8 s) (type_none 4 (take 8 s) (eight_fine s f)) (rw eight_word n)
    ∙ rw (eight_word, eight_id s f.long) (sym (failure_ignores_rest s e n))

-- what was written
module _ (id status room : ℕ) (e : failure_write_refusal id status room ≡ 0) where
  fine : FailureFine id status room
  fine = failure_fine id status room e

  pub failure_length : length (failure_octets id status) ≡ 8
  unfolding failure_octets
  failure_length = refl

  word : word_of (failure_octets id status) ≡ word_for 4 status
  unfolding failure_octets
  word = value_digits 4 (word_for 4 status) (omega (arith, fine))

  ident : id_of (failure_octets id status) ≡ id
  unfolding failure_octets
  ident = value_digits 4 id fine.id_fits

  typed : TypeFine 4 (failure_octets id status)
  typed =
      let s : status < 2 ^ 24 = omega (arith, fine) in
      type_known 4 (failure_octets id status) (rw failure_length (omega arith)) (rw word (mark_for 4 status (omega arith) s))
      (rw word (type_for 4 status (omega arith) s)) (rw failure_length (omega arith))

  pub failure_typed : type_refusal 4 (failure_octets id status) ≡ 0
  failure_typed = type_none 4 _ typed

  pub failure_read_written : read_status (failure_octets id status) ≡ Ok (Failure (record { flags = status; id = id; status = status }))
  unfolding failure_of
  failure_read_written =
      let h : status ≤ 255 = fine.status_fits in
      let c : status_of (word_for 4 status) ≡ status = omega arith in
      let n : status_of (word_of (failure_octets id status)) ≡ 0 → ⊥ = λ q. fine.some (sym c ∙ ap status_of (sym word) ∙ q) in
      failure_ignores_rest (failure_octets id status) failure_typed n
      ∙ rw (word, ident, c, flags_for 4 status (omega arith) (omega arith))

  -- and so from the buffer that the writer leaves
  pub failure_read_buffer : (old : List ℕ) → length old ≡ room
      → read_status (take 8 (failure_buffer id status old)) ≡ Ok (Failure (record { flags = status; id = id; status = status }))
  unfolding failure_buffer put
  failure_read_buffer old h =
      let z : failure_write_refusal id status (length old) ≡ 0 = rw h e in
      rw (z, take_at (failure_octets id status) _ 8 failure_length) failure_read_written
