-- What is known of a failure STATUS that may be written, and how its octets come into a buffer. Assumes nothing.
use Prim.Native.Nat.{ℕ, ◌^◌, ◌<◌, ◌≤◌}
use mathlib.Core.Path.{◌≡◌, refl}
use mathlib.Core.Bool.{not}
use mathlib.Core.List.{List}
use lib.ListN.{length}
use lib.Dec.{ltb, eqb}
use borrow.Author.Tests.{ltb-true, ltb-false, eqb-false, not-false}
use Rattle.octets.specs.Numbers.{be_digits}
use Rattle.octets.specs.Put.{put}
use Rattle.octets.proofs.PutLaws.{put_next}
use Rattle.refusals.specs.Refusals.{when}
use Rattle.header.specs.FirstWord.{word_for}
use Rattle.refusals.proofs.RefusalLaws.{first_none, rest_none, failed}
use Rattle.failure_status.specs.WriteFailure.{failure_write_refusal, failure_octets}

pub record FailureFine (id status room : ℕ) : Type 0 where
  pub id_fits : id < 2 ^ 32
  pub some : status ≡ 0 → ⊥
  pub status_fits : status ≤ 255
  pub fits : 8 ≤ room

pub failure_fine : (id status room : ℕ) → failure_write_refusal id status room ≡ 0 → FailureFine id status room
unfolding failure_write_refusal
failure_fine id status room e =
    let r1 = rest_none (when (not (ltb id (2 ^ 32))) 21) _ e in
    let r2 = rest_none (when (eqb status 0) 21) _ r1 in
    let r3 = rest_none (when (ltb 255 status) 21) _ r2 in
    record {
      id_fits = ltb-true _ _ (not-false _ (failed _ 20 (first_none _ _ e)));
      some = eqb-false _ _ (failed _ 20 (first_none _ _ r1));
      status_fits = ltb-false _ _ (failed _ 20 (first_none _ _ r2));
      fits = ltb-false _ _ (failed _ 19 r3);
    }

-- the word, and then the Id
pub failure_put : (id status : ℕ) (old : List ℕ) → 8 ≤ length old
    → put 4 (be_digits 4 id) (put 0 (be_digits 4 (word_for 4 status)) old) ≡ put 0 (failure_octets id status) old
unfolding failure_octets
failure_put id status old h = put_next 0 4 (be_digits 4 (word_for 4 status)) (be_digits 4 id) old refl h
