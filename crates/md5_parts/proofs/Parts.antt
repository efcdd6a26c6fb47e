-- R16.11: the cuts do not matter, on lent octets of any length.
-- Assumes nothing.
use Prim.Native.Nat.{ℕ, ◌+◌, ◌≤◌, ◌<◌}
use mathlib.Core.Path.{◌≡◌, sym, ap, ◌∙◌}
use mathlib.Core.Logic.{⊎_elim}
use mathlib.Core.List.{List, [], ◌∷◌, ◌++◌, append_assoc, append-nil}
use native.Mathlib.Omega.{arith}
use lib.ListN.{length, drop, length-append}
use lib.Seq.{drop_at}
use Rattle.octets.specs.Put.{put}
use Rattle.md5_words.proofs.WordLaws.{Four}
use Rattle.md5_blocks.specs.Md5.{md5}
use Rattle.md5_state.specs.State.{state_octets, words_of, begun, fed, digest_of}
use Rattle.md5_state.proofs.StateLaws.{state_fine, state_short, long_or_short}
use Rattle.md5_feed.specs.Feed.{begin_state, add_state}
use Rattle.md5_digest.specs.End.{digest_written, digest_buffer}
use Rattle.md5_digest.proofs.EndLaws.{end_accepted}
use Rattle.md5_verdict.specs.Verdict.{verdict_refusal, check_md5}
use Rattle.md5_parts.specs.Parts.{add_all, joined, TwoAreOne, WholeMessage, CutsDoNotMatter}
use Rattle.md5_parts.proofs.FedLaws.{length_fed, fed_two, front_words, front_fed, front_digest, length_begun, begun_four, begun_fed_none, digest_fed, four_of}

-- ---- R16.8: a state, and what is lent past it, which stays

put_front : (b s : List ℕ) → length b ≡ state_octets → put 0 b s ≡ b ++ drop state_octets s
unfolding put
put_front b s e = let z : 0 + length b ≡ state_octets = omega arith in ap (λ (k : ℕ). b ++ drop k s) z

add_none : (s p : List ℕ) → length s < state_octets → add_state s p ≡ s
unfolding add_state
add_none s p h = rw (state_short s h)

module _ (s : List ℕ) (h : state_octets ≤ length s) where
  pub add_is : (p : List ℕ) → add_state s p ≡ fed s p ++ drop state_octets s
  unfolding add_state
  add_is p = rw (state_fine s h) (put_front (fed s p) s (length_fed s h p))

  pub begin_is : begin_state s ≡ begun ++ drop state_octets s
  unfolding begin_state
  begin_is = rw (state_fine s h) (put_front begun s length_begun)

module _ (b r : List ℕ) (e : length b ≡ state_octets) where
  pub joined_long : state_octets ≤ length (b ++ r)
  joined_long = omega (arith, length-append b r)

  add_front : (p : List ℕ) → add_state (b ++ r) p ≡ fed b p ++ r
  add_front p =
      add_is (b ++ r) joined_long p
      ∙ ap (λ (l : List ℕ). l ++ drop state_octets (b ++ r)) (front_fed b r e p)
      ∙ ap (λ (l : List ℕ). fed b p ++ l) (drop_at b r state_octets e)

-- ---- R16.11: two parts, and all

module _ (s : List ℕ) (h : state_octets ≤ length s) (f : Four (words_of s)) where
  add_two : (p q : List ℕ) → add_state (add_state s p) q ≡ add_state s (p ++ q)
  add_two p q =
      ap (λ (l : List ℕ). add_state l q) (add_is s h p)
      ∙ add_front (fed s p) (drop state_octets s) (length_fed s h p) q
      ∙ ap (λ (l : List ℕ). l ++ drop state_octets s) (fed_two s h p f q)
      ∙ sym (add_is s h (p ++ q))

  add_all_lem : (p : List ℕ) (ps : List (List ℕ)) → add_all (add_state s p) ps ≡ add_state s (p ++ joined ps)
  add_all_lem p [] = ap (λ (l : List ℕ). add_state s l) (sym (append-nil p))
  add_all_lem p (q ∷ ps) =
      ap (λ (l : List ℕ). add_all l ps) (add_two p q)
      ∙ add_all_lem (p ++ q) ps
      ∙ ap (λ (l : List ℕ). add_state s l) (append_assoc p q (joined ps))

pub two_are_one : TwoAreOne
two_are_one s p q o = ⊎_elim long short (long_or_short s)
  where
    long : state_octets ≤ length s → add_state (add_state s p) q ≡ add_state s (p ++ q)
    long h = add_two s h (four_of s h o) p q

    short : length s < state_octets → add_state (add_state s p) q ≡ add_state s (p ++ q)
    short h = ap (λ (l : List ℕ). add_state l q) (add_none s p h) ∙ add_none s q h ∙ sym (add_none s (p ++ q) h)

-- ---- R16.11: from beginning

module _ (s : List ℕ) (ps : List (List ℕ)) (h : state_octets ≤ length s) where
  r : List ℕ
  r = drop state_octets s

  all_added : add_all (begin_state s) ps ≡ fed begun (joined ps) ++ r
  unfolding r
  all_added =
      let four : Four (words_of (begun ++ r)) = rw (front_words begun r length_begun) begun_four in
      let none : begun ++ r ≡ add_state (begun ++ r) [] = ap (λ (l : List ℕ). l ++ r) begun_fed_none ∙ sym (add_front begun r length_begun []) in
      ap (λ (l : List ℕ). add_all l ps) (begin_is s h ∙ none)
      ∙ add_all_lem (begun ++ r) (joined_long begun r length_begun) four [] ps
      ∙ add_front begun r length_begun (joined ps)

  long : state_octets ≤ length (add_all (begin_state s) ps)
  long = rw all_added (joined_long (fed begun (joined ps)) r (fed_long (joined ps)))
    where
      fed_long : (m : List ℕ) → length (fed begun m) ≡ state_octets
      fed_long m = length_fed begun (omega (arith, length_begun)) m

  digest_is : digest_of (add_all (begin_state s) ps) ≡ md5 (joined ps)
  digest_is =
      ap (λ (l : List ℕ). digest_of l) all_added
      ∙ front_digest (fed begun (joined ps)) r (length_fed begun (omega (arith, length_begun)) (joined ps))
      ∙ digest_fed (joined ps)

  whole_message : WholeMessage s ps
  unfolding digest_written digest_buffer check_md5 verdict_refusal
  whole_message = record {
    size = λ out g. rw (end_accepted (add_all (begin_state s) ps) out long g);
    digest = λ out g. rw (end_accepted (add_all (begin_state s) ps) out long g, digest_is);
    verdict = λ packet. rw (state_fine (add_all (begin_state s) ps) long, digest_is);
  }

pub cuts_do_not_matter : CutsDoNotMatter
cuts_do_not_matter s ps h = whole_message s ps h
