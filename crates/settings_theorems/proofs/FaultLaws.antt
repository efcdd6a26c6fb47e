-- R18.9: what follows the first fault changes nothing, and every beginning of an accepted file is unfinished.
-- Assumes nothing.
use Prim.Native.Nat.{ℕ, zero, suc, ◌<◌}
use mathlib.Core.Path.{◌≡◌, refl, sym, ap, ◌∙◌}
use mathlib.Core.Bool.{Bool, true, false}
use mathlib.Core.List.{List, [], ◌∷◌, ◌++◌, append-nil}
use mathlib.Core.Logic.{⊎_elim}
use native.Mathlib.Omega.{arith}
use lib.ListN.{length, length-append}
use lib.Dec.{ltb, eqb}
use borrow.Author.Tests.{lt-ltb}
use Rattle.refusals.specs.Refusals.{◌▹◌, when, answered}
use Rattle.refusals.proofs.RefusalLaws.{stays}
use Rattle.varint.specs.Varint.{varint_refusal, varint_value, after_varint}
use Rattle.varint.proofs.LimitLaws.{refusal_longer, value_longer, after_longer}
use Rattle.settings.specs.Settings.{version_refusal, key_refusal}
use Rattle.settings.specs.declared.Settings.{Settings}
use Rattle.settings_pairs.specs.Pairs.{key_in, value_in, after_pair, pair_refusal}
use Rattle.settings_pairs.proofs.PairLaws.{value_part, PairFine, pair_fine}
use Rattle.settings_reader.specs.ReadSettings.{no_settings, with_pair, settings_from}
use Rattle.settings_theorems.specs.Theorems.{number_in, number_of, FaultDecides, BeginningUnfinished, NothingAfter}
use Rattle.settings_theorems.proofs.NumberLaws.{number_answered, number_is, pairs_number, number_all}
use Rattle.std.specs.Prelude.{Result, Ok, Err}
use Rattle.refusals.specs.declared.Refusal.{Refusal}

-- a chain in which each part stays as long as it isn't 1, and the same where its end becomes 25
chain_same : (a a' r r' : ℕ) → (a ▹ r ≡ 1 → ⊥) → ((a ≡ 1 → ⊥) → a' ≡ a) → (a ≡ 0 → (r ≡ 1 → ⊥) → r' ≡ r) → a' ▹ r' ≡ a ▹ r
chain_same zero a' r r' h f g = rw (f (λ e. omega arith)) (g refl h)
chain_same (suc a) a' r r' h f g = rw (f h)

chain_longer : (a a' r r' : ℕ) → (a ▹ r ≡ 1 → ⊥) → ((a ≡ 1 → ⊥) → a' ≡ a) → (a ≡ 0 → (r ≡ 1 → ⊥) → r' ≡ r ▹ 25) → a' ▹ r' ≡ (a ▹ r) ▹ 25
chain_longer zero a' r r' h f g = rw (f (λ e. omega arith)) (g refl h)
chain_longer (suc a) a' r r' h f g = rw (f h)

same_pairs : (v w m n : ℕ) (k l : List ℕ) → v ≡ w → m ≡ n → k ≡ l → number_in (settings_from v 0 (no_settings v) m k) ≡ number_in (settings_from w 0 (no_settings w) n l)
same_pairs v w m n k l a b c =
    let e : settings_from v 0 (no_settings v) m k ≡ settings_from w 0 (no_settings w) n l = rw (a, b, c) in
    ap (λ (r : Result Settings Refusal). number_in r) e

module _ (t : List ℕ) where
  value_longer_after : (version last : ℕ) (s : List ℕ) → varint_refusal s ≡ 0 → (value_part version last s ≡ 1 → ⊥)
      → value_part version last (s ++ t) ≡ value_part version last s
  value_longer_after version last s z i =
      rw (value_longer t s z, after_longer t s z)
      (chain_same (varint_refusal (after_varint s)) _ _ _ i (refusal_longer t (after_varint s)) (λ y j. rw (value_longer t (after_varint s) y)))

  pair_longer : (version last : ℕ) (s : List ℕ) → (pair_refusal version last s ≡ 1 → ⊥) → pair_refusal version last (s ++ t) ≡ pair_refusal version last s
  unfolding pair_refusal
  pair_longer version last s h =
      let key : List ℕ → ℕ = λ l. key_refusal version last (key_in l) in
      let value : List ℕ → ℕ = λ l. value_part version last l in
      chain_same (varint_refusal s) (varint_refusal (s ++ t)) (key s ▹ value s) (key (s ++ t) ▹ value (s ++ t)) h
      (refusal_longer t s)
      (λ z i. chain_same (key s) (key (s ++ t)) (value s) (value (s ++ t)) i (λ q. rw (value_longer t s z)) (λ y j. value_longer_after version last s z j))

  -- the pair is the same, and t follows what is left after it
  module _ (version last : ℕ) (s : List ℕ) (e : pair_refusal version last s ≡ 0) where
    fine : PairFine version last s
    fine = pair_fine version last s e

    key_longer : key_in (s ++ t) ≡ key_in s
    key_longer = value_longer t s fine.key_form

    value_in_longer : value_in (s ++ t) ≡ value_in s
    value_in_longer = rw (after_longer t s fine.key_form) (value_longer t (after_varint s) fine.value_form)

    after_pair_longer : after_pair (s ++ t) ≡ after_pair s ++ t
    after_pair_longer = rw (after_longer t s fine.key_form) (after_longer t (after_varint s) fine.value_form)

  module _ (some : 0 < length t) where
    walk_longer : (version last : ℕ) (got : Settings) (n : ℕ) (s : List ℕ) → (number_in (settings_from version last got n s) ≡ 1 → ⊥)
        → number_in (settings_from version last got n (s ++ t)) ≡ number_in (settings_from version last got n s) ▹ 25
    walk_longer version last got zero s h =
        rw (lt-ltb 0 (length (s ++ t)) (omega (arith, length-append s t)))
        (go (ltb 0 (length s)) (eqb got.largest 0))
      where
        go : (a b : Bool) → 25 ≡ number_in (answered Err (when a 25 ▹ when b 25) (Ok got)) ▹ 25
        go true b = refl
        go false true = refl
        go false false = refl
    walk_longer version last got (suc n) s h =
        let next = settings_from version (key_in s) (with_pair (key_in s) (value_in s) got) n (after_pair s) in
        let i : pair_refusal version last s ▹ number_in next ≡ 1 → ⊥ = λ q. h (number_answered (pair_refusal version last s) next ∙ q) in
        number_answered (pair_refusal version last (s ++ t)) _
        ∙ chain_longer (pair_refusal version last s) _ (number_in next) _ i (pair_longer version last s)
        (λ z j. rw (key_longer version last s z, value_in_longer version last s z, after_pair_longer version last s z)
        (walk_longer version (key_in s) (with_pair (key_in s) (value_in s) got) n (after_pair s) j))
        ∙ ap (λ (m : ℕ). m ▹ 25) (sym (number_answered (pair_refusal version last s) next))

    -- the pairs; the count and them; and the version before both
    pairs_longer : (known : ℕ) (s : List ℕ) → varint_refusal s ≡ 0 → varint_refusal (after_varint s) ≡ 0 → (pairs_number known s ≡ 1 → ⊥)
        → pairs_number known (s ++ t) ≡ pairs_number known s ▹ 25
    pairs_longer known s z x h =
        let n : varint_value (after_varint (s ++ t)) ≡ varint_value (after_varint s) = rw (after_longer t s z) (value_longer t (after_varint s) x) in
        let l : after_pair (s ++ t) ≡ after_pair s ++ t = rw (after_longer t s z) (after_longer t (after_varint s) x) in
        same_pairs _ _ _ _ _ _ (value_longer t s z) n l
        ∙ (walk_longer (varint_value s) 0 (no_settings (varint_value s)) (varint_value (after_varint s)) (after_pair s) h)

    count_longer : (known : ℕ) (s : List ℕ) → varint_refusal s ≡ 0 → (varint_refusal (after_varint s) ▹ pairs_number known s ≡ 1 → ⊥)
        → varint_refusal (after_varint (s ++ t)) ▹ pairs_number known (s ++ t) ≡ (varint_refusal (after_varint s) ▹ pairs_number known s) ▹ 25
    count_longer known s z h =
        chain_longer (varint_refusal (after_varint s)) (varint_refusal (after_varint (s ++ t))) (pairs_number known s) (pairs_number known (s ++ t)) h
        (λ q. rw (after_longer t s z) (refusal_longer t (after_varint s) q)) (λ x k. pairs_longer known s z x k)

    -- a file that isn't unfinished, with t after it: 25 where it was accepted, and else the same number
    file_longer : (known : ℕ) (s : List ℕ) → (number_of known s ≡ 1 → ⊥) → number_of known (s ++ t) ≡ number_of known s ▹ 25
    file_longer known s h =
        let unknown : List ℕ → ℕ = λ l. version_refusal known (varint_value l) in
        let counted : List ℕ → ℕ = λ l. varint_refusal (after_varint l) ▹ pairs_number known l in
        let i : varint_refusal s ▹ unknown s ▹ counted s ≡ 1 → ⊥ = λ q. h (number_is known s ∙ q) in
        number_is known (s ++ t)
        ∙ chain_longer (varint_refusal s) (varint_refusal (s ++ t)) (unknown s ▹ counted s) (unknown (s ++ t) ▹ counted (s ++ t)) i (refusal_longer t s)
        (λ z j. chain_longer (unknown s) (unknown (s ++ t)) (counted s) (counted (s ++ t)) j (λ q. rw (value_longer t s z)) (λ y k. count_longer known s z k))
        ∙ ap (λ (m : ℕ). m ▹ 25) (sym (number_is known s))

-- ---- the theorems

stays_refused : (known : ℕ) (s t : List ℕ) → (number_of known s ≡ 0 → ⊥) → (number_of known s ≡ 1 → ⊥) → number_of known (s ++ t) ≡ number_of known s
stays_refused known s [] z h = ap (λ (l : List ℕ). number_of known l) (append-nil s)
stays_refused known s (x ∷ xs) z h = file_longer (x ∷ xs) (omega arith) known s h ∙ stays (number_of known s) 25 z

pub fault_decides : FaultDecides
fault_decides known s t d =
    stays_refused known s t (⊎_elim (λ a z. omega arith) (λ a z. omega arith) d) (⊎_elim (λ a z. omega arith) (λ a z. omega arith) d)

pub nothing_after : NothingAfter
nothing_after known s t h e = file_longer t h known s (λ q. omega arith) ∙ rw e

pub beginning_unfinished : BeginningUnfinished
beginning_unfinished known s t h e =
    number_all known s (λ m. number_of known s ≡ m → m ≡ 1)
    (λ q. absurd (omega (arith, nothing_after known s t h q)))
    (λ q. refl)
    (λ q. absurd (omega (arith, stays_refused known s t (λ z. omega arith) (λ z. omega arith))))
    (λ q. absurd (omega (arith, stays_refused known s t (λ z. omega arith) (λ z. omega arith))))
    refl
