-- R1.7, R9.24, R9.25: the number that a reader gives a file: which ones come, when each of them does, and its code.
-- Assumes nothing.
use Prim.Native.Nat.{ℕ, zero, suc, ◌<◌}
use mathlib.Core.Path.{◌≡◌, refl, sym, ap, ◌∙◌}
use mathlib.Core.List.{List}
use mathlib.Core.Logic.Iff
use mathlib.Core.Logic.{◌⊎◌, inl, inr, ⊎_elim, ◌↔◌}
use native.Mathlib.Omega.{arith}
use lib.ListN.{length}
use lib.Dec.{ltb, eqb}
use Rattle.refusals.specs.Refusals.{◌▹◌, code_of, answered}
use Rattle.refusals.specs.declared.Refusal.{Refusal}
use Rattle.refusals.proofs.TestLaws.{both, either}
use Rattle.refusals.proofs.RefusalLaws.{when_all, chain_all, link_all, chain_iff}
use Rattle.refusals.proofs.LimitLaws.{chain_assoc, nothing_after}
use Rattle.varint.specs.Varint.{varint_refusal, varint_value, after_varint}
use Rattle.varint.proofs.LimitLaws.{refusal_all}
use Rattle.settings.specs.Settings.{version_refusal}
use Rattle.settings.specs.declared.Settings.{Settings}
use Rattle.settings.proofs.LimitLaws.{version_unknown_iff, version_all}
use Rattle.settings_pairs.specs.Pairs.{key_in, value_in, after_pair, pair_refusal}
use Rattle.settings_pairs.proofs.PairLaws.{pair_all}
use Rattle.settings_reader.specs.ReadSettings.{no_settings, with_pair, end_refusal, settings_from, head_refusal, read_settings}
use Rattle.settings_theorems.specs.Theorems.{number_in, number_of}
use Rattle.std.specs.Prelude.{Result, Ok, Err}

pub number_answered : (n : ℕ) (r : Result Settings Refusal) → number_in (answered Err n r) ≡ n ▹ number_in r
number_answered zero r = refl
number_answered (suc n) r = refl

-- ---- the pairs

module _ (version : ℕ) where
  -- the number k comes of the first pair that is refused or, where none is, of the end
  abbrev pub PairsGive : ℕ → ℕ → Settings → ℕ → List ℕ → Type 0
  PairsGive k last got zero s = end_refusal got s ≡ k
  PairsGive k last got (suc n) s =
      (pair_refusal version last s ≡ k)
      ⊎ ((pair_refusal version last s ≡ 0) × PairsGive k (key_in s) (with_pair (key_in s) (value_in s) got) n (after_pair s))

  pub pairs_iff : (k last : ℕ) (got : Settings) (n : ℕ) (s : List ℕ) → (k ≡ 0 → ⊥)
      → (number_in (settings_from version last got n s) ≡ k) ↔ PairsGive k last got n s
  pairs_iff k last got zero s h = rw (number_answered (end_refusal got s) (Ok got), nothing_after (end_refusal got s)) Iff.rfl
  pairs_iff k last got (suc n) s h =
      rw (number_answered (pair_refusal version last s) _)
      (Iff.trans (chain_iff (pair_refusal version last s) _ k h)
      (either Iff.rfl (both Iff.rfl (pairs_iff k (key_in s) (with_pair (key_in s) (value_in s) got) n (after_pair s) h))))

  pairs_all : (P : ℕ → Type 0) (last : ℕ) (got : Settings) (n : ℕ) (s : List ℕ) → P 0 → P 1 → P 25 → P (number_in (settings_from version last got n s))
  pairs_all P last got zero s z a b =
      rw (number_answered (end_refusal got s) (Ok got))
      (chain_all P (end_refusal got s) 0 (link_all P (ltb 0 (length s)) 25 _ b (when_all P (eqb got.largest 0) 25 z b)) z)
  pairs_all P last got (suc n) s z a b =
      rw (number_answered (pair_refusal version last s) _)
      (chain_all P (pair_refusal version last s) _ (pair_all version last s P z a b)
      (pairs_all P (key_in s) (with_pair (key_in s) (value_in s) got) n (after_pair s) z a b))

-- ---- the file

module _ (known : ℕ) (s : List ℕ) where
  abbrev v : ℕ
  v = varint_value s

  -- what the pairs give
  abbrev pub pairs_number : ℕ
  pairs_number = number_in (settings_from v 0 (no_settings v) (varint_value (after_varint s)) (after_pair s))

  -- the version's form, the version, the count's form, the pairs
  pub number_is : number_of known s ≡ varint_refusal s ▹ version_refusal known v ▹ varint_refusal (after_varint s) ▹ pairs_number
  unfolding read_settings head_refusal
  number_is =
      let a = varint_refusal s in
      let b = version_refusal known v in
      let c = varint_refusal (after_varint s) in
      number_answered (a ▹ b ▹ c) _ ∙ chain_assoc a (b ▹ c) pairs_number ∙ rw (chain_assoc b c pairs_number)

  -- R1.7: each number comes of the version or the count or, where these are not refused, of the pairs
  pub number_iff : (k : ℕ) → (k ≡ 0 → ⊥)
      → (number_of known s ≡ k)
      ↔ ((head_refusal known s ≡ k) ⊎ ((head_refusal known s ≡ 0) × PairsGive v k 0 (no_settings v) (varint_value (after_varint s)) (after_pair s)))
  unfolding read_settings
  number_iff k h =
      rw (number_answered (head_refusal known s) _)
      (Iff.trans (chain_iff (head_refusal known s) _ k h)
      (either Iff.rfl (both Iff.rfl (pairs_iff v k 0 (no_settings v) (varint_value (after_varint s)) (after_pair s) h))))

  later_all : (P : ℕ → Type 0) → P 0 → P 1 → P 25 → P (varint_refusal (after_varint s) ▹ pairs_number)
  later_all P z a b =
      chain_all P (varint_refusal (after_varint s)) _ (refusal_all P (after_varint s) z a b)
      (pairs_all v P 0 (no_settings v) (varint_value (after_varint s)) (after_pair s) z a b)

  pub number_all : (P : ℕ → Type 0) → P 0 → P 1 → P 24 → P 25 → P (number_of known s)
  number_all P z a c b =
      rw number_is
      (chain_all P (varint_refusal s) _ (refusal_all P s z a b) (chain_all P (version_refusal known v) _ (version_all known v P z c) (later_all P z a b)))

  -- R9.24: the version has its form, and is not known
  pub twenty_four_iff : (number_of known s ≡ 24) ↔ ((varint_refusal s ≡ 0) × ((v < 1) ⊎ ((known < v) ⊎ (2 < v))))
  twenty_four_iff =
      let P : ℕ → Type 0 = λ m. m ≡ 24 → ⊥ in
      let form : varint_refusal s ≡ 24 → ⊥ = refusal_all P s (λ e. omega arith) (λ e. omega arith) (λ e. omega arith) in
      let later : varint_refusal (after_varint s) ▹ pairs_number ≡ 24 → ⊥ = later_all P (λ e. omega arith) (λ e. omega arith) (λ e. omega arith) in
      rw number_is
      (Iff.trans (chain_iff (varint_refusal s) _ 24 (λ e. omega arith))
      (Iff.trans (⊎_elim (λ e. absurd (form e)) (λ p. p), inr)
      (both Iff.rfl
      (Iff.trans (chain_iff (version_refusal known v) _ 24 (λ e. omega arith))
      (Iff.trans (⊎_elim (λ e. e) (λ p. absurd (later p.1)), inl) (version_unknown_iff known v))))))

-- ---- R9.27: a refused file has code 0: nothing is sent

abbrev code_in : Result Settings Refusal → ℕ
code_in (Ok s) = 0
code_in (Err r) = r.code

code_answered : (n : ℕ) (r : Result Settings Refusal) → code_of n ≡ 0 → code_in r ≡ 0 → code_in (answered Err n r) ≡ 0
code_answered zero r e f = f
code_answered (suc n) r e f = e

abbrev Sendless : ℕ → Type 0
Sendless n = code_of n ≡ 0

pairs_code : (version last : ℕ) (got : Settings) (n : ℕ) (s : List ℕ) → code_in (settings_from version last got n s) ≡ 0
unfolding code_of
pairs_code version last got zero s =
    code_answered (end_refusal got s) (Ok got) (link_all Sendless (ltb 0 (length s)) 25 _ refl (when_all Sendless (eqb got.largest 0) 25 refl refl)) refl
pairs_code version last got (suc n) s =
    code_answered (pair_refusal version last s) _ (pair_all version last s Sendless refl refl refl)
    (pairs_code version (key_in s) (with_pair (key_in s) (value_in s) got) n (after_pair s))

pub code_none : (known : ℕ) (s : List ℕ) (r : Refusal) → read_settings known s ≡ Err r → r.code ≡ 0
unfolding read_settings head_refusal code_of
code_none known s r e =
    let v = varint_value s in
    let head : Sendless (head_refusal known s) =
    chain_all Sendless (varint_refusal s) _ (refusal_all Sendless s refl refl refl)
    (chain_all Sendless (version_refusal known v) _ (version_all known v Sendless refl refl) (refusal_all Sendless (after_varint s) refl refl refl)) in
    let z : code_in (read_settings known s) ≡ 0 =
    code_answered (head_refusal known s) _ head (pairs_code v 0 (no_settings v) (varint_value (after_varint s)) (after_pair s)) in
    ap code_in (sym e) ∙ z

-- ---- a file with the number 0 is taken

accepted_of : (n : ℕ) (r : Result Settings Refusal) → (number_in r ≡ 0 → (st : Settings) × (r ≡ Ok st)) → number_in (answered Err n r) ≡ 0
    → (st : Settings) × (answered Err n r ≡ Ok st)
accepted_of zero r f e = f e
accepted_of (suc n) r f e = absurd (omega arith)

pairs_accepted : (version last : ℕ) (got : Settings) (n : ℕ) (s : List ℕ) → number_in (settings_from version last got n s) ≡ 0
    → (st : Settings) × (settings_from version last got n s ≡ Ok st)
pairs_accepted version last got zero s e = accepted_of (end_refusal got s) (Ok got) (λ q. (got, refl)) e
pairs_accepted version last got (suc n) s e =
    let next = settings_from version (key_in s) (with_pair (key_in s) (value_in s) got) n (after_pair s) in
    accepted_of (pair_refusal version last s) next (λ q. pairs_accepted version (key_in s) (with_pair (key_in s) (value_in s) got) n (after_pair s) q) e

pub read_accepted : (known : ℕ) (s : List ℕ) → number_of known s ≡ 0 → (st : Settings) × (read_settings known s ≡ Ok st)
unfolding read_settings
read_accepted known s e =
    let v = varint_value s in
    let n = varint_value (after_varint s) in
    accepted_of (head_refusal known s) (settings_from v 0 (no_settings v) n (after_pair s)) (λ q. pairs_accepted v 0 (no_settings v) n (after_pair s) q) e
