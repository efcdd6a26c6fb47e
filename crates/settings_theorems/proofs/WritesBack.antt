-- R18.12: a file that was read is written again octet for octet: what each pair adds to the settings, and to their octets.
-- Assumes nothing.
use Prim.Native.Nat.{ℕ, zero, suc, ◌+◌, ◌<◌, ◌≤◌}
use mathlib.Core.Path.{◌≡◌, refl, sym, ap, ◌∙◌}
use mathlib.Core.Bool.{Bool, true, false, not}
use mathlib.Core.List.{List, [], ◌∷◌, ◌++◌, append_assoc, append-nil}
use mathlib.Core.Logic.{⊎_elim}
use native.Mathlib.Nat.{eq-zero-or-pos}
use native.Mathlib.Omega.{arith}
use lib.ListN.{length}
use lib.Dec.{ltb, eqb}
use borrow.Author.Tests.{eq-eqb, ne_eqb, le-ltb, ltb-false, eqb-false}
use Rattle.octets.specs.Numbers.{Octets}
use Rattle.octets.proofs.NumberLaws.{octets_drop}
use Rattle.refusals.specs.Refusals.{when, answered}
use Rattle.refusals.specs.Tests.{bit}
use Rattle.refusals.proofs.TestLaws.{bit_le}
use Rattle.refusals.proofs.RefusalLaws.{first_none, rest_none, failed}
use Rattle.varint.specs.Varint.{varint_octets, varint_value, varint_size, after_varint}
use Rattle.varint.proofs.ReadLaws.{varint_whole}
use Rattle.settings.specs.Settings.{highest_key, value_refusal}
use Rattle.settings.specs.declared.Settings.{Settings}
use Rattle.settings.proofs.LimitLaws.{version_known_iff, highest_le, payload_iff}
use Rattle.settings_pairs.specs.Pairs.{key_in, value_in, after_pair}
use Rattle.settings_pairs.proofs.PairLaws.{PairFine, pair_fine}
use Rattle.settings_reader.specs.ReadSettings.{no_settings, with_pair, end_refusal, settings_from, head_refusal, read_settings}
use Rattle.settings_reader.proofs.FileLaws.{HeadFine, head_fine}
use Rattle.settings_writer.specs.WriteSettings.{option_refusal, settings_refusal, pair_octets, option_octets, pair_count, settings_octets, settings_write_refusal, settings_written, settings_buffer}
use Rattle.settings_writer.proofs.LimitLaws.{taken_given, left_out_iff, settings_none}
use Rattle.settings_theorems.specs.Theorems.{WritesBack}
use Rattle.std.specs.Prelude.{Result, Ok, Err}
use Rattle.refusals.specs.declared.Refusal.{Refusal}

-- an answer that accepts was not refused
accepted_given : (n : ℕ) (r : Result Settings Refusal) (st : Settings) → answered Err n r ≡ Ok st → (n ≡ 0) × (r ≡ Ok st)
accepted_given zero r st e = (refl, e)
accepted_given (suc n) r st e = absurd (let z : ◌≡◌ {A = ℕ} 0 1 = cc in omega arith)

accepted_same : (a b : Settings) → ◌≡◌ {A = Result Settings Refusal} (Ok a) (Ok b) → a ≡ b
accepted_same a b e = cc

-- ---- the pairs read so far, each of which may be missing yet

abbrev has_largest : Settings → Bool
has_largest g = not (eqb g.largest 0)

-- their octets, and how many there are
abbrev got_octets : Settings → List ℕ
got_octets g = option_octets (has_largest g) 1 g.largest ++ (option_octets g.timed 2 g.interval ++ option_octets g.paired 3 g.partner)

abbrev got_count : Settings → ℕ
got_count g = bit (has_largest g) + (bit g.timed + bit g.paired)

-- the values are such as a file may hold
record Fits (version : ℕ) (g : Settings) : Type 0 where
  pub same_version : g.version ≡ version
  pub first : 0 < g.largest → value_refusal 1 g.largest ≡ 0
  pub second : option_refusal version g.timed 2 g.interval ≡ 0
  pub third : option_refusal version g.paired 3 g.partner ≡ 0

-- no key is above the last one
record Held (version last : ℕ) (g : Settings) : Type 0 where
  pub fits : Fits version g
  pub one : last < 1 → g.largest ≡ 0
  pub two : last < 2 → g.timed ≡ false
  pub three : last < 3 → g.paired ≡ false

nothing_held : (version : ℕ) → Held version 0 (no_settings version)
nothing_held version =
    record {
      fits = record { same_version = refl; first = λ h. absurd (omega arith); second = (left_out_iff version 2 0).1 refl; third = (left_out_iff version 3 0).1 refl };
      one = λ h. refl;
      two = λ h. refl;
      three = λ h. refl;
    }

-- ---- one pair more

record Grown (version key value : ℕ) (g : Settings) : Type 0 where
  pub held : Held version key (with_pair key value g)
  pub octets : got_octets (with_pair key value g) ≡ got_octets g ++ pair_octets key value
  pub count : got_count (with_pair key value g) ≡ suc (got_count g)

grown : (version last key value : ℕ) (g : Settings) → Held version last g → last < key → key ≤ highest_key version → value_refusal key value ≡ 0
    → Grown version key value g
unfolding with_pair
grown version last zero value g i r h f = absurd (omega arith)
grown version last (suc zero) value g i r h f =
    let t1 : eqb g.largest 0 ≡ true = eq-eqb g.largest 0 (i.one (omega arith)) in
    let t2 : g.timed ≡ false = i.two (omega arith) in
    let t3 : g.paired ≡ false = i.three (omega arith) in
    let n1 : eqb value 0 ≡ false = ne_eqb value 0 (λ z. omega (arith, ((payload_iff value).0 f).0)) in
    record {
      held = record {
        fits = record { same_version = i.fits.same_version; first = λ p. f; second = i.fits.second; third = i.fits.third };
        one = λ p. absurd (omega arith);
        two = λ p. t2;
        three = λ p. t3;
      };
      octets = rw (n1, t1, t2, t3) (append-nil (pair_octets 1 value));
      count = rw (n1, t1, t2, t3);
    }
grown version last (suc (suc zero)) value g i r h f =
    let t2 : g.timed ≡ false = i.two (omega arith) in
    let t3 : g.paired ≡ false = i.three (omega arith) in
    record {
      held = record {
        fits = record { same_version = i.fits.same_version; first = i.fits.first; second = taken_given version 2 value (omega arith) h f; third = i.fits.third };
        one = λ p. absurd (omega arith);
        two = λ p. absurd (omega arith);
        three = λ p. t3;
      };
      octets = rw (t2, t3) (simp (append-nil, append_assoc));
      count = rw (t2, t3) (omega arith);
    }
grown version last (suc (suc (suc zero))) value g i r h f =
    let t3 : g.paired ≡ false = i.three (omega arith) in
    record {
      held = record {
        fits = record { same_version = i.fits.same_version; first = i.fits.first; second = i.fits.second; third = taken_given version 3 value (omega arith) h f };
        one = λ p. absurd (omega arith);
        two = λ p. absurd (omega arith);
        three = λ p. absurd (omega arith);
      };
      octets = rw t3 (simp (append-nil, append_assoc));
      count = rw t3 (omega arith);
    }
grown version last (suc (suc (suc (suc key)))) value g i r h f = absurd (omega (arith, highest_le version))

-- ---- all pairs: what is left is what the settings have more

record Kept (version : ℕ) (g : Settings) (n : ℕ) (s : List ℕ) (st : Settings) : Type 0 where
  pub fits : Fits version st
  pub some : 0 < st.largest
  pub octets : got_octets g ++ s ≡ got_octets st
  pub count : got_count g + n ≡ got_count st

empty : (s : List ℕ) → length s ≤ 0 → s ≡ []
empty [] h = refl
empty (x ∷ xs) h = absurd (omega arith)

-- nothing is left
kept_end : (version : ℕ) (g st : Settings) (s : List ℕ) → g ≡ st → Fits version g → end_refusal g s ≡ 0 → Kept version g 0 s st
kept_end version g st s q f e =
    let z : s ≡ [] = empty s (ltb-false 0 (length s) (failed (ltb 0 (length s)) 24 (first_none _ _ e))) in
    let p : g.largest ≡ 0 → ⊥ = eqb-false _ _ (failed (eqb g.largest 0) 24 (rest_none (when (ltb 0 (length s)) 25) _ e)) in
    let h : 0 < g.largest = ⊎_elim (λ n. absurd (p n)) (λ m. m) (eq-zero-or-pos g.largest) in
    let n : got_count g + 0 ≡ got_count g = omega arith in
    record {
      fits = rw (← q) f;
      some = rw (← q) h;
      octets = (rw z (append-nil (got_octets g))) ∙ ap (λ (x : Settings). got_octets x) q;
      count = n ∙ ap (λ (x : Settings). got_count x) q;
    }

-- a pair's octets, and what is left after it
pair_whole : (version last : ℕ) (s : List ℕ) → Octets s → PairFine version last s → pair_octets (key_in s) (value_in s) ++ after_pair s ≡ s
pair_whole version last s o p =
    append_assoc (varint_octets (key_in s)) (varint_octets (value_in s)) (after_pair s)
    ∙ ap (λ (l : List ℕ). varint_octets (key_in s) ++ l) (varint_whole (after_varint s) (octets_drop (varint_size s) s o) p.value_form)
    ∙ varint_whole s o p.key_form

kept : (version last : ℕ) (g : Settings) (n : ℕ) (s : List ℕ) (st : Settings) → Octets s → Held version last g
    → settings_from version last g n s ≡ Ok st → Kept version g n s st
kept version last g zero s st o i e =
    let a = accepted_given _ _ _ e in
    kept_end version g st s (accepted_same g st a.1) i.fits a.0
kept version last g (suc n) s st o i e =
    let a = accepted_given _ _ _ e in
    let p : PairFine version last s = pair_fine version last s a.0 in
    let w : Grown version (key_in s) (value_in s) g = grown version last (key_in s) (value_in s) g i p.rises p.had p.fits in
    let o1 : Octets (after_varint s) = octets_drop (varint_size s) s o in
    let k : Kept version (with_pair (key_in s) (value_in s) g) n (after_pair s) st =
    kept version (key_in s) (with_pair (key_in s) (value_in s) g) n (after_pair s) st (octets_drop (varint_size (after_varint s)) (after_varint s) o1) w.held a.1 in
    record {
      fits = k.fits;
      some = k.some;
      octets =
          ap (λ (l : List ℕ). got_octets g ++ l) (sym (pair_whole version last s o p))
          ∙ sym (append_assoc (got_octets g) (pair_octets (key_in s) (value_in s)) (after_pair s))
          ∙ ap (λ (l : List ℕ). l ++ after_pair s) (sym w.octets)
          ∙ k.octets;
      count = omega (arith, w.count, k.count);
    }

-- ---- the file

module _ (known : ℕ) (s : List ℕ) (st : Settings) (o : Octets s) (e : read_settings known s ≡ Ok st) where
  given : (head_refusal known s ≡ 0)
      × (settings_from (varint_value s) 0 (no_settings (varint_value s)) (varint_value (after_varint s)) (after_pair s) ≡ Ok st)
  unfolding read_settings
  given = accepted_given _ _ _ e

  head : HeadFine known s
  head = head_fine known s given.0

  rest : Octets (after_varint s)
  rest = octets_drop (varint_size s) s o

  pairs : Kept (varint_value s) (no_settings (varint_value s)) (varint_value (after_varint s)) (after_pair s) st
  pairs =
      kept (varint_value s) 0 (no_settings (varint_value s)) (varint_value (after_varint s)) (after_pair s) st (octets_drop (varint_size (after_varint s)) (after_varint s) rest)
      (nothing_held (varint_value s)) given.1

  payload : eqb st.largest 0 ≡ false
  payload = ne_eqb st.largest 0 (λ z. omega (arith, pairs.some))

  -- the version and the count of the file are those of the settings
  version_read : st.version ≡ varint_value s
  version_read = pairs.fits.same_version

  pub version_le : st.version ≤ known
  version_le = rw version_read ((version_known_iff known (varint_value s)).0 head.taken).1.0

  count_read : pair_count st ≡ varint_value (after_varint s)
  count_read = omega (arith, rw payload at pairs.count)

  -- R18.6: a count above 3 is never accepted
  pub count_le : varint_value (after_varint s) ≤ 3
  count_le = omega (arith, count_read, bit_le st.timed, bit_le st.paired)

  pub same_octets_lem : settings_octets st ≡ s
  unfolding settings_octets
  same_octets_lem =
      let q : pair_octets 1 st.largest ++ (option_octets st.timed 2 st.interval ++ option_octets st.paired 3 st.partner) ≡ after_pair s =
      sym (rw payload at pairs.octets) in
      rw (version_read, count_read, q, varint_whole (after_varint s) rest head.count_form) (varint_whole s o head.form)

  -- a file holds them, so the writer does not refuse them
  pub read_fine : settings_refusal st ≡ 0
  read_fine =
      let k = (version_known_iff known (varint_value s)).0 head.taken in
      settings_none st
      (record {
        version = rw version_read ((version_known_iff 2 (varint_value s)).1 (k.0, (k.1.1, k.1.1)));
        first = pairs.fits.first pairs.some;
        second = rw version_read pairs.fits.second;
        third = rw version_read pairs.fits.third;
      })

pub writes_back : WritesBack
unfolding settings_written settings_buffer settings_write_refusal
writes_back known file st buffer o e room =
    let same : settings_octets st ≡ file = same_octets_lem known file st o e in
    let none : settings_write_refusal st (length buffer) ≡ 0 = rw (read_fine known file st o e, same, le-ltb (length buffer) (length file) room) in
    record {
      size = rw (none, same);
      octets = rw (none, same);
    }
