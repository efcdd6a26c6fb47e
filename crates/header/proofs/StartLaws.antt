-- What is known of a packet whose first refusals are none. Assumes nothing.
use Prim.Native.Nat.{ℕ, ◌≤◌}
use mathlib.Core.Path.{◌≡◌}
use mathlib.Core.Bool.{Bool, true, false, cond}
use mathlib.Core.List.{List}
use native.Mathlib.Omega.{arith}
use lib.ListN.{length}
use lib.Dec.{ltb, eqb}
use borrow.Author.Tests.{le-ltb, eq-eqb, ltb-false, eqb-true, not-false}
use Rattle.refusals.specs.Refusals.{when}
use Rattle.header.specs.FirstWord.{mark_of, type_of, kind_of}
use Rattle.header.specs.Start.{word_of, octets_of_type, start_octets, start_refusal, type_refusal, file_refusal}
use Rattle.refusals.proofs.RefusalLaws.{first_none, rest_none, failed}

-- a packet needs four octets at least, and eight at most
pub start_between : (w : ℕ) → (4 ≤ start_octets w) × (start_octets w ≤ 8)
start_between w = go (eqb (mark_of w) 1) (eqb (type_of w) 0)
  where
    go : (m t : Bool) → (4 ≤ cond m (cond t 4 8) 8) × (cond m (cond t 4 8) 8 ≤ 8)
    go true true = (omega arith, omega arith)
    go true false = (omega arith, omega arith)
    go false t = (omega arith, omega arith)

-- where a packet begins 0 1, its type decides
pub start_octets_lem : (w : ℕ) → mark_of w ≡ 1 → start_octets w ≡ octets_of_type (type_of w)
start_octets_lem w e = rw (eq-eqb (mark_of w) 1 e)

pub record StartFine (s : List ℕ) : Type 0 where
  pub short : length s ≤ 65535
  pub mark : mark_of (word_of s) ≡ 1
  pub long : octets_of_type (type_of (word_of s)) ≤ length s

pub start_fine : (s : List ℕ) → start_refusal s ≡ 0 → StartFine s
unfolding start_refusal
start_fine s e =
    let r1 = rest_none (when (ltb 65535 (length s)) 2) _ e in
    let r2 = rest_none (when (ltb (length s) (start_octets (word_of s))) 1) _ r1 in
    let m : mark_of (word_of s) ≡ 1 = eqb-true _ _ (not-false _ (failed _ 2 r2)) in
    record {
      short = ltb-false _ _ (failed _ 1 (first_none _ _ e));
      mark = m;
      long = rw (start_octets_lem (word_of s) m) at (ltb-false (length s) (start_octets (word_of s)) (failed _ 0 (first_none _ _ r1)));
    }

-- the word is there
pub start_word : (s : List ℕ) → start_refusal s ≡ 0 → 4 ≤ length s
start_word s e = let f = start_fine s e in omega (arith, f.long, rw (start_octets_lem (word_of s) f.mark) at (start_between (word_of s)))

pub record TypeFine (t : ℕ) (s : List ℕ) : Type 0 where
  pub start : StartFine s
  pub ptype : type_of (word_of s) ≡ t
  pub long : octets_of_type t ≤ length s

pub type_fine : (t : ℕ) (s : List ℕ) → type_refusal t s ≡ 0 → TypeFine t s
unfolding type_refusal
type_fine t s e =
    let f = start_fine s (first_none _ _ e) in
    let p : type_of (word_of s) ≡ t = eqb-true _ _ (not-false _ (failed _ 3 (rest_none (start_refusal s) _ e))) in
    record { start = f; ptype = p; long = rw p at f.long }

-- the word is there
pub type_word : (t : ℕ) (s : List ℕ) → type_refusal t s ≡ 0 → 4 ≤ length s
unfolding type_refusal
type_word t s e = start_word s (first_none _ _ e)

-- and so is the Id, where the type has one
pub type_long : (t : ℕ) (s : List ℕ) → type_refusal t s ≡ 0 → octets_of_type t ≤ length s
type_long t s e = (type_fine t s e).long

pub type_known : (t : ℕ) (s : List ℕ) → length s ≤ 65535 → mark_of (word_of s) ≡ 1 → type_of (word_of s) ≡ t → octets_of_type t ≤ length s → TypeFine t s
type_known t s short mark ptype long = record { start = record { short = short; mark = mark; long = rw ptype long }; ptype = ptype; long = long }

-- what is known of a packet whose first refusals are none is enough for them to be none
pub type_none : (t : ℕ) (s : List ℕ) → TypeFine t s → type_refusal t s ≡ 0
unfolding type_refusal start_refusal
type_none t s f =
    rw (
      le-ltb 65535 (length s) f.start.short,
      le-ltb (length s) (start_octets (word_of s)) (rw (start_octets_lem (word_of s) f.start.mark) f.start.long),
      eq-eqb (mark_of (word_of s)) 1 f.start.mark,
      eq-eqb (type_of (word_of s)) t f.ptype,
    )

-- what is known of a first word, or flags, of METADATA and DATA
pub file_fine : (w : ℕ) → file_refusal w ≡ 0 → kind_of w ≡ 0
unfolding file_refusal
file_fine w e = eqb-true _ _ (not-false _ (failed _ 5 e))
