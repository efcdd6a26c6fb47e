-- How far octets are alike: up to there all are received, or none is.
-- Assumes nothing.
use Prim.Native.Nat.{ℕ, suc, ◌≤◌, ◌<◌, min}
use mathlib.Core.Path.{◌≡◌}
use mathlib.Core.Bool.{Bool, true, false, cond}
use mathlib.Core.List.{List, [], ◌∷◌}
use mathlib.Core.Logic.{inl, inr, ⊎_elim}
use native.Mathlib.Omega.{arith}
use lib.Dec.{leb}
use borrow.Author.Tests.{leb-true, leb-false}
use Rattle.runs.specs.Runs.{Run, Within, Member, CanonicalFrom}
use Rattle.runs.proofs.CanonicalLaws.{member_from}
use Rattle.table.proofs.TableLaws.{by_test}
use Rattle.engine_stretch.specs.declared.Reach.{Reach}
use Rattle.engine_stretch.specs.Stretch.{reach, reach_from}

-- an offset is received, or is not
abbrev pub IsReceived : Bool → List Run → ℕ → Type 0
IsReceived true rs o = Member rs o
IsReceived false rs o = Member rs o → ⊥

pub record Reaches (rs : List Run) (a b : ℕ) (r : Reach) : Type 0 where
  pub some_octets : a < r.stop
  pub inside : r.stop ≤ b
  pub alike : (o : ℕ) → a ≤ o → o < r.stop → IsReceived r.received rs o

-- a run that stops before an offset says nothing of it
received_later : (c : Bool) (r : Run) (rs : List Run) (o : ℕ) → r.stop ≤ o → IsReceived c rs o → IsReceived c (r ∷ rs) o
received_later true r rs o l m = inr m
received_later false r rs o l n = ⊎_elim (λ (w : Within r o). absurd (omega arith)) n

pub reaches : (k : ℕ) (rs : List Run) (a b : ℕ) → CanonicalFrom k rs → a < b → Reaches rs a b (reach_from rs a b)
unfolding reach_from
reaches k [] a b c l = record { some_octets = l; inside = omega arith; alike = λ o h i m. m }
reaches k (r ∷ rs) a b c l =
    by_test (Reaches (r ∷ rs) a b) (leb r.stop a) (reach_from rs a b) _
    (λ t.
    let h : r.stop ≤ a = leb-true _ _ t in
    let later = reaches (suc r.stop) rs a b c.2 l in
    record {
      some_octets = later.some_octets;
      inside = later.inside;
      alike = λ o i j. received_later (reach_from rs a b).received r rs o (omega arith) (later.alike o i j);
    })
    (λ t.
    let h : a < r.stop = leb-false _ _ t in
    by_test (Reaches (r ∷ rs) a b) (leb r.start a) (reach true (min r.stop b)) (reach false (min r.start b))
    (λ u.
    let g : r.start ≤ a = leb-true _ _ u in
    record { some_octets = omega arith; inside = omega arith; alike = λ o i j. inl (omega arith, omega arith) })
    (λ u.
    let g : a < r.start = leb-false _ _ u in
    record {
      some_octets = omega arith;
      inside = omega arith;
      alike = λ o i j.
          ⊎_elim (λ (w : Within r o). omega arith)
          (λ (m : Member rs o). let z : suc r.stop ≤ o = member_from (suc r.stop) rs o c.2 m in omega arith);
    }))
