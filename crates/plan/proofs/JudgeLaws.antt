-- What is told of a plan, by the refusal. Assumes nothing.
use Prim.Native.Nat.{ℕ, zero, suc, ◌≤◌, ◌<◌}
use mathlib.Core.Path.{◌≡◌, refl, sym, ap, ◌∙◌}
use mathlib.Core.List.{List}
use native.Mathlib.Omega.{arith}
use lib.ListN.{length}
use lib.Dec.{ltb}
use borrow.Author.Tests.{lt-ltb, le-ltb}
use Rattle.std.specs.Prelude.{Ok, Err}
use Rattle.refusals.specs.Refusals.{◌▹◌, when}
use Rattle.refusals.specs.Faults.{number_of}
use Rattle.refusals.specs.declared.Fault.{Fault}
use Rattle.refusals.proofs.FaultLaws.{fault_some}
use Rattle.runs.specs.declared.Hole.{Hole}
use Rattle.plan.specs.Pieces.{plan_of}
use Rattle.plan.specs.Planning.{ToldPlan, planned_of, told_plan}
use Rattle.plan.specs.declared.Plan.{Plan}

pub planned_number : (n m : ℕ) (hs : List Hole) → (planned_of n m hs).number ≡ n
planned_number zero m hs = refl
planned_number (suc n) m hs = refl

pub planned_refused : (n m : ℕ) (hs : List Hole) → (n ≡ 0 → ⊥) → record { number = n; count = 0; holes = 0 } ≡ planned_of n m hs
planned_refused zero m hs h = absurd (h refl)
planned_refused (suc n) m hs h = refl

pub planned_fault : (f : Fault) (n m : ℕ) (hs : List Hole) → number_of f ≡ n → told_plan (Err f) ≡ planned_of n m hs
planned_fault f n m hs e = rw (sym e) (planned_refused (number_of f) m hs (fault_some f))

-- what an answer says of the refusal
pub fault_number : (f : Fault) (n m : ℕ) (hs : List Hole) → told_plan (Err f) ≡ planned_of n m hs → number_of f ≡ n
fault_number f n m hs e = ap (λ (t : ToldPlan). t.number) e ∙ planned_number n m hs

pub plan_number : (p : Plan) (n m : ℕ) (hs : List Hole) → told_plan (Ok p) ≡ planned_of n m hs → n ≡ 0
plan_number p n m hs e = sym (ap (λ (t : ToldPlan). t.number) e ∙ planned_number n m hs)

-- for so many records: 20 where the plan has more pieces
module _ (n room m : ℕ) (hs : List Hole) where
  abbrev roomy : ℕ
  roomy = n ▹ when (ltb room (length (plan_of m hs))) 20

  pub within_fault : (f : Fault) → told_plan (Err f) ≡ planned_of n m hs → told_plan (Err f) ≡ planned_of roomy m hs
  within_fault f e = go n (fault_number f n m hs e)
    where
      go : (k : ℕ) → number_of f ≡ k → told_plan (Err f) ≡ planned_of (k ▹ when (ltb room (length (plan_of m hs))) 20) m hs
      go zero z = absurd (fault_some f z)
      go (suc k) z = planned_fault f (suc k) m hs z

  pub within_room : (p : Plan) → told_plan (Ok p) ≡ planned_of n m hs → p.count ≤ room → told_plan (Ok p) ≡ planned_of roomy m hs
  within_room p e l =
      let z = plan_number p n m hs e in
      let f : told_plan (Ok p) ≡ planned_of 0 m hs = rw z at e in
      let c : p.count ≡ length (plan_of m hs) = ap (λ (t : ToldPlan). t.count) f in
      rw (z, le-ltb room (length (plan_of m hs)) (omega arith)) f

  pub within_more : (p : Plan) → told_plan (Ok p) ≡ planned_of n m hs → room < p.count → record { number = 20; count = 0; holes = 0 } ≡ planned_of roomy m hs
  within_more p e l =
      let z = plan_number p n m hs e in
      let f : told_plan (Ok p) ≡ planned_of 0 m hs = rw z at e in
      let c : p.count ≡ length (plan_of m hs) = ap (λ (t : ToldPlan). t.count) f in
      rw (z, lt-ltb room (length (plan_of m hs)) (omega arith))
