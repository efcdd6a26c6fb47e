-- What an answer says, and what a report: both are of `synced`.
-- Assumes nothing.
use Prim.Native.Nat.{ℕ, suc}
use mathlib.Core.Path.{◌≡◌, refl, ap, subst, ◌∙◌}
use mathlib.Core.Bool.{Bool, true, false, cond}
use mathlib.Core.List.{List, [], ◌∷◌}
use mathlib.Core.Logic.{inl, inr}
use mathlib.Core.Option.{Option, none, some}
use native.Mathlib.Omega.{arith}
use borrow.Author.Tests.{eqb-true}
use lib.Dec.{eqb}
use Rattle.refusals.proofs.TestLaws.{and_iff}
use Rattle.packet_data.specs.Data.{read_data}
use Rattle.runs.specs.Runs.{Run}
use Rattle.transfer.specs.declared.Key.{Key}
use Rattle.engine_slots.specs.declared.Sender.{Sender}
use Rattle.engine_slots.specs.declared.Look.{Look}
use Rattle.engine_slots.specs.declared.Look.TheVariants as look
use Rattle.engine_slots.specs.declared.Meeting.{Meeting}
use Rattle.engine_slots.specs.declared.Meeting.TheVariants as meeting
use Rattle.engine_model.specs.Snapshots.{Snapshot, key_in, slot_of, file_of, received, is_complete}
use Rattle.engine_model.specs.Stretches.{look_data}
use Rattle.engine_model.specs.Meetings.{meet}
use Rattle.engine_model.specs.Engine.{Engine, Event, opening, storing, closing, answering, naming, reporting, syncing, good, bad, crash, Action, write, sync, answer, report, actions, made_of, write_of, answer_of, may_name, name_of, may_report, report_of, may_sync}
use Rattle.engine_model.specs.Claims.{In}
use Rattle.std.specs.Prelude.{Result, Ok, Err}
use Rattle.refusals.specs.declared.Refusal.{Refusal}
use Rattle.packet_data.specs.declared.Data.{Data}

-- an answer has the received offsets of `synced`
pub record Says (e : Engine) (i f : ℕ) (rs : List Run) : Type 0 where
  pub file_is : file_of e.synced i ≡ f
  pub runs_are : received e.synced i ≡ rs

-- a report is of a transfer that is complete there, and has its name
pub record Completes (e : Engine) (i f l : ℕ) : Type 0 where
  pub key : Key
  pub found : key_in e.synced i ≡ some key
  pub file_is : file_of e.synced i ≡ f
  pub length_is : key.length ≡ l
  pub all : is_complete e.synced i ≡ true
  pub named : (slot_of e.synced i).named ≡ 1

-- ---- of the events that do neither, each action is another

abbrev Loud : Action → Type 0
Loud (write i f p q) = ⊥
Loud (sync n) = ⊥
Loud (answer i f to rs) = Unit
Loud (report i f l) = Unit

module _ (a : Action) (loud : Loud a) where
  not_one : (b : Action) → (Loud b → ⊥) → In a (b ∷ []) → ⊥
  not_one b n (inl e) = n (subst Loud e loud)
  not_one b n (inr m) = m

  not_made : (y : Result Meeting Refusal) → In a (made_of y) → ⊥
  unfolding made_of
  not_made (Ok (meeting.Make f)) m = not_one (write _ _ _ _) (λ x. x) m
  not_made (Err r) m = m
  not_made (Ok meeting.Wait) m = m
  not_made (Ok (meeting.Kept f)) m = m
  not_made (Ok (meeting.Ended f)) m = m

  not_stored : (p : List ℕ) (d : Result Data Refusal) (y : Result Look Refusal) → In a (write_of p d y) → ⊥
  unfolding write_of
  not_stored p (Ok d) (Ok (look.New x)) m = not_one (write _ _ _ _) (λ x. x) m
  not_stored p (Ok d) (Ok (look.Known x)) m = m
  not_stored p (Ok d) (Ok look.Over) m = m
  not_stored p (Ok d) (Ok look.Stranger) m = m
  not_stored p (Ok d) (Err r) m = m
  not_stored p (Err r) y m = m

  not_named : (b : Bool) (e : Engine) (i : ℕ) → In a (name_of b e i) → ⊥
  unfolding name_of
  not_named true e i m = not_one (write _ _ _ _) (λ x. x) m
  not_named false e i m = m

  not_sync : (b : Bool) (n : ℕ) → In a (cond b (sync n ∷ []) []) → ⊥
  not_sync true n m = not_one (sync n) (λ x. x) m
  not_sync false n m = m

  only_told : (e : Engine) (x : Event) (P : Type 0) → ((i : ℕ) → In a (answer_of (key_in e.synced i) e.synced i) → P)
      → ((i : ℕ) → In a (report_of (may_report e i) (key_in e.synced i) e.synced i) → P) → In a (actions e x) → P
  unfolding actions
  only_told e (opening t r p x) P k l m = absurd (not_made (meet e.now e.next p.octets) m)
  only_told e (storing t r p from x) P k l m =
      absurd (not_stored p.octets (read_data p.octets) (look_data e.now r p.octets from) m)
  only_told e (closing i s) P k l m = absurd m
  only_told e (answering i) P k l m = k i m
  only_told e (naming i x) P k l m = absurd (not_named (may_name e i) e i m)
  only_told e (reporting i) P k l m = l i m
  only_told e (syncing t) P k l m = absurd (not_sync (may_sync e) (suc e.number) m)
  only_told e (good n) P k l m = absurd m
  only_told e (bad n b c) P k l m = absurd m
  only_told e (crash b c n k) P g l m = absurd m

-- ---- answers

says : (e : Engine) (i f : ℕ) (to : Sender) (rs : List Run) (j : ℕ) (y : Option Key) → In (answer i f to rs) (answer_of y e.synced j) → Says e i f rs
unfolding answer_of
says e i f to rs j none m = absurd m
says e i f to rs j (some k) (inl q) =
    let z : i ≡ j = cc in
    record { file_is = ap (λ (x : ℕ). file_of e.synced x) z ∙ cc; runs_are = ap (λ (x : ℕ). received e.synced x) z ∙ cc }
says e i f to rs j (some k) (inr m) = absurd m

never_answers : (i f : ℕ) (to : Sender) (rs : List Run) (b : Bool) (y : Option Key) (s : Snapshot) (j : ℕ) → In (answer i f to rs) (report_of b y s j) → ⊥
unfolding report_of
never_answers i f to rs true (some k) s j (inl q) = let z : ◌≡◌ {A = ℕ} 0 1 = cc in omega arith
never_answers i f to rs true (some k) s j (inr m) = m
never_answers i f to rs true none s j m = m
never_answers i f to rs false y s j m = m

pub answer_says : (e : Engine) (x : Event) (i f : ℕ) (to : Sender) (rs : List Run) → In (answer i f to rs) (actions e x) → Says e i f rs
answer_says e x i f to rs m =
    only_told (answer i f to rs) tt e x (Says e i f rs) (λ j y. says e i f to rs j (key_in e.synced j) y)
    (λ j y. absurd (never_answers i f to rs (may_report e j) (key_in e.synced j) e.synced j y)) m

-- ---- reports

-- what may be reported is complete, and has its name
pub may_report_lem : (e : Engine) (i : ℕ) → may_report e i ≡ true → (is_complete e.synced i ≡ true) × ((slot_of e.synced i).named ≡ 1)
unfolding may_report
may_report_lem e i t =
    let a = (and_iff (is_complete e.synced i) (eqb (slot_of e.synced i).named 1)).0 t in
    (a.0, eqb-true (slot_of e.synced i).named 1 a.1)

completes : (e : Engine) (i f l j : ℕ) (b : Bool) (y : Option Key) → may_report e j ≡ b → key_in e.synced j ≡ y
    → In (report i f l) (report_of b y e.synced j) → Completes e i f l
unfolding report_of
completes e i f l j true (some k) t r (inl q) =
    let z : i ≡ j = cc in
    let a : may_report e i ≡ true = ap (λ (x : ℕ). may_report e x) z ∙ t in
    record {
      key = k;
      found = ap (λ (x : ℕ). key_in e.synced x) z ∙ r;
      file_is = ap (λ (x : ℕ). file_of e.synced x) z ∙ cc;
      length_is = cc;
      all = (may_report_lem e i a).0;
      named = (may_report_lem e i a).1;
    }
completes e i f l j true (some k) t r (inr m) = absurd m
completes e i f l j true none t r m = absurd m
completes e i f l j false y t r m = absurd m

never_reports : (i f l : ℕ) (y : Option Key) (s : Snapshot) (j : ℕ) → In (report i f l) (answer_of y s j) → ⊥
unfolding answer_of
never_reports i f l (some k) s j (inl q) = let z : ◌≡◌ {A = ℕ} 0 1 = cc in omega arith
never_reports i f l (some k) s j (inr m) = m
never_reports i f l none s j m = m

pub report_completes : (e : Engine) (x : Event) (i f l : ℕ) → In (report i f l) (actions e x) → Completes e i f l
report_completes e x i f l m =
    only_told (report i f l) tt e x (Completes e i f l)
    (λ j y. absurd (never_reports i f l (key_in e.synced j) e.synced j y))
    (λ j y. completes e i f l j (may_report e j) (key_in e.synced j) refl refl y) m
