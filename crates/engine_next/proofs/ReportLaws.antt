-- What is said to be done next may be done: by the model it is done, and of the page as it is on disk.
-- Assumes nothing.
use Prim.Native.Nat.{ℕ, ◌<◌}
use mathlib.Core.Path.{◌≡◌, refl, sym, ap, subst, ◌∙◌}
use mathlib.Core.Bool.{Bool, true, false, cond, ◌&&◌}
use mathlib.Core.List.{List, [], ◌∷◌}
use mathlib.Core.Logic.{inl}
use mathlib.Core.Option.{Option, none, some}
use lib.Dec.{ltb, eqb}
use native.Mathlib.Omega.{arith}
use borrow.Author.Tests.{eqb-true}
use Rattle.refusals.specs.Refusals.{refusal_of}
use Rattle.refusals.proofs.TestLaws.{and_iff}
use Rattle.transfer.specs.declared.Key.{Key}
use Rattle.transfer.specs.Transfers.{Transfer}
use Rattle.area.specs.Places.{read_table}
use Rattle.engine_slots.specs.declared.Slot.{Slot}
use Rattle.engine_model.specs.Snapshots.{key_in, slot_of, file_of, is_complete, same_file}
use Rattle.engine_model.specs.Engine.{Engine, Ended, write, report, name_part, token, naming, reporting, may_name, name_of, may_report, report_of, actions}
use Rattle.engine_model.specs.Claims.{In}
use Rattle.engine_model.proofs.FitLaws.{open_key_lem, complete_open}
use Rattle.engine_state.specs.State.{engine_in, held_state}
use Rattle.engine_due.specs.declared.Waits.{Waits}
use Rattle.engine_due.specs.Due.{is_covered, name_due, report_due, is_at_end, kind_for, kind_from}
use Rattle.engine_next.specs.declared.Page.{Page}
use Rattle.engine_next.specs.declared.Next.{Next}
use Rattle.engine_next.specs.declared.Next.TheVariants.{Answer, Name, Report, Close, Sync, Nothing}
use Rattle.engine_next.specs.Next.{page_by, page_of, next_by, sync_due, first_next, next_state}
use Rattle.std.specs.Prelude.{Ok, Err}

-- ---- from what is said to the transfer that it is said of

abbrev code : Next → ℕ
code (Answer i) = 2
code (Name x) = 3
code (Report x) = 4
code (Close i) = 5
code Sync = 6
code Nothing = 7

abbrev about : Next → Page
about (Answer i) = record { id = i; file = 0; length = 0 }
about (Name x) = x
about (Report x) = x
about (Close i) = record { id = i; file = 0; length = 0 }
about Sync = record { id = 0; file = 0; length = 0 }
about Nothing = record { id = 0; file = 0; length = 0 }

by_code : (k : ℕ) (p : Page) (c : ℕ) → c < 5 → code (next_by k p) ≡ c → k ≡ c
unfolding next_by
by_code k p c l e = answers (eqb k 2) refl e
  where
    reports : (b : Bool) → eqb k 4 ≡ b → code (cond b (Report p) (Close p.id)) ≡ c → k ≡ c
    reports true f q = eqb-true k 4 f ∙ q
    reports false f q = absurd (omega arith)

    names : (b : Bool) → eqb k 3 ≡ b → code (cond b (Name p) (cond (eqb k 4) (Report p) (Close p.id))) ≡ c → k ≡ c
    names true f q = eqb-true k 3 f ∙ q
    names false f q = reports (eqb k 4) refl q

    answers : (b : Bool) → eqb k 2 ≡ b → code (cond b (Answer p.id) (cond (eqb k 3) (Name p) (cond (eqb k 4) (Report p) (Close p.id)))) ≡ c → k ≡ c
    answers true f q = eqb-true k 2 f ∙ q
    answers false f q = names (eqb k 3) refl q

module _ (e : Engine) (t : ℕ) (w : Waits) (from : ℕ) (c : ℕ) (low : 0 < c) (high : c < 5) where
  abbrev Of : Next → Type 0
  Of n = (i : ℕ) × (kind_for e t w i (slot_of e.now i) ≡ c) × (n ≡ next_by c (page_of e i))

  -- what is passed over gives no number
  reached : (i : ℕ) → kind_from e t w from i (slot_of e.now i) ≡ c → kind_for e t w i (slot_of e.now i) ≡ c
  unfolding kind_from
  reached i q = go (ltb i from) q
    where
      go : (b : Bool) → cond b 0 (kind_for e t w i (slot_of e.now i)) ≡ c → kind_for e t w i (slot_of e.now i) ≡ c
      go true z = absurd (omega arith)
      go false z = z

  first_of : (xs : List Transfer) → code (first_next e t w from xs) ≡ c → Of (first_next e t w from xs)
  unfolding first_next
  first_of [] q = go (sync_due e t w) q
    where
      go : (b : Bool) → code (cond b Sync Nothing) ≡ c → Of (cond b Sync Nothing)
      go true z = absurd (omega arith)
      go false z = absurd (omega arith)
  first_of (x ∷ xs) q = go (eqb kind 0) (first_of xs) q
    where
      kind : ℕ
      kind = kind_from e t w from x.key.id (slot_of e.now x.key.id)

      go : (b : Bool) → (code (first_next e t w from xs) ≡ c → Of (first_next e t w from xs))
          → code (cond b (first_next e t w from xs) (next_by kind (page_of e x.key.id))) ≡ c
          → Of (cond b (first_next e t w from xs) (next_by kind (page_of e x.key.id)))
      go true later z = later z
      go false later z = let k = by_code kind (page_of e x.key.id) c high z in (x.key.id, reached x.key.id k, ap (λ (y : ℕ). next_by y (page_of e x.key.id)) k)

next_of : (s : List ℕ) (t : ℕ) (w : Waits) (from c : ℕ) (low : 0 < c) (high : c < 5) (n : Next) → next_state s t w from ≡ Ok n → code n ≡ c
    → Of (engine_in s) t w from c low high n
unfolding next_state
next_of s t w from c low high n q f = go (held_state s) q
  where
    go : (b : Bool) → cond b (Ok (first_next (engine_in s) t w from (read_table s))) (Err (refusal_of 22)) ≡ Ok n → Of (engine_in s) t w from c low high n
    go true z =
        let same : first_next (engine_in s) t w from (read_table s) ≡ n = cc in
        subst (λ (m : Next). Of (engine_in s) t w from c low high m) same (first_of (engine_in s) t w from c low high (read_table s) (ap code same ∙ f))
    go false z = absurd (let y : ◌≡◌ {A = ℕ} 0 1 = cc in omega arith)

-- ---- why it is said

-- the test that gave the number
told : (a b c d : Bool) (k : ℕ) → cond a 3 (cond b 2 (cond c 4 (cond d 5 0))) ≡ k → (k ≡ 3 → a ≡ true) × (k ≡ 2 → b ≡ true) × (k ≡ 4 → c ≡ true)
told true b c d k z = (λ y. refl, λ y. absurd (omega arith), λ y. absurd (omega arith))
told false true c d k z = (λ y. absurd (omega arith), λ y. refl, λ y. absurd (omega arith))
told false false true d k z = (λ y. absurd (omega arith), λ y. absurd (omega arith), λ y. refl)
told false false false true k z = (λ y. absurd (omega arith), λ y. absurd (omega arith), λ y. absurd (omega arith))
told false false false false k z = (λ y. absurd (omega arith), λ y. absurd (omega arith), λ y. absurd (omega arith))

abbrev Told : Engine → ℕ → Slot → ℕ → Type 0
Told e i s k =
    (k ≡ 3 → name_due (may_name e i) s ≡ true)
    × (k ≡ 2 → is_covered e.done (same_file e.now e.synced i) s ≡ true)
    × (k ≡ 4 → report_due (may_report e i) (same_file e.now e.synced i) s ≡ true)

kind_told : (e : Engine) (t : ℕ) (w : Waits) (i : ℕ) (s : Slot) → Told e i s (kind_for e t w i s)
unfolding kind_for
kind_told e t w i s = told _ _ _ (is_at_end (is_complete e.now i) t w s) _ refl

-- ---- the page that it is said of

pub record OnDisk (e : Engine) (x : Page) : Type 0 where
  pub key : Key
  pub found : key_in e.synced x.id ≡ some key
  pub length_is : key.length ≡ x.length
  pub file_is : x.file ≡ file_of e.synced x.id

on_disk : (e : Engine) (i : ℕ) (x : Page) → is_complete e.synced i ≡ true → page_of e i ≡ x → (i ≡ x.id) × OnDisk e x
unfolding page_of page_by
on_disk e i x h q =
    let o = open_key_lem e.synced i (complete_open e.synced i h) in
    subst (λ (y : Page). (i ≡ y.id) × OnDisk e y) (sym (ap (λ (k : Option Key). page_by k i (file_of e.synced i)) o.1) ∙ q)
    (refl, record { key = o.0; found = o.1; length_is = refl; file_is = refl })

page_id : (e : Engine) (i : ℕ) → (page_of e i).id ≡ i
unfolding page_of page_by
page_id e i = go (key_in e.synced i)
  where
    go : (k : Option Key) → (page_by k i (file_of e.synced i)).id ≡ i
    go none = refl
    go (some k) = refl

-- ---- an answer, a name, a report

-- the last good sync covers it
pub answer_covered : (s : List ℕ) (t : ℕ) (w : Waits) (from i : ℕ) → next_state s t w from ≡ Ok (Answer i)
    → let e = engine_in s in is_covered e.done (same_file e.now e.synced i) (slot_of e.now i) ≡ true
unfolding next_by
answer_covered s t w from i q =
    let e = engine_in s in
    let f = next_of s t w from 2 (omega arith) (omega arith) (Answer i) q refl in
    let j : f.0 ≡ i = sym (page_id e f.0) ∙ ap (λ (n : Next). (about n).id) (sym f.2) in
    subst (λ (k : ℕ). is_covered e.done (same_file e.now e.synced k) (slot_of e.now k) ≡ true) j
    ((kind_told e t w f.0 (slot_of e.now f.0)).1 f.1)

name_parts : (e : Engine) (i : ℕ) (s : Slot) → name_due (may_name e i) s ≡ true → (may_name e i ≡ true) × (is_complete e.synced i ≡ true)
unfolding name_due may_name
name_parts e i s q = let m = ((and_iff (is_complete e.synced i && same_file e.now e.synced i) _).0 q).0 in (m, ((and_iff (is_complete e.synced i) _).0 m).0)

-- complete on disk, and still open for the same file
pub name_fine : (s : List ℕ) (t : ℕ) (w : Waits) (from : ℕ) (x : Page) → next_state s t w from ≡ Ok (Name x) → (may_name (engine_in s) x.id ≡ true) × OnDisk (engine_in s) x
unfolding next_by
name_fine s t w from x q =
    let e = engine_in s in
    let f = next_of s t w from 3 (omega arith) (omega arith) (Name x) q refl in
    let p = name_parts e f.0 (slot_of e.now f.0) ((kind_told e t w f.0 (slot_of e.now f.0)).0 f.1) in
    let d = on_disk e f.0 x p.1 (ap about (sym f.2)) in
    (subst (λ (k : ℕ). may_name e k ≡ true) d.0 p.0, d.1)

pub name_done : (s : List ℕ) (t : ℕ) (w : Waits) (from : ℕ) (x : Page) (z : Ended) → next_state s t w from ≡ Ok (Name x)
    → In (write x.id x.file name_part token) (actions (engine_in s) (naming x.id z))
unfolding actions name_of
name_done s t w from x z q = let m = name_fine s t w from x q in rw m.0 (inl (λ k. write x.id (m.1.file_is k) name_part token))

report_parts : (e : Engine) (i : ℕ) (s : Slot) → report_due (may_report e i) (same_file e.now e.synced i) s ≡ true
    → (may_report e i ≡ true) × (same_file e.now e.synced i ≡ true) × (is_complete e.synced i ≡ true)
unfolding report_due may_report
report_parts e i s q =
    let m = is_complete e.synced i && eqb (slot_of e.synced i).named 1 in
    let p = (and_iff m (same_file e.now e.synced i)).0 ((and_iff (m && same_file e.now e.synced i) _).0 q).0 in
    (p.0, p.1, ((and_iff (is_complete e.synced i) _).0 p.0).0)

-- complete and named on disk, and still open for the same file
pub report_fine : (s : List ℕ) (t : ℕ) (w : Waits) (from : ℕ) (x : Page) → next_state s t w from ≡ Ok (Report x)
    → let e = engine_in s in (may_report e x.id ≡ true) × (same_file e.now e.synced x.id ≡ true) × OnDisk e x
unfolding next_by
report_fine s t w from x q =
    let e = engine_in s in
    let f = next_of s t w from 4 (omega arith) (omega arith) (Report x) q refl in
    let p = report_parts e f.0 (slot_of e.now f.0) ((kind_told e t w f.0 (slot_of e.now f.0)).2 f.1) in
    let d = on_disk e f.0 x p.2 (ap about (sym f.2)) in
    (subst (λ (k : ℕ). may_report e k ≡ true) d.0 p.0, subst (λ (k : ℕ). same_file e.now e.synced k ≡ true) d.0 p.1, d.1)

pub report_done : (s : List ℕ) (t : ℕ) (w : Waits) (from : ℕ) (x : Page) → next_state s t w from ≡ Ok (Report x)
    → In (report x.id x.file x.length) (actions (engine_in s) (reporting x.id))
unfolding actions report_of
report_done s t w from x q =
    let m = report_fine s t w from x q in
    rw (m.0, m.2.found) (inl (λ k. report x.id (m.2.file_is k) (sym m.2.length_is k)))
