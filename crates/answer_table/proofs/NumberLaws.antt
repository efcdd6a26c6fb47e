-- R1.5: a call on an area is accepted exactly when `number` is 0, as C sees it: no refusal has the number 0.
-- Assumes nothing.
use Prim.Native.Nat.{ℕ, suc, ◌≤◌, ◌<◌}
use mathlib.Core.Path.{◌≡◌, refl}
use mathlib.Core.Bool.{true, false≢true}
use mathlib.Core.List.{List}
use mathlib.Core.Logic.{◌↔◌, ⊎_elim}
use native.Mathlib.Omega.{arith}
use lib.ListN.{length}
use Rattle.refusals.specs.Refusals.{refusal_of}
use Rattle.runs.proofs.CompareLaws.{le_or_lt}
use Rattle.table.specs.Outcome.{Outcome}
use Rattle.table.specs.Open.{open_packet, open_accepted}
use Rattle.table.specs.Record.{record_packet, record_accepted}
use Rattle.table.specs.Close.{close_id}
use Rattle.table.specs.declared.Opened.{Opened}
use Rattle.table.specs.declared.Opened.TheVariants as opened
use Rattle.table.proofs.OpenLaws.{open_cases}
use Rattle.table.proofs.RecordLaws.{record_cases}
use Rattle.table.proofs.OtherLaws.{close_cases}
use Rattle.area.specs.Layout.{area_octets}
use Rattle.area.specs.Operations.{OnArea, open_area, record_area, close_area, fresh_area}
use Rattle.area.proofs.OperationLaws.{on_cases, fresh_refused, fresh_done}
use Rattle.answers.specs.Answers.{recorded_answer}
use Rattle.answer_table.specs.TableAnswers.{opened_answer, done_answer}
use Rattle.std.specs.Prelude.{Result, Ok, Err, ⊤}
use Rattle.refusals.specs.declared.Refusal.{Refusal}
use Rattle.transfer.specs.declared.Receipt.{Receipt}

module _ (a packet : List ℕ) where
  pub open_number_iff : ((opened_answer (open_area a packet).answer).number ≡ 0) ↔ (open_accepted (open_area a packet).answer ≡ true)
  unfolding open_area
  open_number_iff =
      on_cases (Err (refusal_of 22)) (λ t. open_packet t packet) a (λ (x : OnArea (Result Opened Refusal)). Zero x.answer) (refused 21)
      (λ t h. open_cases (λ (o : Outcome (Result Opened Refusal)). Zero o.answer) t packet refused
      (λ m e f. ((λ e. refl), (λ e. refl))) (λ m e f w l. ((λ e. refl), (λ e. refl))))
    where
      Zero : Result Opened Refusal → Type 0
      Zero r = ((opened_answer r).number ≡ 0) ↔ (open_accepted r ≡ true)

      refused : (n : ℕ) → Zero (Err (refusal_of (suc n)))
      refused n = ((λ e. absurd (omega arith)), (λ e. absurd (false≢true e)))

  pub record_number_iff : ((recorded_answer (record_area a packet).answer).number ≡ 0) ↔ (record_accepted (record_area a packet).answer ≡ true)
  unfolding record_area
  record_number_iff =
      on_cases (Err (refusal_of 22)) (λ t. record_packet t packet) a (λ (x : OnArea (Result Receipt Refusal)). Zero x.answer) (refused 21)
      (λ t h. record_cases (λ (o : Outcome (Result Receipt Refusal)). Zero o.answer) t packet refused (λ d k e f j l. ((λ e. refl), (λ e. refl))))
    where
      Zero : Result Receipt Refusal → Type 0
      Zero r = ((recorded_answer r).number ≡ 0) ↔ (record_accepted r ≡ true)

      refused : (n : ℕ) → Zero (Err (refusal_of (suc n)))
      refused n = ((λ e. absurd (omega arith)), (λ e. absurd (false≢true e)))

-- closing, and making an area fresh
abbrev DoneAt0 : Result ⊤ Refusal → Type 0
DoneAt0 r = ((done_answer r).number ≡ 0) ↔ (r ≡ Ok tt)

refused_done : (n : ℕ) → DoneAt0 (Err (refusal_of (suc n)))
refused_done n = ((λ e. absurd (omega arith)), (λ e. absurd (let z : ◌≡◌ {A = ℕ} 0 1 = cc in omega arith)))

pub close_number_iff : (a : List ℕ) (id : ℕ) → ((done_answer (close_area a id).answer).number ≡ 0) ↔ ((close_area a id).answer ≡ Ok tt)
unfolding close_area
close_number_iff a id =
    on_cases (Err (refusal_of 22)) (λ t. close_id t id) a (λ (x : OnArea (Result ⊤ Refusal)). DoneAt0 x.answer) (refused_done 21)
    (λ t h. close_cases (λ (o : Outcome (Result ⊤ Refusal)). DoneAt0 o.answer) t id (refused_done 11) (λ k e. ((λ e. refl), (λ e. refl))))

pub fresh_number_iff : (a : List ℕ) → ((done_answer (fresh_area a).answer).number ≡ 0) ↔ ((fresh_area a).answer ≡ Ok tt)
fresh_number_iff a =
    ⊎_elim (λ (h : area_octets ≤ length a). rw (fresh_done a h) ((λ e. refl), (λ e. refl))) (λ (h : length a < area_octets). rw (fresh_refused a h) (refused_done 19))
    (le_or_lt area_octets (length a))
