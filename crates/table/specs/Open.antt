-- R6.4, R6.5: opening by METADATA.
-- Assumes nothing.
use Rattle.std.specs.Prelude.{ℕ, zero, suc, Bool, true, false, cond, ◌&&◌, List, [], length, ltb, eqb, Result, Ok, Err}
use Rattle.std.proofs.Math.Option.{Option, none, some}
use Rattle.refusals.specs.Refusals.{refusal_of}
use Rattle.packet_metadata.specs.Metadata.{read_metadata}
use Rattle.transfer.specs.declared.Key.{Key}
use Rattle.transfer.specs.Transfers.{Transfer, key_of, reached}
use Rattle.transfer.specs.Opening.{new_refusal}
use Rattle.table.specs.Tables.{keys, find, runs_of, add}
use Rattle.table.specs.declared.Opened.{Opened}
use Rattle.table.specs.declared.Opened.TheVariants.{New, AlreadyOpen}
use Rattle.table.specs.Outcome.{Outcome}
use Rattle.refusals.specs.declared.Refusal.{Refusal}
use Rattle.packet_metadata.specs.declared.Metadata.{Metadata}

pub data Verdict : Type 0 where
  new : Verdict
  already : Verdict
  refuse : ℕ → Verdict

-- R6.4: a new Id is refused with n, the number of its METADATA, and then with 17 where 16 are open
abbrev pub judge_new : ℕ → ℕ → Verdict
judge_new zero count = cond (ltb count 16) new (refuse 17)
judge_new (suc n) count = refuse (suc n)

-- R6.4: an open Id with the same width and length is already open, with another it is 18. Only what is open is looked at, and not what
-- was received
unfoldable pub judge_found : Option Key → ℕ → ℕ → Key → Verdict
judge_found none count n k = judge_new n count
judge_found (some j) count n k = cond (eqb j.width k.width && eqb j.length k.length) already (refuse 18)

unfoldable pub judge_open : List Key → ℕ → Key → Verdict
judge_open ks n k = judge_found (find k.id ks) (length ks) n k

unfoldable pub open_as : Verdict → List Transfer → Key → Outcome (Result Opened Refusal)
open_as new t k = record { answer = Ok (New (reached k [])); table = add k t }
open_as already t k = record { answer = Ok (AlreadyOpen (reached k (runs_of t k.id))); table = t }
open_as (refuse n) t k = record { answer = Err (refusal_of n); table = t }

unfoldable pub open_key : List Transfer → ℕ → Key → Outcome (Result Opened Refusal)
open_key t n k = open_as (judge_open (keys t) n k) t k

-- R6.4: the reader's refusals, then 18, 23, 17
unfoldable pub open_read : List Transfer → Result Metadata Refusal → Outcome (Result Opened Refusal)
open_read t (Ok m) = open_key t (new_refusal m.flags) (key_of m)
open_read t (Err r) = record { answer = Err r; table = t }

unfoldable pub open_packet : List Transfer → List ℕ → Outcome (Result Opened Refusal)
open_packet t packet = open_read t (read_metadata packet)

abbrev pub open_accepted : Result Opened Refusal → Bool
open_accepted (Ok (New r)) = true
open_accepted (Ok (AlreadyOpen r)) = true
open_accepted (Err r) = false
