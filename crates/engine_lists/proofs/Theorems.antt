-- Every list of calls from a fresh start: the state holds the engine of the history, and the claims on histories are claims on the calls.
-- Assumes nothing.
use Prim.Native.Nat.{ℕ}
use mathlib.Core.Path.{◌≡◌}
use mathlib.Core.List.{List, [], ◌∷◌}
use native.Mathlib.Omega.{arith}
use Rattle.engine_model.specs.Snapshots.{empty_snapshot}
use Rattle.engine_model.specs.Engine.{started}
use Rattle.engine_model.specs.World.{start, run}
use Rattle.engine_laws.proofs.ToldLaws.{reports_whole, tells_kept}
use Rattle.engine_lists.specs.Calls.{Call, program, AllFit}
use Rattle.engine_lists.specs.Claims.{ListsFollow, ListsReportWhole, ListsTellKept}
use Rattle.engine_lists.proofs.StartLaws.{blank_saved, starts}
use Rattle.engine_lists.proofs.CallLaws.{Stands, stands_after}

stands : (m z : List ℕ) (cs : List Call) → AllFit m z cs → Stands (program m z cs)
unfolding program run start started
stands m z [] f =
    let saved = blank_saved z f.1 in
    record {
      holds = starts m z empty_snapshot 0 0 f.0 saved (omega arith) (omega arith);
      saved = saved;
      copied = λ x e. absurd (let z : ◌≡◌ {A = ℕ} 0 1 = cc in omega arith);
    }
stands m z (c ∷ cs) f = stands_after (program m z cs) (stands m z cs f.1) c.lent c.event f.0

pub lists_follow : ListsFollow
lists_follow m z cs f = let s = stands m z cs f in record { holds = s.holds; saved = s.saved }

pub lists_report_whole : ListsReportWhole
lists_report_whole m z cs f t w from x = reports_whole (program m z cs).history (program m z cs).state t w from x (lists_follow m z cs f).holds

pub lists_tell_kept : ListsTellKept
lists_tell_kept m z cs f i out x = tells_kept.tells (program m z cs).history (program m z cs).state i out x (lists_follow m z cs f).holds
