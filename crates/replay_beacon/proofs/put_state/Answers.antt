-- `replay_beacon::put_state` meets its contract: a word for each state. Assumes nothing.
use mathlib.Core.Path.{sym, ap}
use Rattle.text.proofs.AddedLaws.{added_as}
use Rattle.replay_beacon.specs.BeaconLine.{state_text}
use borrow.Author.Rules.{rules}
use Rattle.replay_beacon.proofs.put_state.Goals as goal

pub returns-in-Cannot : goal.returns-in-Cannot
unfolding state_text
returns-in-Cannot c =
    added_as (ap state_text (sym c.in-Cannot.is)) c.put_text.ensures

pub returns-in-NotNow : goal.returns-in-NotNow
unfolding state_text
returns-in-NotNow c =
    added_as (ap state_text (sym c.in-NotNow.is)) c.put_text-in-NotNow.ensures

pub returns-in-Willing : goal.returns-in-Willing
unfolding state_text
returns-in-Willing c =
    added_as (ap state_text (sym c.in-Willing.is)) c.put_text-in-Willing.ensures
