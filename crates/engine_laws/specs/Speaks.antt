-- R19.18: what each call leaves in the state, in the model's words. So the claims on histories are claims on the calls.
-- Assumes nothing.
use Rattle.std.specs.Prelude.{ℕ, ◌^◌, ◌<◌, ◌≡◌, Bool, true, false, List, Ok}
use Rattle.std.proofs.Math.Option.{some}
use Rattle.octets.specs.Numbers.{Octets}
use Rattle.engine_slots.specs.declared.Sender.{Sender}
use Rattle.engine_model.specs.Engine.{Engine, Ended, whole, part, opened, stored, closed, answered, named, reported, begun_at, current, confirmed, dropped, started}
use Rattle.engine_state.specs.State.{snapshot_in, engine_of}
use Rattle.engine_data.specs.Store.{stored_state}
use Rattle.engine_open.specs.Opened.{opened_state, gone_state}
use Rattle.engine_sync.specs.Syncs.{start_refusal, started_state, begun_state, ended_state}
use Rattle.engine_tell.specs.Tell.{telling, told_state}
use Rattle.engine_tell.specs.declared.Letter.{Letter}
use Rattle.engine_marks.specs.Marks.{named_state, reported_state}

-- how the shell's word on a write stands in the model: of one that failed any octets may be in the file
unfoldable pub end_of : Bool → (ℕ → Bool) → Ended
end_of true k = whole
end_of false k = part k

-- three words
pub record Words (r : Sender) : Type 0 where
  pub high : r.high < 2 ^ 64
  pub low : r.low < 2 ^ 64
  pub port : r.port < 2 ^ 64

-- the octets s hold the engine e
pub record Holds (s : List ℕ) (e : Engine) : Type 0 where
  pub octets : Octets s
  pub engine : engine_of s ≡ some e

-- any call on a state that holds e leaves one that holds what the model says
pub record Speaks (s : List ℕ) (e : Engine) : Type 0 where
  pub opens : (t : ℕ) (r : Sender) (p : List ℕ) (b : Bool) (k : ℕ → Bool) → t < 2 ^ 64 → Words r → Octets p
      → Holds (opened_state s t r p b) (opened e t r p (end_of b k))
  pub stores : (t : ℕ) (r : Sender) (p : List ℕ) (from : ℕ) (b : Bool) (k : ℕ → Bool) → t < 2 ^ 64 → Octets p
      → Holds (stored_state s t r p from b) (stored e t r p from (end_of b k))
  pub closes : (i : ℕ) (b : Bool) → Holds (gone_state s i b) (closed e i b)
  pub tells : (i : ℕ) (out : List ℕ) (x : Letter) → telling s i out ≡ Ok x → Holds (told_state s i out) (answered e i)
  pub names : (i : ℕ) (b : Bool) (k : ℕ → Bool) → Holds (named_state s i b) (named e i (end_of b k))
  pub reports : (i : ℕ) → Holds (reported_state s i) (reported e i)
  pub begins : (t : ℕ) → t < 2 ^ 64 → Holds (begun_state s t) (begun_at e t)
  pub ends_good : (n : ℕ) → Holds (ended_state s n true) (confirmed (current e n) e)
  pub ends_bad : (n : ℕ) → Holds (ended_state s n false) (dropped (current e n) e)

abbrev pub EveryCallSpeaks : Type 0
EveryCallSpeaks = (s : List ℕ) (e : Engine) → Holds s e → Speaks s e

-- and a start leaves the engine that is started from what was saved
abbrev pub StartSpeaks : Type 0
StartSpeaks = (s saved : List ℕ) (number next : ℕ) → Octets s → Octets saved → next < 2 ^ 64
    → start_refusal s saved number ≡ 0 → Holds (started_state s saved number next) (started (snapshot_in saved) number next)
