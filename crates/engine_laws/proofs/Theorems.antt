-- The calls are the model's events: what each leaves in the state is the engine after the event.
-- Assumes nothing.
use Prim.Native.Nat.{ℕ}
use mathlib.Core.Path.{◌≡◌, refl, subst}
use mathlib.Core.Bool.{Bool, true, false, cond}
use mathlib.Core.List.{List}
use mathlib.Core.Option.{none, some}
use native.Mathlib.Omega.{arith}
use Rattle.octets.specs.Numbers.{Octets}
use Rattle.engine_model.specs.Engine.{Engine}
use Rattle.engine_state.specs.State.{engine_in, held_state, engine_of}
use Rattle.engine_state.proofs.StateLaws.{Held, held_known}
use Rattle.engine_laws.specs.Speaks.{Holds, Speaks, EveryCallSpeaks, StartSpeaks}
use Rattle.engine_laws.proofs.TellSpeaks.{names, reports, tells, closes}
use Rattle.engine_laws.proofs.SyncSpeaks.{begins, ends_good, ends_bad}
use Rattle.engine_laws.proofs.StartSpeaks.{start_speaks}
use Rattle.engine_laws.proofs.StoreSpeaks.{stores}
use Rattle.engine_laws.proofs.OpenSpeaks.{opens}

-- octets that hold an engine hold what is read of them
pub holds_known : (s : List ℕ) (e : Engine) → Holds s e → (held_state s ≡ true) × (engine_in s ≡ e)
unfolding engine_of
holds_known s e h = go (held_state s) refl h.engine
  where
    go : (b : Bool) → held_state s ≡ b → cond b (some (engine_in s)) none ≡ some e → (held_state s ≡ true) × (engine_in s ≡ e)
    go true q z = (q, cc)
    go false q z = absurd (let y : ◌≡◌ {A = ℕ} 0 1 = cc in omega arith)

speaks : (s : List ℕ) → Octets s → Held s → Speaks s (engine_in s)
speaks s o h = record {
  opens = λ t r p b k l w q. opens s o h t r p l w q b k;
  stores = λ t r p from b k l q. stores s o h t r p from l q b k;
  closes = closes s o h;
  tells = tells s o h;
  names = names s o h;
  reports = reports s o h;
  begins = begins s o h;
  ends_good = ends_good s o h;
  ends_bad = ends_bad s o h;
}

pub every_call_speaks : EveryCallSpeaks
every_call_speaks s e h =
    let k = holds_known s e h in
    subst (Speaks s) k.1 (speaks s h.octets (held_known s k.0))

pub starting_speaks : StartSpeaks
starting_speaks = start_speaks
