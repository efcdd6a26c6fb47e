-- `engine_open::must_wait` meets its contract. Assumes nothing.
use mathlib.Core.Path.{◌≡◌, refl}
use mathlib.Core.Bool.{Bool, true, false, ◌&&◌, not}
use Rattle.engine_open.proofs.must_wait.Goals as goal

spoilt_goes : (b s : Bool) → s ≡ true → false ≡ b && not s
spoilt_goes true s h = rw h
spoilt_goes false s h = refl

sound_waits : (b s : Bool) → s ≡ false → b ≡ b && not s
sound_waits true s h = rw h
sound_waits false s h = refl

pub returns-then-spoilt : goal.returns-then-spoilt
returns-then-spoilt c =
    spoilt_goes c.args.busy c.args.spoilt c.if-spoilt.true

pub returns : goal.returns
returns c =
    sound_waits c.args.busy c.args.spoilt c.if-spoilt.false
