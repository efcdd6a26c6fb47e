-- What a fault's number is not, and what a `?` answers of it.
-- Assumes nothing.
use Prim.Native.Nat.{ℕ}
use mathlib.Core.Path.{◌≡◌, refl, sym}
use mathlib.Core.List.{List}
use native.Mathlib.Omega.{arith}
use Rattle.refusals.specs.Refusals.{refusal_of, answered}
use Rattle.refusals.specs.Writing.{buffer_after}
use Rattle.refusals.specs.Faults.{number_of}
use Rattle.refusals.proofs.WritingLaws.{buffer_refused}
use Rattle.refusals.specs.declared.Refusal.{Refusal}
use Rattle.refusals.specs.declared.Fault.{Fault}
use Rattle.refusals.specs.declared.Fault.TheVariants.{Short, Long, Version, OtherType, UpperOctets, NotAFile, ChecksumPair, Path, Size, NoPayload, Holes, NotOpen, OtherWidth, PastEnd, NotTheEnd, TooManyRuns, TableFull, OtherFile, NoSuchHole, NoRoom, Field, NoTable, OldChecksum, SettingsVersion, Settings, BeaconFlags}

-- what a `?` answers of a fault
pub fault_answers : {A : Type 0} (refused : Refusal → A) (f : Fault) (result : A) → answered refused (number_of f) result ≡ refused (refusal_of (number_of f))
fault_answers refused Short result = refl
fault_answers refused Long result = refl
fault_answers refused Version result = refl
fault_answers refused OtherType result = refl
fault_answers refused UpperOctets result = refl
fault_answers refused NotAFile result = refl
fault_answers refused ChecksumPair result = refl
fault_answers refused Path result = refl
fault_answers refused Size result = refl
fault_answers refused NoPayload result = refl
fault_answers refused Holes result = refl
fault_answers refused NotOpen result = refl
fault_answers refused OtherWidth result = refl
fault_answers refused PastEnd result = refl
fault_answers refused NotTheEnd result = refl
fault_answers refused TooManyRuns result = refl
fault_answers refused TableFull result = refl
fault_answers refused OtherFile result = refl
fault_answers refused NoSuchHole result = refl
fault_answers refused NoRoom result = refl
fault_answers refused Field result = refl
fault_answers refused NoTable result = refl
fault_answers refused OldChecksum result = refl
fault_answers refused SettingsVersion result = refl
fault_answers refused Settings result = refl
fault_answers refused BeaconFlags result = refl

-- a fault's number is not 0
pub fault_some : (f : Fault) → number_of f ≡ 0 → ⊥
fault_some Short e = absurd (omega arith)
fault_some Long e = absurd (omega arith)
fault_some Version e = absurd (omega arith)
fault_some OtherType e = absurd (omega arith)
fault_some UpperOctets e = absurd (omega arith)
fault_some NotAFile e = absurd (omega arith)
fault_some ChecksumPair e = absurd (omega arith)
fault_some Path e = absurd (omega arith)
fault_some Size e = absurd (omega arith)
fault_some NoPayload e = absurd (omega arith)
fault_some Holes e = absurd (omega arith)
fault_some NotOpen e = absurd (omega arith)
fault_some OtherWidth e = absurd (omega arith)
fault_some PastEnd e = absurd (omega arith)
fault_some NotTheEnd e = absurd (omega arith)
fault_some TooManyRuns e = absurd (omega arith)
fault_some TableFull e = absurd (omega arith)
fault_some OtherFile e = absurd (omega arith)
fault_some NoSuchHole e = absurd (omega arith)
fault_some NoRoom e = absurd (omega arith)
fault_some Field e = absurd (omega arith)
fault_some NoTable e = absurd (omega arith)
fault_some OldChecksum e = absurd (omega arith)
fault_some SettingsVersion e = absurd (omega arith)
fault_some Settings e = absurd (omega arith)
fault_some BeaconFlags e = absurd (omega arith)

-- what a writer leaves in the buffer where a `?` answers of a fault
pub fault_buffer : (f : Fault) (packet old : List ℕ) → buffer_after (number_of f) packet old ≡ old
fault_buffer f packet old = sym (buffer_refused (number_of f) packet old (fault_some f))
