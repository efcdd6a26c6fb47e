-- R9: a fault and its number, and what an operation that may fail is refused with.
-- Assumes nothing.
use Rattle.std.specs.Prelude.{ℕ, Result, Ok, Err}
use Rattle.refusals.specs.declared.Fault.{Fault}
use Rattle.refusals.specs.declared.Fault.TheVariants.{Short, Long, Version, OtherType, UpperOctets, NotAFile, ChecksumPair, Path, Size, NoPayload, Holes, NotOpen, OtherWidth, PastEnd, NotTheEnd, TooManyRuns, TableFull, OtherFile, NoSuchHole, NoRoom, Field, NoTable, OldChecksum, SettingsVersion, Settings, BeaconFlags}

-- one rule for each number: R9.1 to R9.26
abbrev pub number_of : Fault → ℕ
number_of Short = 1
number_of Long = 2
number_of Version = 3
number_of OtherType = 4
number_of UpperOctets = 5
number_of NotAFile = 6
number_of ChecksumPair = 7
number_of Path = 8
number_of Size = 9
number_of NoPayload = 10
number_of Holes = 11
number_of NotOpen = 12
number_of OtherWidth = 13
number_of PastEnd = 14
number_of NotTheEnd = 15
number_of TooManyRuns = 16
number_of TableFull = 17
number_of OtherFile = 18
number_of NoSuchHole = 19
number_of NoRoom = 20
number_of Field = 21
number_of NoTable = 22
number_of OldChecksum = 23
number_of SettingsVersion = 24
number_of Settings = 25
number_of BeaconFlags = 26

-- R1.5: the number of what was refused, and 0 where nothing was
abbrev pub refused : {A : Type 0} → Result A Fault → ℕ
refused (Ok a) = 0
refused (Err f) = number_of f
