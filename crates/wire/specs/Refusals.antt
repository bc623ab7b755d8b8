-- Rule 4.1: the refusals by their numbers; and what is told of a result, which is refused or not.
use Rattle.std.specs.Prelude.{ℕ, Option, Some, None, Result, Ok, Err}
use Rattle.wire.specs.declared.refusal.Refusal.{Refusal}
use Rattle.wire.specs.declared.refusal.Refusal.TheVariants.{LentWrong, TooShort, TooLong, LengthDiffers, ChecksumDiffers, NotForUs, Unknown, LacksLength, SizeWrong, ValueWrong, NamedOnly, RunsPast}

-- Rule 4.1: the number of each.
abbrev pub number_of : Refusal → ℕ
number_of LentWrong = 1
number_of TooShort = 2
number_of TooLong = 3
number_of LengthDiffers = 4
number_of ChecksumDiffers = 5
number_of NotForUs = 6
number_of Unknown = 7
number_of LacksLength = 8
number_of SizeWrong = 9
number_of (ValueWrong place) = 10
number_of NamedOnly = 11
number_of RunsPast = 12

-- Rule 4.6: the place of the fault, which 10 alone names.
abbrev pub place_of : Refusal → ℕ
place_of LentWrong = 0
place_of TooShort = 0
place_of TooLong = 0
place_of LengthDiffers = 0
place_of ChecksumDiffers = 0
place_of NotForUs = 0
place_of Unknown = 0
place_of LacksLength = 0
place_of SizeWrong = 0
place_of (ValueWrong place) = place
place_of NamedOnly = 0
place_of RunsPast = 0

-- Rule 3.4: the status and the place of what is refused, or not.
abbrev pub status_of : {A : Type 0} → Result A Refusal → ℕ
status_of (Ok a) = 0
status_of (Err why) = number_of why

abbrev pub fault_of : {A : Type 0} → Result A Refusal → ℕ
fault_of (Ok a) = 0
fault_of (Err why) = place_of why

-- The same of a refusal that there may be.
abbrev pub status_if : Option Refusal → ℕ
status_if None = 0
status_if (Some why) = number_of why

abbrev pub fault_if : Option Refusal → ℕ
fault_if None = 0
fault_if (Some why) = place_of why
