-- The numbers of the refusals.
use Rattle.std.specs.Prelude.{ℕ}
use Rattle.spec_reader.specs.declared.error.Kind.{Kind}
use Rattle.spec_reader.specs.declared.error.Kind.TheVariants.{NotUtf8, BadToken, Unclosed, Misplaced, NoStep, DuplicateStep, DuplicateSession, UnknownStep, TooLarge, NoMemory}

-- the number that fault lines show
abbrev pub number_of : Kind → ℕ
number_of NotUtf8 = 1
number_of BadToken = 2
number_of Unclosed = 3
number_of Misplaced = 4
number_of NoStep = 5
number_of DuplicateStep = 6
number_of DuplicateSession = 7
number_of UnknownStep = 8
number_of TooLarge = 9
number_of NoMemory = 10
