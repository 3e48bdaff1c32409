-- The numbers of the refusals, in the order of their list.
use Rattle.std.specs.Prelude.{ℕ}
use Rattle.sql_grammar.specs.declared.error.SqlErrorKind.{SqlErrorKind}
use Rattle.sql_grammar.specs.declared.error.SqlErrorKind.TheVariants.{BadToken, Unclosed, Syntax, Unsupported, NumberTooLarge, TooLarge, NotHere, NoMemory}

abbrev pub number_of : SqlErrorKind → ℕ
number_of BadToken = 1
number_of Unclosed = 2
number_of Syntax = 3
number_of Unsupported = 4
number_of NumberTooLarge = 5
number_of TooLarge = 6
number_of NotHere = 7
number_of NoMemory = 8
