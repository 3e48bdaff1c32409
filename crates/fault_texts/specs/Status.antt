-- With which status the program ends.
use Rattle.std.specs.Prelude.{ℕ}
use Rattle.fault_texts.specs.declared.fault.ProgramFault.{ProgramFault}
use Rattle.fault_texts.specs.declared.fault.ProgramFault.TheVariants.{Spec, Sql, Bind, NoSuchLevel, SecondLevel, NotModelled, Start, RankOutOfRange, Shard, Book, BookTooLarge, OtherSpec}
use Rattle.fault_texts.specs.declared.fault.ProgramFault.TheVariants.{NoStep, Twice, OutOfTurn, LeftOut, NoLine, NoSession, NoSerialOrders, TooManyStates, LookSql, LookBind, NotOneSelect, NoValue}
use Rattle.fault_texts.specs.declared.fault.ProgramFault.TheVariants.{TooManyRanks, NoSpecs, TooManySpecs, Explained, Missing, Clash, NoMemory, Read, Write}

-- a rank without exactly one value is told by 1, what is refused by 3, want of memory by 4, and a read or write fault by 5
abbrev pub status_of : ProgramFault → ℕ
status_of (Spec path kind offset) = 3
status_of (Sql path kind offset) = 3
status_of (Bind path kind offset) = 3
status_of (NoSuchLevel path line) = 3
status_of (SecondLevel path line) = 3
status_of (NotModelled path line) = 3
status_of (Start path kind number) = 3
status_of (RankOutOfRange path) = 3
status_of (NoStep path name) = 3
status_of (Twice path name) = 3
status_of (OutOfTurn path name due) = 3
status_of (LeftOut path due) = 3
status_of (NoLine path) = 3
status_of (NoSession path name) = 3
status_of (NoSerialOrders path) = 3
status_of (TooManyStates path noted) = 3
status_of (LookSql text kind offset) = 3
status_of (LookBind text kind offset) = 3
status_of (NotOneSelect text) = 3
status_of (NoValue word) = 3
status_of (Shard path kind) = 3
status_of (Book path kind) = 3
status_of BookTooLarge = 3
status_of (OtherSpec path) = 3
status_of (TooManyRanks path) = 3
status_of (NoSpecs path) = 3
status_of TooManySpecs = 3
status_of (Explained told) = 3
status_of (Missing path rank) = 1
status_of (Clash path rank) = 1
status_of NoMemory = 4
status_of (Read path) = 5
status_of Write = 5
