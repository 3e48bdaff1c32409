-- The program's status for what an answer finds.
use Rattle.std.specs.Prelude.{ℕ}
use Rattle.book_commands.specs.declared.finding.Finding.{Finding}
use Rattle.book_commands.specs.declared.finding.Finding.TheVariants.{Good, Bad, Refused, NoMemory, Unread}

-- where no fault is told: a false fact, a range that is not held, a report that is equal to no accepted one, or classes that are not as accepted, end with 1;
-- specs that are not tested end with the status of their faults
abbrev pub finding_status : Finding → ℕ
finding_status Good = 0
finding_status Bad = 1
finding_status Refused = 3
finding_status NoMemory = 4
finding_status Unread = 5
