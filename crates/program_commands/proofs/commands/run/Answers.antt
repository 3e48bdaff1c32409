use Rattle.std.proofs.Common.{inr}
use Rattle.program_commands.proofs.commands.run.Goals as goal

-- a plain line is refused for want of memory alone
pub returns-in-Err : goal.returns-in-Err
returns-in-Err g c = inr (c.tell_usage.ensures.usage, λ line is. c.tell_usage.ensures.memory (c.in-Err.ensures.refused line is))
