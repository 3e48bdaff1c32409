use Rattle.std.proofs.Common.{refl, inl}
use Rattle.program_commands.proofs.commands.tell_usage.Goals as goal

-- the help is written
pub returns-in-Ok-written-clause-usage : goal.returns-in-Ok-written-clause-usage
returns-in-Ok-written-clause-usage g c = let w = c.in-Ok-written.ensures.whole in inl (refl, (c.as_str-2.result.now, w.0, w.1, w.2))
