use Rattle.std.proofs.Common.{◌≡◌, take}
use Rattle.transcripts.specs.Counted.{failures_of}
use Rattle.program_commands.specs.Testing.{IsReportEnd, worst_with}
use Rattle.program_commands.specs.SideBySide.{findings_in}
use Rattle.program_commands.proofs.testing.tell_each.Given as goal

-- the specs before this one are told
abbrev pub invariant-loop-place : goal.invariant-loop-place
invariant-loop-place g l = record {
  specs : l.ended.specs ≡ worst_with l.fn.before.specs (take l.place (findings_in l.found));
  report : IsReportEnd l.ended.report;
  failures : failures_of l.out ≡ 0;
}
