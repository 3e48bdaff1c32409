use Rattle.std.proofs.Common.{◌≡◌, ◌≤◌, ◌-◌, length, map, string_bytes, take, false}
use Rattle.transcripts.specs.Counted.{failures_of}
use Rattle.program_commands.specs.Testing.{IsReportEnd, IsWorstOf}
use Rattle.program_commands.proofs.testing.test_each.Given as goal

-- the specs before this place are told
abbrev pub invariant-loop-told : goal.invariant-loop-told
invariant-loop-told g l = record {
  within : l.told ≤ length l.specs;
  specs : IsWorstOf (g.F.Opener.bytes l.folder) l.level false (take l.told (map string_bytes l.specs)) l.ended.specs;
  report : IsReportEnd l.ended.report;
  failures : failures_of l.out ≡ 0;
}

abbrev pub decreases-loop-told : goal.decreases-loop-told
decreases-loop-told g l = length l.specs - l.told
