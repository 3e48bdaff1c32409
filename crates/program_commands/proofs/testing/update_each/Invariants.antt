use Rattle.std.proofs.Common.{◌≡◌, map, string_bytes, take, true}
use Rattle.transcripts.specs.Counted.{failures_of}
use Rattle.program_commands.specs.Testing.{IsReportEnd, IsWorstOf}
use Rattle.program_commands.proofs.testing.update_each.Given as goal

-- the specs before this one are told
abbrev pub invariant-loop-place : goal.invariant-loop-place
invariant-loop-place g l = record {
  specs : IsWorstOf (g.F.Opener.bytes l.folder) l.level true (take l.place (map string_bytes l.specs)) l.ended.specs;
  report : IsReportEnd l.ended.report;
  failures : failures_of l.out ≡ 0;
}
