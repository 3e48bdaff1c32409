use Rattle.std.proofs.Common.{All, map, string_bytes, false}
use Rattle.program_commands.specs.SideBySide.{IsPlaced}
use Rattle.program_commands.proofs.side_by_side.test_next.Given as goal

abbrev pub invariant-loop : goal.invariant-loop
invariant-loop g l = All (IsPlaced (g.F.Opener.bytes l.folder) l.level false (map string_bytes l.specs)) l.placed.items
