use Rattle.std.proofs.Common.{All, map, string_bytes, take, false}
use Rattle.std.specs.List.{AllZip}
use Rattle.program_commands.specs.Testing.{IsFoundOf}
use Rattle.program_commands.specs.SideBySide.{IsPlaced, findings_in}
use Rattle.program_commands.proofs.side_by_side.in_order.Given as goal

-- what is kept is of its place, and the specs before this one are in order
abbrev pub invariant-loop-place : goal.invariant-loop-place
invariant-loop-place g l = record {
  kept : All (IsPlaced (g.F.Opener.bytes l.folder) l.level false (map string_bytes l.specs)) l.kept.items;
  found : AllZip (IsFoundOf (g.F.Opener.bytes l.folder) l.level false) (take l.place (map string_bytes l.specs)) (findings_in l.all.items);
}
