use Rattle.std.proofs.Common.{map, string_bytes, arith, false}
use Rattle.program_commands.proofs.side_by_side.test_with.Goals as goal

-- what each finds
pub returns : goal.returns
returns g c =
    c.together.ensures (g.F.Opener.bytes c.args.folder.now) c.args.level false (map string_bytes c.args.specs.now)
    (λ k d lt. c.in_ok-found.ensures.each k d (omega (arith, c.in_ok-found.ensures.len, lt)))
