use Rattle.std.proofs.Common.{refl, sym, subst, inl, inr}
use Rattle.range_commands.specs.Ranges.{IsRangeRun}
use Rattle.range_commands.proofs.ranges.run_all.Goals as goal

-- the bytes are no spec
pub returns-in-Err-clause-run : goal.returns-in-Err-clause-run
returns-in-Err-clause-run g c = inr (c.in-Err.fault, c.in-Err.ensures.refused, refl, refl)

-- the range is that of all ranks
pub returns-clause-run : goal.returns-clause-run
returns-clause-run g c =
    let file = c.in-Ok.ensures.number in
    inl (
      file.0,
      file.1,
      subst (λ n. IsRangeRun g.W.Write.contents c.args.out.now c.run_told.new.out c.args.bytes.now 0 n c.args.reduce c.run_told.result) file.2 c.run_told.ensures.run,
    )
