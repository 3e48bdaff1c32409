use Rattle.std.proofs.Common.{refl, subst, inl, inr, Ok, Err}
use Rattle.range_commands.specs.Ranges.{IsRangeRun}
use Rattle.program_commands.proofs.commands.range_of_file.Goals as goal

pub returns-in-Err-clause-done : goal.returns-in-Err-clause-done
returns-in-Err-clause-done g c = inl (refl, c.in-Err.ensures.unread)

pub returns-in-Ok-run_told-clause-done : goal.returns-in-Ok-run_told-clause-done
returns-in-Ok-run_told-clause-done g c =
    inr (
      c.in-Ok.bytes.items,
      c.in-Ok.ensures.read,
      (
        refl,
        subst (λ b. IsRangeRun g.W.Write.contents c.args.out.now c.run_told.new.out b c.args.first c.args.end c.args.reduce (Ok tt)) c.as_slice.ensures.value
            c.in-Ok-run_told.ensures.run,
      ),
    )

pub returns-clause-done : goal.returns-clause-done
returns-clause-done g c =
    inr (
      c.in-Ok.bytes.items,
      c.in-Ok.ensures.read,
      (
        c.in-Err-run_told.fault,
        subst (λ b. IsRangeRun g.W.Write.contents c.args.out.now c.run_told.new.out b c.args.first c.args.end c.args.reduce (Err c.in-Err-run_told.fault))
            c.as_slice.ensures.value c.in-Err-run_told.ensures.run,
        c.range_fault.ensures,
      ),
    )
