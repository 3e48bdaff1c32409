use Rattle.std.proofs.Common.{refl, subst, inl, inr, Ok, Err}
use Rattle.range_commands.specs.Ranges.{IsRunOfAll}
use Rattle.program_commands.proofs.commands.all_of_file.Goals as goal

pub returns-in-Err-clause-done : goal.returns-in-Err-clause-done
returns-in-Err-clause-done g c = inl (refl, c.in-Err.ensures.unread)

pub returns-in-Ok-run_all-clause-done : goal.returns-in-Ok-run_all-clause-done
returns-in-Ok-run_all-clause-done g c =
    inr (
      c.in-Ok.bytes.items,
      c.in-Ok.ensures.read,
      (
        refl,
        subst (λ b. IsRunOfAll g.W.Write.contents c.args.out.now c.run_all.new.out b c.args.reduce (Ok tt)) c.as_slice.ensures.value
            c.in-Ok-run_all.ensures.run,
      ),
    )

pub returns-clause-done : goal.returns-clause-done
returns-clause-done g c =
    inr (
      c.in-Ok.bytes.items,
      c.in-Ok.ensures.read,
      (
        c.in-Err-run_all.fault,
        subst (λ b. IsRunOfAll g.W.Write.contents c.args.out.now c.run_all.new.out b c.args.reduce (Err c.in-Err-run_all.fault))
            c.as_slice.ensures.value c.in-Err-run_all.ensures.run,
        c.range_fault.ensures,
      ),
    )
