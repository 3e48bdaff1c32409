use Rattle.std.proofs.Common.{refl, subst, inl, inr, Ok, Err}
use Rattle.spec_commands.specs.One.{IsOneRun}
use Rattle.program_commands.proofs.commands.one_of_file.Goals as goal

pub returns-in-Err-clause-done : goal.returns-in-Err-clause-done
returns-in-Err-clause-done g c = inl (refl, c.in-Err.ensures.unread)

pub returns-in-Ok-one-clause-done : goal.returns-in-Ok-one-clause-done
returns-in-Ok-one-clause-done g c =
    inr (
      c.in-Ok.bytes.items,
      c.in-Ok.ensures.read,
      (refl, subst (λ b. IsOneRun g.W.Write.contents c.args.out.now c.one.new.out b c.args.rank (Ok tt)) c.as_slice.ensures.value c.in-Ok-one.ensures.written),
    )

pub returns-clause-done : goal.returns-clause-done
returns-clause-done g c =
    inr (
      c.in-Ok.bytes.items,
      c.in-Ok.ensures.read,
      (
        c.in-Err-one.fault,
        subst (λ b. IsOneRun g.W.Write.contents c.args.out.now c.one.new.out b c.args.rank (Err c.in-Err-one.fault)) c.as_slice.ensures.value
            (c.in-Err-one.ensures.refused, c.in-Err-one.ensures.left),
        c.fault_at.ensures,
      ),
    )
