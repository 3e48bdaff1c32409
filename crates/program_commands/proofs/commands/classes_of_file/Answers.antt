use Rattle.std.proofs.Common.{refl, subst, inl, inr, Ok, Err}
use Rattle.class_commands.specs.Classing.{IsClassesRun}
use Rattle.program_commands.proofs.commands.classes_of_file.Goals as goal

pub returns-in-Err-clause-done : goal.returns-in-Err-clause-done
returns-in-Err-clause-done g c = inl (refl, c.in-Err.ensures.unread)

pub returns-in-Ok-classes_told-clause-done : goal.returns-in-Ok-classes_told-clause-done
returns-in-Ok-classes_told-clause-done g c =
    inr (
      c.in-Ok.bytes.items,
      c.in-Ok.ensures.read,
      subst (λ b. IsClassesRun g.W.Write.contents c.args.out.now c.classes_told.new.out b c.args.path.now c.args.wanted.now (Ok c.in-Ok-classes_told.finding))
          c.as_slice.ensures.value c.in-Ok-classes_told.ensures.run,
    )

pub returns-clause-done : goal.returns-clause-done
returns-clause-done g c =
    inr (
      c.in-Ok.bytes.items,
      c.in-Ok.ensures.read,
      (
        c.in-Err-classes_told.fault,
        subst (λ b. IsClassesRun g.W.Write.contents c.args.out.now c.classes_told.new.out b c.args.path.now c.args.wanted.now (Err c.in-Err-classes_told.fault))
            c.as_slice.ensures.value c.in-Err-classes_told.ensures.run,
        c.classes_fault.ensures,
      ),
    )
