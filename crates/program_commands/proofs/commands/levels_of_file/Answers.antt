use Rattle.std.proofs.Common.{refl, subst, inl, inr, Ok, Err}
use Rattle.class_commands.specs.Levels.{IsLevelsRun}
use Rattle.program_commands.proofs.commands.levels_of_file.Goals as goal

pub returns-in-Err-clause-done : goal.returns-in-Err-clause-done
returns-in-Err-clause-done g c = inl (refl, c.in-Err.ensures.unread)

pub returns-in-Ok-both_levels_told-clause-done : goal.returns-in-Ok-both_levels_told-clause-done
returns-in-Ok-both_levels_told-clause-done g c =
    inr (
      c.in-Ok.bytes.items,
      c.in-Ok.ensures.read,
      (
        refl,
        subst (λ b. IsLevelsRun g.W.Write.contents c.args.out.now c.both_levels_told.new.out b c.args.path.now c.args.wanted.now (Ok tt)) c.as_slice.ensures.value
            c.in-Ok-both_levels_told.ensures.run,
      ),
    )

pub returns-clause-done : goal.returns-clause-done
returns-clause-done g c =
    inr (
      c.in-Ok.bytes.items,
      c.in-Ok.ensures.read,
      (
        c.in-Err-both_levels_told.fault,
        subst (λ b. IsLevelsRun g.W.Write.contents c.args.out.now c.both_levels_told.new.out b c.args.path.now c.args.wanted.now (Err c.in-Err-both_levels_told.fault))
            c.as_slice.ensures.value c.in-Err-both_levels_told.ensures.run,
        c.classes_fault.ensures,
      ),
    )
