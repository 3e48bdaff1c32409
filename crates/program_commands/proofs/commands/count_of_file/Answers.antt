use Rattle.std.proofs.Common.{refl, subst, inl, inr, Ok, Err}
use Rattle.spec_commands.specs.Counting.{IsCounted}
use Rattle.program_commands.proofs.commands.count_of_file.Goals as goal

pub returns-in-Err-clause-done : goal.returns-in-Err-clause-done
returns-in-Err-clause-done g c = inl (refl, c.in-Err.ensures.unread)

pub returns-in-Ok-count-clause-done : goal.returns-in-Ok-count-clause-done
returns-in-Ok-count-clause-done g c =
    inr (
      c.in-Ok.bytes.items,
      c.in-Ok.ensures.read,
      (refl, subst (λ b. IsCounted g.W.Write.contents c.args.out.now c.count.new.out b (Ok tt)) c.as_slice.ensures.value c.in-Ok-count.ensures),
    )

pub returns-clause-done : goal.returns-clause-done
returns-clause-done g c =
    inr (
      c.in-Ok.bytes.items,
      c.in-Ok.ensures.read,
      (
        c.in-Err-count.fault,
        subst (λ b. IsCounted g.W.Write.contents c.args.out.now c.count.new.out b (Err c.in-Err-count.fault)) c.as_slice.ensures.value c.in-Err-count.ensures,
        c.count_fault.ensures,
      ),
    )
