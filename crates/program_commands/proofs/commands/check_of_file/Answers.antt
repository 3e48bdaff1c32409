use Rattle.std.proofs.Common.{refl, sym, subst, inl, inr, Ok, Err}
use Rattle.spec_checks.specs.Checking.{IsChecked}
use Rattle.fault_texts.specs.declared.fault.ProgramFault.TheVariants.{Write}
use Rattle.program_commands.specs.Faults.{IsCheckTold}
use Rattle.program_commands.proofs.commands.check_of_file.Goals as goal

pub returns-in-Err-clause-done : goal.returns-in-Err-clause-done
returns-in-Err-clause-done g c = inl (refl, c.in-Err.ensures.unread)

pub returns-in-Ok-check-clause-done : goal.returns-in-Ok-check-clause-done
returns-in-Ok-check-clause-done g c =
    inr (
      c.in-Ok.bytes.items,
      c.in-Ok.ensures.read,
      (refl, subst (λ b. IsChecked g.W.Write.contents c.args.out.now c.check.new.out b (Ok tt)) c.as_slice.ensures.value c.in-Ok-check.ensures),
    )

pub returns-clause-done : goal.returns-clause-done
returns-clause-done g c =
    inr (
      c.in-Ok.bytes.items,
      c.in-Ok.ensures.read,
      (
        c.in-Err-Write.field-0,
        subst (λ b. IsChecked g.W.Write.contents c.args.out.now c.check.new.out b (Err c.in-Err-Write.field-0)) c.as_slice.ensures.value c.in-Err-Write.ensures,
        subst (λ f. IsCheckTold c.args.path c.in-Ok.bytes.items f Write) (sym c.in-Err-Write.field-0-is) refl,
      ),
    )
