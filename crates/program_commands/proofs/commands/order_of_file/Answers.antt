use Rattle.std.proofs.Common.{refl, subst, inl, inr, Ok, Err}
use Rattle.spec_commands.specs.Ordering.{IsOrdered}
use Rattle.program_commands.proofs.commands.order_of_file.Goals as goal

pub returns-in-Err-clause-done : goal.returns-in-Err-clause-done
returns-in-Err-clause-done g c = inl (refl, c.in-Err.ensures.unread)

pub returns-in-Ok-order-clause-done : goal.returns-in-Ok-order-clause-done
returns-in-Ok-order-clause-done g c =
    inr (
      c.in-Ok.bytes.items,
      c.in-Ok.ensures.read,
      (refl, subst (λ b. IsOrdered g.W.Write.contents c.args.out.now c.order.new.out b c.args.rank (Ok tt)) c.as_slice.ensures.value c.in-Ok-order.ensures),
    )

pub returns-clause-done : goal.returns-clause-done
returns-clause-done g c =
    inr (
      c.in-Ok.bytes.items,
      c.in-Ok.ensures.read,
      (
        c.in-Err-order.fault,
        subst (λ b. IsOrdered g.W.Write.contents c.args.out.now c.order.new.out b c.args.rank (Err c.in-Err-order.fault)) c.as_slice.ensures.value
            c.in-Err-order.ensures,
        c.order_fault.ensures,
      ),
    )
