use Rattle.std.proofs.Common.{refl, subst, inl, inr, Ok, Err}
use Rattle.book_commands.specs.Holding.{IsHoldRun}
use Rattle.program_commands.proofs.commands.holding_of_file.Goals as goal

pub returns-in-Err-clause-done : goal.returns-in-Err-clause-done
returns-in-Err-clause-done g c = inl (refl, c.in-Err.ensures.unread)

pub returns-in-Ok-hold_file-clause-done : goal.returns-in-Ok-hold_file-clause-done
returns-in-Ok-hold_file-clause-done g c =
    inr (
      c.in-Ok.bytes.items,
      c.in-Ok.ensures.read,
      subst (λ b. IsHoldRun (g.O.Opener.bytes c.args.opener.now c.args.path.now) b c.args.first c.args.end g.W.Write.contents c.args.out.now
          c.hold_file.new.out (Ok c.in-Ok-hold_file.finding)) c.as_slice.ensures.value c.in-Ok-hold_file.ensures,
    )

pub returns-clause-done : goal.returns-clause-done
returns-clause-done g c =
    inr (
      c.in-Ok.bytes.items,
      c.in-Ok.ensures.read,
      (
        c.in-Err-hold_file.fault,
        subst (λ b. IsHoldRun (g.O.Opener.bytes c.args.opener.now c.args.path.now) b c.args.first c.args.end g.W.Write.contents c.args.out.now
            c.hold_file.new.out (Err c.in-Err-hold_file.fault)) c.as_slice.ensures.value c.in-Err-hold_file.ensures,
        c.hold_fault.ensures,
      ),
    )
