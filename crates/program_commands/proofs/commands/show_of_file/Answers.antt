use Rattle.std.proofs.Common.{refl, subst, inl, inr, Ok}
use Rattle.spec_commands.specs.Showing.{IsShowRun}
use Rattle.program_commands.proofs.commands.show_of_file.Goals as goal

pub returns-in-Err-clause-done : goal.returns-in-Err-clause-done
returns-in-Err-clause-done g c = inl (refl, c.in-Err.ensures.unread)

pub returns-in-Ok-show-clause-done : goal.returns-in-Ok-show-clause-done
returns-in-Ok-show-clause-done g c =
    inr (
      c.wanted_of-wanted.result,
      c.wanted_of-wanted.ensures,
      (
        c.in-Ok.bytes.items,
        c.in-Ok.ensures.read,
        (
          refl,
          subst (λ f. IsShowRun g.W.Write.contents c.args.out.now c.show.new.out c.in-Ok.bytes.items c.args.path.now c.wanted_of-wanted.result f c.args.level (Ok tt))
              c.form_of.ensures
              (subst (λ b. IsShowRun g.W.Write.contents c.args.out.now c.show.new.out b c.args.path.now c.wanted_of-wanted.result c.form_of.result c.args.level (Ok tt))
              c.as_slice.ensures.value c.in-Ok-show.ensures.shown),
        ),
      ),
    )
