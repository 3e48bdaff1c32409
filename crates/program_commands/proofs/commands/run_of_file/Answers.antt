use Rattle.std.proofs.Common.{◌≡◌, ◌⊎◌, sym, subst}
use Rattle.program_commands.specs.Faults.{range_told}
use Rattle.program_commands.specs.Commands.{IsCalled, IsRunOf, IsUnread}
use Rattle.program_commands.proofs.commands.run_of_file.Goals as goal

pub returns-in-All-clause-done : goal.returns-in-All-clause-done
returns-in-All-clause-done g c =
    let files = g.O.Opener.bytes c.args.opener.now in
    subst (λ r. IsUnread (files c.args.path.now) c.args.path.now c.args.out.now c.all_of_file.new.out c.all_of_file.result
    ⊎ IsCalled (files c.args.path.now) (λ bytes. IsRunOf g.W.Write.contents c.args.out.now c.all_of_file.new.out bytes r c.args.reduce)
    (λ bytes error told. told ≡ range_told c.args.path error) c.all_of_file.result) (sym c.in-All.is) c.all_of_file.ensures.done

pub returns-in-Range-clause-done : goal.returns-in-Range-clause-done
returns-in-Range-clause-done g c =
    let files = g.O.Opener.bytes c.args.opener.now in
    subst (λ r. IsUnread (files c.args.path.now) c.args.path.now c.args.out.now c.range_of_file.new.out c.range_of_file.result
    ⊎ IsCalled (files c.args.path.now) (λ bytes. IsRunOf g.W.Write.contents c.args.out.now c.range_of_file.new.out bytes r c.args.reduce)
    (λ bytes error told. told ≡ range_told c.args.path error) c.range_of_file.result) (sym c.in-Range.is) c.range_of_file.ensures.done
