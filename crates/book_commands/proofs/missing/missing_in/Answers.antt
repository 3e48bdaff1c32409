use Rattle.book_commands.proofs.MissingLemmas.{told-once}
use Rattle.book_commands.proofs.missing.missing_in.Goals as goal

pub returns-in-Ok-asked_runs-clause-missing : goal.returns-in-Ok-asked_runs-clause-missing
returns-in-Ok-asked_runs-clause-missing c =
    record { one = told-once c.args.book.now c.in-Ok.told c.in-Ok.ensures.told; are = c.in-Ok-asked_runs.ensures }
