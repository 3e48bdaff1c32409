use Rattle.book_format.proofs.TextBooks.{next-taken}
use Rattle.book_format.proofs.comparing.is_next.Goals as goal

pub returns-then-done-text-clause-next : goal.returns-then-done-text-clause-next
returns-then-done-text-clause-next c = next-taken c.args.text.now c.args.bytes.now c.args.done c.starts_with.result c.starts_with.ensures.value
