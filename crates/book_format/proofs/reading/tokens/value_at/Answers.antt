use Rattle.json.specs.Value.{value_view}
use Rattle.book_format.proofs.TokenLemmas.{read-copied}
use Rattle.book_format.proofs.reading.tokens.value_at.Goals as goal

pub returns-in-Ok-clause-value : goal.returns-in-Ok-clause-value
returns-in-Ok-clause-value c =
    read-copied c.args.depth c.args.reader.now c.read.new.reader (value_view c.in-Ok.tree) c.copy_of.result c.in-Ok.ensures.ok c.copy_of.ensures
