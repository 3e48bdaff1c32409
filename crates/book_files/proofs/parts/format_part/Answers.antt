use Rattle.serde_json.specs.View.{view}
use Rattle.book_files.proofs.PartLaws.{format-part}
use Rattle.book_files.proofs.parts.format_part.Goals as goal

pub returns-in-Some : goal.returns-in-Some
returns-in-Some c =
    format-part c.args.reader.now c.value_at.new.reader (view c.in-Some.value) c.as_u64.result c.in-Some.ensures.value c.as_u64.ensures
