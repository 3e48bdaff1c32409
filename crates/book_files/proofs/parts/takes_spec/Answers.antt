use Rattle.std.proofs.Common.{Some, ap}
use Rattle.serde_json.specs.Data.{string}
use Rattle.book_files.proofs.PartLaws.{with-spec}
use Rattle.book_files.proofs.parts.takes_spec.Goals as goal

pub returns-then-is_text : goal.returns-then-is_text
returns-then-is_text c = λ t. (
  string c.as_str.result.now,
  c.is_text.ensures c.if-is_text.true,
  λ found h. with-spec c.args.guess.now (string c.as_str.result.now) c.args.parts.now found c.if-parts.false (ap Some c.as_str.ensures.value) h,
)
