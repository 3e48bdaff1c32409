use Rattle.std.proofs.Common.{◌≤◌, length, arith}
use Rattle.book_format.specs.declared.pieces.TheConstants.{MAX_TEXT}
use Rattle.book_files.proofs.PartLaws.{bytes-value}
use Rattle.book_files.proofs.pieces.book_by_pieces.Goals as goal

pub returns-in-Ok : goal.returns-in-Ok
returns-in-Ok c =
    let few : length c.args.bytes.now ≤ MAX_TEXT = omega arith in
    bytes-value c.args.bytes.now c.in-Ok.text.now c.book_of_str.result few c.in-Ok.ensures.cases.0 c.in-Ok.ensures.cases.1 c.book_of_str.ensures
