use Rattle.book_format.proofs.CopyLemmas.{copied-alike}
use Rattle.book_format.proofs.compacting.finished.Goals as goal

pub returns-in-Ok : goal.returns-in-Ok
returns-in-Ok c =
    copied-alike c.args.text.now c.into_inner-bytes.result.items c.push.new.self.items c.args.writer c.requires c.utf8.text
    c.into_inner-bytes.ensures.items c.into_inner-bytes.ensures.utf8 c.in-Ok.ensures.items
