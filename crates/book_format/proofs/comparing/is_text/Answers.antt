use Rattle.std.proofs.Common.{Some, sym, ap, ◌∙◌, take}
use Rattle.book_format.specs.declared.comparing.Expected.{Expected}
use Rattle.book_format.proofs.TextBooks.{all-taken}
use Rattle.book_format.proofs.comparing.is_text.Goals as goal

pub returns-in-Ok : goal.returns-in-Ok
returns-in-Ok c = λ h. all-taken _ _ _ c.args.bytes.now (ap (λ (e : Expected). Some (take e.done e.bytes.now)) c.new-out.ensures.inner)
    (ap Some (ap (λ (e : Expected). take e.done e.bytes.now) (sym c.into_inner.ensures) ∙ c.has_taken.ensures h)) c.in-Ok.ensures.whole
