use Rattle.std.proofs.Common.{refl, ap, ◌∙◌, subst}
use Rattle.std.specs.List.{AllZip}
use Rattle.transcripts.specs.Counted.{Wrote, Stopped}
use Rattle.order_names.specs.Orders.{IsStepNamed}
use Rattle.order_names.specs.Spelling.{names_of, order_text}
use Rattle.order_names.proofs.Spelled.{named}
use Rattle.spec_commands.proofs.ordering.order.Goals as goal

-- the line is written
pub returns-in-Ok-write_str : goal.returns-in-Ok-write_str
returns-in-Ok-write_str g c =
    let file = c.in-Ok.spec in
    let line = c.in-Some.line.items in
    let text = c.deref.ensures ∙ c.in-Ok-order_text.ensures ∙ ap (λ l. order_text (names_of file l)) c.as_slice.ensures.value in (
      file,
      c.in-Ok.ensures.file,
      c.in-Some.ensures.some.0 refl,
      (
        names_of file line,
        subst (AllZip (IsStepNamed file) (names_of file line)) c.in-Some.ensures.line (named file line c.in-Some.ensures.known),
        subst (λ t. Wrote g.W.Write.contents c.args.out.now c.write_str.new.self t) text c.in-Ok-write_str.ensures,
      ),
    )

-- it is not
pub returns : goal.returns
returns g c =
    let file = c.in-Ok.spec in
    let line = c.in-Some.line.items in
    let text = c.deref.ensures ∙ c.in-Ok-order_text.ensures ∙ ap (λ l. order_text (names_of file l)) c.as_slice.ensures.value in (
      file,
      c.in-Ok.ensures.file,
      c.in-Some.ensures.some.0 refl,
      (
        names_of file line,
        subst (AllZip (IsStepNamed file) (names_of file line)) c.in-Some.ensures.line (named file line c.in-Some.ensures.known),
        subst (λ t. Stopped g.W.Write.contents c.args.out.now c.write_str.new.self t) text c.in-Err-write_str.ensures,
      ),
    )
