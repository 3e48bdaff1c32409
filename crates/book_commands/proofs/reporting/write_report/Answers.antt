use Rattle.std.proofs.Common.{◌≡◌, ◌∙◌, sym, subst}
use Rattle.bound_specs.specs.Binding.{IsFileOf}
use Rattle.bound_specs.proofs.FileLemmas.{one-file}
use Rattle.transcripts.specs.Counted.{Wrote, Stopped}
use Rattle.book_commands.specs.Reporting.{AllOwn}
use Rattle.book_commands.proofs.ReportLemmas.{values-own, report-text}
use Rattle.book_commands.proofs.reporting.write_report.Goals as goal

-- the spec is that of the book's text
pub write_values-requires-clause-own : goal.write_values-requires-clause-own
write_values-requires-clause-own g c =
    let text = c.as_bytes.ensures.value ∙ c.text.ensures in
    let same : c.args.book.now.file ≡ c.in-Ok-spec_of.spec =
    one-file _ _ _ c.known.ensures.file (subst (λ t. IsFileOf t c.in-Ok-spec_of.spec) text c.in-Ok-spec_of.ensures.file) in
    subst (AllOwn c.in-Ok-spec_of.spec.run) (sym c.parts.ensures.values)
    (subst (λ f. AllOwn f.run c.in-Ok.values) same (values-own c.args.book.now.file.run c.args.book.now.facts _ _ c.in-Ok.values c.known.ensures.facts
    c.in-Ok.ensures.values))

pub returns-in-Ok-write_values : goal.returns-in-Ok-write_values
returns-in-Ok-write_values g c =
    let text = c.as_bytes.ensures.value ∙ c.text.ensures in
    let same : c.args.book.now.file ≡ c.in-Ok-spec_of.spec =
    one-file _ _ _ c.known.ensures.file (subst (λ t. IsFileOf t c.in-Ok-spec_of.spec) text c.in-Ok-spec_of.ensures.file) in
    report-text c.args.book.now c.in-Ok-spec_of.spec c.parts.result.0.now c.parts.result.1.now c.in-Ok.values
    (Wrote g.W.Write.contents c.args.out.now c.write_values.new.out)
    c.in-Ok.ensures.few c.in-Ok.ensures.values same c.parts.ensures.values
    c.in-Ok-write_values.ensures

pub returns : goal.returns
returns g c =
    let text = c.as_bytes.ensures.value ∙ c.text.ensures in
    let same : c.args.book.now.file ≡ c.in-Ok-spec_of.spec =
    one-file _ _ _ c.known.ensures.file (subst (λ t. IsFileOf t c.in-Ok-spec_of.spec) text c.in-Ok-spec_of.ensures.file) in
    report-text c.args.book.now c.in-Ok-spec_of.spec c.parts.result.0.now c.parts.result.1.now c.in-Ok.values
    (Stopped g.W.Write.contents c.args.out.now c.write_values.new.out)
    c.in-Ok.ensures.few c.in-Ok.ensures.values same c.parts.ensures.values
    c.in-Err-write_values.ensures

-- the text binds to the book's spec
pub wants_memory-requires : goal.wants_memory-requires
wants_memory-requires g c =
    let text = c.as_bytes.ensures.value ∙ c.text.ensures in
    c.in-Err-spec_of.ensures.complete c.args.book.now.file (subst (λ t. IsFileOf t c.args.book.now.file) (sym text) c.known.ensures.file)
