use Rattle.std.proofs.Common.{◌≡◌, ap, sym, ◌∙◌, ℕ, List, Option}
use Rattle.std.specs.Prelude.{string_bytes}
use Rattle.spec_reader.specs.Whole.{spec_tree}
use Rattle.bound_statements.specs.declared.statement.Level.{Level}
use Rattle.bound_specs.specs.Binding.{bound_at}
use Rattle.bound_specs.proofs.FileLemmas.{file-asked}
use Rattle.spec_binding.proofs.spec.spec_at.Goals as goal

-- what is bound says for what it was asked
pub returns-in-Ok-bind_at-clause-file : goal.returns-in-Ok-bind_at-clause-file
returns-in-Ok-bind_at-clause-file c =
    let text = c.in-Ok.text in
    let levels = c.args.levels in
    let asked : c.in-Ok-bind_at.spec.asked ≡ levels =
    file-asked (string_bytes text.text) (spec_tree text) levels c.in-Ok-bind_at.spec c.in-Ok-bind_at.ensures.bound in (
      record {
        tree = spec_tree text;
        is_spec = c.in-Ok.ensures.sound;
        is_bound =
            ap (λ (o : Option Level). bound_at o c.args.bytes.now (spec_tree text)) asked
            ∙ ap (λ (t : List ℕ). bound_at levels t (spec_tree text)) (sym c.in-Ok.ensures.text)
            ∙ c.in-Ok-bind_at.ensures.bound;
      },
      asked,
    )
