use Rattle.std.proofs.Common.{◌∙◌}
use Rattle.class_values.specs.Page.{classes_json}
use Rattle.class_commands.proofs.written.json_of.Goals as goal

pub returns : goal.returns
returns c =
    let sessions = c.as_slice.ensures.value ∙ c.in_ok-step_sessions.ensures in
    let statements = c.as_slice-2.ensures.value in (
      c.in_ok-statements.statements.items,
      c.in_ok-statements.ensures.lines,
      c.in_ok-bytes.ensures ∙ (λ k. classes_json c.args.page.now (sessions k) (statements k)),
    )
