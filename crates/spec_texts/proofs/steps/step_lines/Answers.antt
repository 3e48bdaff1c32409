use Rattle.std.proofs.Common.{ap, sym, ◌∙◌, ◌++◌, drop, map, ◌+◌}
use Rattle.spec_reader.specs.Views.{session_tree, step_tree}
use Rattle.spec_texts.specs.OneLine.{one_line}
use Rattle.spec_texts.specs.Texts.{step_lines}
use Rattle.spec_texts.proofs.StepLines.{lines-next}
use Rattle.spec_texts.proofs.steps.step_lines.Goals as goal

pub loop-session-preserved : goal.loop-session-preserved
loop-session-preserved c =
    let rest = step_lines (map session_tree (drop (c.loop-session.session-index + 1) c.args.sessions.now)) in
    ap (λ lines. lines ++ rest) (c.in_ok-push_lines.ensures ∙ (λ i. c.loop-session.lines.items
    ++ map (λ t. one_line t.block.text) (map step_tree ((c.deref.ensures.value ∙ ap (λ s. s.steps.items) c.session-item.is) i))))
    ∙ sym (lines-next c.loop-session.lines.items c.args.sessions.now c.loop-session.session-index c.session-item.result c.loop-session-test.true)
    ∙ c.loop-session.invariant
