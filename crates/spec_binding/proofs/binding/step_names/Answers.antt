use Rattle.std.proofs.Common.{ap, sym, ◌∙◌, ◌++◌, drop, map, ◌+◌}
use Rattle.spec_reader.specs.Views.{session_tree, step_tree}
use Rattle.bound_specs.specs.Lines.{step_names}
use Rattle.spec_binding.proofs.FileLemmas.{names-next}
use Rattle.spec_binding.proofs.binding.step_names.Goals as goal

pub loop-session-preserved : goal.loop-session-preserved
loop-session-preserved c =
    let rest = step_names (map session_tree (drop (c.loop-session.session-index + 1) c.args.sessions.now)) in
    ap (λ names. names ++ rest) (c.in_ok-push_names.ensures ∙ (λ i. c.loop-session.names.items
    ++ map (λ t. t.name) (map step_tree ((c.deref.ensures.value ∙ ap (λ s. s.steps.items) c.session-item.is) i))))
    ∙ sym (names-next c.loop-session.names.items c.args.sessions.now c.loop-session.session-index c.session-item.result c.loop-session-test.true)
    ∙ c.loop-session.invariant
