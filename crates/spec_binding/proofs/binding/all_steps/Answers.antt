use Rattle.std.proofs.Common.{◌≡◌, ap, sym, ◌∙◌, ◌+◌, ◌++◌, ◌∷◌, [], map, arith, length, length-append}
use Rattle.std.proofs.lemmas.List.{map_push, length-map}
use Rattle.spec_binding.specs.Bindings.{bound_session}
use Rattle.bound_specs.specs.Binding.{BoundSession, all_steps, numbered}
use Rattle.spec_binding.proofs.FileLemmas.{all_steps-push}
use Rattle.spec_binding.proofs.binding.all_steps.Goals as goal

pub loop-session-preserved : goal.loop-session-preserved
loop-session-preserved c =
    let so_far = map bound_session c.loop-session.yielded in
    let s : BoundSession = bound_session c.in-Some.session in
    let pushed = map_push bound_session c.loop-session.yielded c.in-Some.session in
    let number : c.loop-session.number ≡ length so_far = omega (arith, c.loop-session.invariant.number, length-map c.loop-session.yielded bound_session) in
    record {
      steps =
          c.in_ok-push_steps.ensures
          ∙ (λ i. c.loop-session.invariant.steps i ++ numbered (number i) s.steps)
          ∙ sym (all_steps-push 0 so_far s ∙ (let zero : length so_far ≡ 0 + length so_far = omega arith
          in ap (λ k. all_steps 0 so_far ++ numbered k s.steps) (sym zero)))
          ∙ ap (all_steps 0) (sym pushed);
      setups =
          c.in_ok-push.ensures.items
          ∙ ap (λ us. us ++ s.setup ∷ []) c.loop-session.invariant.setups
          ∙ sym (map_push (λ (t : BoundSession). t.setup) so_far s)
          ∙ ap (map (λ (t : BoundSession). t.setup)) (sym pushed);
      number = omega (arith, length-append c.loop-session.yielded (c.in-Some.session ∷ []), c.loop-session.invariant.number);
    }
