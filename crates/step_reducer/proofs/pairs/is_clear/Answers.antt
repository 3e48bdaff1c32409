use Rattle.std.proofs.Common.{◌≡◌, sym, ap, ◌∙◌, true, false, not, ◌&&◌, ◌==◌, is_some}
use Rattle.std.specs.List.{find, list_all}
use Rattle.lock_modes.specs.Resource.{resource_at, same_resource}
use Rattle.lock_queues.specs.declared.wait.Wait.{Wait}
use Rattle.bound_statements.specs.Plan.{Request}
use Rattle.machine_model.specs.World.{look_of}
use Rattle.machine_model.specs.Claims.{plans}
use Rattle.step_reducer.proofs.Quiets.{clear-none, clear-some, wait-whole, held-whole}
use Rattle.step_reducer.proofs.pairs.is_clear.Goals as goal

pub returns-in_default : goal.returns-in_default
returns-in_default c =
    let r = c.args.world.now in
    clear-none r.world c.args.session (plans c.args.statements.now) (find (λ (v : Wait). v.session == c.args.other) r.world.waits) (c.in_default.ensures
    ∙ wait-whole r c.args.other c.requires.whole.whole)

pub returns-then-is_some : goal.returns-then-is_some
returns-then-is_some c =
    let r = c.args.world.now in
    let at = resource_at c.in-Some.place in
    let qs = plans c.args.statements.now in
    let held : is_some (look_of r.world c.args.session at) ≡ true =
    sym (c.is_some.ensures ∙ ap is_some (c.holds.ensures ∙ held-whole r c.args.session at c.requires.whole.whole)) ∙ c.if-is_some.true in
    sym (λ k. not (held k) && list_all (λ (q : Request). not (same_resource at q.resource)) qs)
    ∙ clear-some r.world c.args.session qs (find (λ (v : Wait). v.session == c.args.other) r.world.waits) at c.in-Some._mode (c.in-Some.ensures
    ∙ wait-whole r c.args.other c.requires.whole.whole)

pub returns : goal.returns
returns c =
    let r = c.args.world.now in
    let at = resource_at c.in-Some.place in
    let qs = plans c.args.statements.now in
    let free : is_some (look_of r.world c.args.session at) ≡ false =
    sym (c.is_some.ensures ∙ ap is_some (c.holds.ensures ∙ held-whole r c.args.session at c.requires.whole.whole)) ∙ c.if-is_some.false in
    c.none_asked.ensures
    ∙ sym (λ k. not (free k) && list_all (λ (q : Request). not (same_resource at q.resource)) qs)
    ∙ clear-some r.world c.args.session qs (find (λ (v : Wait). v.session == c.args.other) r.world.waits) at c.in-Some._mode (c.in-Some.ensures
    ∙ wait-whole r c.args.other c.requires.whole.whole)
