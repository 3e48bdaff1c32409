use Rattle.std.proofs.Common.{◌≡◌, refl, sym, ap, ◌∙◌, ℕ, ◌<◌, not, ◌&&◌, ◌==◌, List, length, is_some, arith}
use Rattle.std.specs.List.{find, list_all}
use Rattle.lock_modes.specs.Resource.{same_resource}
use Rattle.lock_queues.specs.declared.wait.Wait.{Wait}
use Rattle.bound_statements.specs.Plan.{Request}
use Rattle.bound_specs.specs.Spec.{SpecFile}
use Rattle.machine_model.specs.World.{look_of}
use Rattle.machine_model.specs.Claims.{plans}
use Rattle.step_reducer.specs.Pairs.{clear_of}
use Rattle.machine_model.specs.Sound.{Ready}
use Rattle.lock_queues.proofs.WaitLists.{wait-map}
use Rattle.std.proofs.Common.{◌⊎◌, ⊎_elim, Option, Some, None}
use Rattle.machine_model.specs.World.{World}
use Rattle.step_reducer.proofs.Quiets.{passes, waits-false, waits-true}
use Rattle.step_reducer.proofs.pairs.undisturbed.Goals as goal

clear-passes : (w : World) (i : ℕ) (qs : List Request) (o : Option Wait)
    → clear_of w i qs o ≡ passes (λ v. not (is_some (look_of w i v.resource)) && list_all (λ q. not (same_resource v.resource q.resource)) qs) o
clear-passes w i qs None = refl
clear-passes w i qs (Some v) = refl

pub loop-other-preserved : goal.loop-other-preserved
loop-other-preserved c = λ k lt.
    let cases : (k < c.loop-other.other) ⊎ (k ≡ c.loop-other.other) = grind arith in
    ⊎_elim (λ h. c.loop-other.invariant k h)
    (λ e. ap (λ n. clear_of c.args.world.now.world c.args.session (plans c.args.statements.now)
    (find (λ (v : Wait). v.session == n) c.args.world.now.world.waits)) e ∙ sym c.is_clear.ensures ∙ c.if-not-is_clear.false) cases

pub returns-then-not-is_clear : goal.returns-then-not-is_clear
returns-then-not-is_clear c =
    let w = c.args.world.now.world in
    let qs = plans c.args.statements.now in
    sym (waits-false (λ v. not (is_some (look_of w c.args.session v.resource)) && list_all (λ q. not (same_resource v.resource q.resource)) qs)
    c.loop-other.other w.waits
    (sym (clear-passes w c.args.session qs (find (λ (v : Wait). v.session == c.loop-other.other) w.waits)) ∙ sym c.is_clear.ensures ∙ c.if-not-is_clear.true))

pub returns : goal.returns
returns c =
    let w = c.args.world.now.world in
    let qs = plans c.args.statements.now in
    let sessions = ap (λ (f : SpecFile). f.run.sessions) c.spec.ensures in
    let steady = c.requires.whole.known.sound.steady in
    sym (waits-true (λ v. not (is_some (look_of w c.args.session v.resource)) && list_all (λ q. not (same_resource v.resource q.resource)) qs)
    (length w.sessions) w.waits
    (wait-map (Ready w) (λ v. v.session < length w.sessions) (λ v r. r.known) w.waits steady.ready) steady.distinct
    (λ k lt. sym (clear-passes w c.args.session qs (find (λ (v : Wait). v.session == k) w.waits))
    ∙ c.loop-other.invariant k (omega (arith, lt, c.loop-other-test.false, c.sessions-other-end.ensures.count, sessions, c.requires.whole.known.sessions))))
