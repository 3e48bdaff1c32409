use Rattle.std.proofs.Common.{◌≡◌, refl, sym, ap, ◌∙◌, subst, ℕ, Bool, true, false, ◌||◌, ◌==◌, length, arith, eq-eqb, ne_eqb}
use Rattle.lock_modes.specs.Resource.{resource_at}
use Rattle.lock_queues.specs.Locks.{all_below, fits_with}
use Rattle.bound_specs.specs.Spec.{SpecFile}
use Rattle.machine_model.specs.World.{look_of}
use Rattle.step_reducer.proofs.Quiets.{below-more, below-false, held-whole}
use Rattle.step_reducer.proofs.pairs.fits.Goals as goal
use Rattle.step_reducer.proofs.pairs.fits.Goals.{else-other-session-via-then-other-session+else-not-fits_with, else-other-session-via-else-other-session}

or-true : (b : Bool) → (b || true) ≡ true
or-true true = refl
or-true false = refl

pub loop-other-preserved : goal.loop-other-preserved
loop-other-preserved c =
    let r = resource_at c.args.place in
    let look = look_of c.args.world.now.world in
    let k = c.loop-other.other in
    let here : ((k == c.args.session) || fits_with c.args.mode (look k r)) ≡ true =
    elim c.else-other-session.branch [
      | else-other-session-via-then-other-session+else-not-fits_with w ↦
          ap (λ b. (k == c.args.session) || b) (sym (w.fits_with.ensures
          ∙ ap (fits_with c.args.mode) (w.holds.ensures ∙ held-whole c.args.world.now k r c.requires.whole.whole)) ∙ w.if-not-fits_with.false)
          ∙ or-true (k == c.args.session)
      | else-other-session-via-else-other-session w ↦ ap (λ b. b || fits_with c.args.mode (look k r)) (eq-eqb k c.args.session w.if-other-session.false)
    ] in
    below-more (λ (n : ℕ). (n == c.args.session) || fits_with c.args.mode (look n r)) k c.loop-other.invariant here

pub returns-then-not-fits_with : goal.returns-then-not-fits_with
returns-then-not-fits_with c =
    let r = resource_at c.args.place in
    let look = look_of c.args.world.now.world in
    let k = c.loop-other.other in
    let no : fits_with c.args.mode (look k r) ≡ false =
    sym (c.fits_with.ensures ∙ ap (fits_with c.args.mode) (c.holds.ensures ∙ held-whole c.args.world.now k r c.requires.whole.whole))
    ∙ c.if-not-fits_with.true in
    let here : ((k == c.args.session) || fits_with c.args.mode (look k r)) ≡ false = λ j. ne_eqb k c.args.session c.if-other-session.true j || no j in
    let sessions = ap (λ (f : SpecFile). f.run.sessions) c.spec.ensures in
    sym (below-false (λ (n : ℕ). (n == c.args.session) || fits_with c.args.mode (look n r)) (length c.args.world.now.world.sessions) k
    (omega (arith, c.loop-other-test.true, c.sessions-other-end.ensures.count, sessions, c.requires.whole.known.sessions)) here)

pub returns : goal.returns
returns c =
    let sessions = ap (λ (f : SpecFile). f.run.sessions) c.spec.ensures in
    let all : c.loop-other.other ≡ length c.args.world.now.world.sessions =
    omega (arith, c.loop-other-test.false, c.loop-other.auto.other-end, c.sessions-other-end.ensures.count, sessions, c.requires.whole.known.sessions) in
    sym (subst (λ n. all_below n (λ (k : ℕ). (k == c.args.session) || fits_with c.args.mode (look_of c.args.world.now.world k (resource_at c.args.place)))
    ≡ true) all c.loop-other.invariant)
