use Rattle.std.proofs.Common.{◌≡◌, sym, ◌∙◌, not, arith, true, false, ◌||◌}
use Rattle.lock_modes.specs.Resource.{resource_at}
use Rattle.lock_modes.specs.Mode.{compatible}
use Rattle.bound_statements.specs.Plan.{request, plan}
use Rattle.rank_facts.specs.Quiet.{fit_together}
use Rattle.step_reducer.proofs.Asked.{on-true, on-false, on-none, on-end}
use Rattle.step_reducer.proofs.pairs.request_fits_one.Goals as goal
use Rattle.step_reducer.proofs.pairs.request_fits_one.Goals.{else-is_same-via-then-is_same+else-not-compatible, else-is_same-via-else-is_same}

pub returns-in_default : goal.returns-in_default
returns-in_default c = on-none (fit_together (request (resource_at c.args.place) c.args.mode)) (plan c.args.statement.now) c.loop-number.number
    (sym c.in_default.ensures) c.loop-number.invariant

pub returns-then-not-compatible : goal.returns-then-not-compatible
returns-then-not-compatible c =
    let no : (fit_together (request (resource_at c.args.place) c.args.mode)) (request (resource_at c.in-Some.there) c.in-Some.asked) ≡ false =
    (λ k. not ((sym c.is_same.ensures ∙ c.if-is_same.true) k) || (sym c.compatible.ensures.table ∙ c.if-not-compatible.true) k) in
    on-false (fit_together (request (resource_at c.args.place) c.args.mode)) (plan c.args.statement.now) c.loop-number.number
    (request (resource_at c.in-Some.there) c.in-Some.asked) (sym c.in-Some.ensures) no c.loop-number.invariant

pub returns : goal.returns
returns c = on-end (fit_together (request (resource_at c.args.place) c.args.mode)) (plan c.args.statement.now) c.loop-number.number
    (omega (arith, c.requires.short, c.loop-number-test.false)) c.loop-number.invariant

pub loop-number-preserved : goal.loop-number-preserved
loop-number-preserved c =
    let yes : (fit_together (request (resource_at c.args.place) c.args.mode)) (request (resource_at c.in-Some.there) c.in-Some.asked) ≡ true =
    elim c.else-is_same.branch [
      | else-is_same-via-then-is_same+else-not-compatible w ↦ (λ k. not ((sym c.is_same.ensures ∙ w.if-is_same.true) k) || (sym w.compatible.ensures.table
          ∙ w.if-not-compatible.false) k)
      | else-is_same-via-else-is_same w ↦ (λ k. not ((sym c.is_same.ensures ∙ w.if-is_same.false) k) || compatible c.args.mode c.in-Some.asked)
    ] in
    on-true (fit_together (request (resource_at c.args.place) c.args.mode)) (plan c.args.statement.now) c.loop-number.number
    (request (resource_at c.in-Some.there) c.in-Some.asked) (sym c.in-Some.ensures) yes c.loop-number.invariant
