use Rattle.std.proofs.Common.{◌≡◌, sym, ap, ◌∙◌, ◌<◌, true, get_or, arith}
use Rattle.bound_specs.specs.Spec.{SpecFile, no_step}
use Rattle.rank_facts.proofs.Mutual.{quiet-mutual}
use Rattle.step_reducer.specs.Pairs.{is_quiet_in, session_of}
use Rattle.step_reducer.proofs.Listed.{quiet-whole}
use Rattle.step_reducer.proofs.Quiets.{quiet-unspent, one-end, calm}
use Rattle.step_reducer.proofs.pairs.quiet.Goals as goal

own : (c : goal.After-is_quiet) → session_of c.args.world.now c.args.step < c.args.world.now.file.run.sessions
own c = omega (
  arith,
  c.session_of-own.ensures.known,
  c.session_of-own.ensures.is,
  ap (λ (f : SpecFile). f.run.sessions) c.spec.ensures,
  ap (λ (f : SpecFile). (get_or f.run.steps c.args.step no_step).session) c.spec.ensures,
)

others : (c : goal.After-is_quiet) → session_of c.args.world.now c.args.other < c.args.world.now.file.run.sessions
others c = omega (
  arith,
  c.session_of-other.ensures.known,
  c.session_of-other.ensures.is,
  ap (λ (f : SpecFile). f.run.sessions) c.spec-2.ensures,
  ap (λ (f : SpecFile). (get_or f.run.steps c.args.other no_step).session) c.spec-2.ensures,
)

pub returns-clause-orders : goal.returns-clause-orders
returns-clause-orders c = λ yes.
    let r = c.args.world.now in
    let here : is_quiet_in r c.args.step c.args.other ≡ true = sym c.is_quiet.ensures ∙ yes in
    let whole = quiet-unspent r c.args.step c.args.other here in
    one-end r c.args.step c.args.other (c.known.ensures.known whole) (own c) (others c) (sym (quiet-whole r c.args.step c.args.other whole) ∙ here)

pub returns-clause-calm : goal.returns-clause-calm
returns-clause-calm c = λ yes.
    let r = c.args.world.now in
    let here : is_quiet_in r c.args.step c.args.other ≡ true = sym c.is_quiet.ensures ∙ yes in
    let whole = quiet-unspent r c.args.step c.args.other here in
    let known = c.known.ensures.known whole in
    let quiet = sym (quiet-whole r c.args.step c.args.other whole) ∙ here in (
      calm r c.args.step c.args.other known (own c) (others c) quiet,
      calm r c.args.other c.args.step known (others c) (own c)
          (quiet-mutual r.world (get_or r.file.run.steps c.args.other no_step) (get_or r.file.run.steps c.args.step no_step) ∙ quiet),
    )
