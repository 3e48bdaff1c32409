use Rattle.std.proofs.Common.{◌<◌, ◌∙◌, sym, ap, arith, get_or}
use Rattle.bound_specs.specs.Spec.{SpecFile, no_step}
use Rattle.rank_facts.proofs.Mutual.{quiet-mutual}
use Rattle.marked_quiet.specs.Quiet.{session_of}
use Rattle.marked_quiet.proofs.QuietLemmas.{one-end, calm}
use Rattle.marked_quiet.proofs.pairs.quiet.Goals as goal

own : (c : goal.After-is_quiet) → session_of c.args.world.now c.args.step < c.args.world.now.file.run.sessions
own c = omega (
  arith,
  c.session_of-own.ensures.known,
  c.session_of-own.ensures.is,
  ap (λ (f : SpecFile). f.run.sessions) c.spec.ensures,
  ap (λ (f : SpecFile). (get_or f.run.steps c.args.step no_step).session) c.spec.ensures,
)

others : (c : goal.After-is_quiet) → session_of c.args.world.now c.args.other < c.args.world.now.file.run.sessions
others c = omega (
  arith,
  c.session_of-other.ensures.known,
  c.session_of-other.ensures.is,
  ap (λ (f : SpecFile). f.run.sessions) c.spec-2.ensures,
  ap (λ (f : SpecFile). (get_or f.run.steps c.args.other no_step).session) c.spec-2.ensures,
)

pub returns-then-not-spent-clause-orders : goal.returns-then-not-spent-clause-orders
returns-then-not-spent-clause-orders c = λ yes.
    let known = c.known.ensures.now (sym c.spent.ensures ∙ c.if-not-spent.true) in
    one-end c.args.world.now c.args.step c.args.other known (own c) (others c) (sym c.is_quiet.ensures ∙ yes)

pub returns-then-not-spent-clause-calm : goal.returns-then-not-spent-clause-calm
returns-then-not-spent-clause-calm c = λ yes.
    let r = c.args.world.now in
    let known = c.known.ensures.now (sym c.spent.ensures ∙ c.if-not-spent.true) in
    let quiet = sym c.is_quiet.ensures ∙ yes in (
      calm r c.args.step c.args.other known (own c) (others c) quiet,
      calm r c.args.other c.args.step known (others c) (own c)
          (quiet-mutual r.world (get_or r.file.run.steps c.args.other no_step) (get_or r.file.run.steps c.args.step no_step) ∙ quiet),
    )
