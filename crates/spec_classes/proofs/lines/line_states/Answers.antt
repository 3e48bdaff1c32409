use Rattle.std.proofs.Common.{◌+◌, ◌++◌, ◌∷◌, [], sym, ap, ◌∙◌, subst, arith}
use Rattle.spec_classes.specs.Classes.{drawn}
use Rattle.spec_classes.specs.Told.{AreOfLines}
use Rattle.spec_classes.proofs.LineTold.{lines-next, no-lines}
use Rattle.spec_classes.proofs.lines.line_states.Goals as goal

pub loop-place-init : goal.loop-place-init
loop-place-init c = record {
  at = c.requires.at;
  states = λ kind.
      subst (λ shown. AreOfLines c.args.tables.now (drawn c.args.spec.now.run c.args.ranks.now) kind shown 0 c.new-states.result.items) (sym c.new-shows.ensures)
      (subst (λ fs. AreOfLines c.args.tables.now (drawn c.args.spec.now.run c.args.ranks.now) kind [] 0 fs) (sym c.new-states.ensures.items) (no-lines c.args.tables.now (drawn c.args.spec.now.run c.args.ranks.now) kind));
}

pub loop-place-preserved : goal.loop-place-preserved
loop-place-preserved c = record {
  at = c.in_ok-state.ensures.back;
  states = λ kind.
      subst (λ fs. AreOfLines c.args.tables.now (drawn c.args.spec.now.run c.args.ranks.now) kind c.line_state.new.shows (c.loop-place.place + 1) fs)
      (sym (c.push_reserved.ensures.items ∙ ap (λ fs. fs ++ c.in_ok-state.state ∷ []) c.in_ok-reserve.ensures.items))
      (lines-next c.args.tables.now (drawn c.args.spec.now.run c.args.ranks.now) kind c.loop-place.shows c.line_state.new.shows c.loop-place.place c.loop-place.states.items c.in_ok-state.state c.line_state.ensures.more
      (c.loop-place.invariant.states kind) (c.in_ok-state.ensures.state kind));
}

pub returns-clause-states : goal.returns-clause-states
returns-clause-states c = λ kind.
    subst (λ n. AreOfLines c.args.tables.now (drawn c.args.spec.now.run c.args.ranks.now) kind c.loop-place.shows n c.loop-place.states.items)
    (omega (arith, c.loop-place-test.false, c.loop-place.auto.place-end)) (c.loop-place.invariant.states kind)
