use Rattle.std.proofs.Common.{sym, subst, ◌+◌, arith, get_or, set, take}
use Rattle.schedule_counts.specs.declared.counting.FinalState.{FinalState}
use Rattle.spec_classes.specs.declared.tallies.Tally.{Tally}
use Rattle.spec_classes.specs.Tallies.{AreTallies}
use Rattle.spec_classes.proofs.Tallied.{get-found, has-at, state-next, state-fits}
use Rattle.spec_classes.proofs.tallies.tallies_of.Goals as goal

abbrev none : FinalState
none = record { state = 0; shows = 0; count = 0; first = 0 }

pub index_mut-tally-requires : goal.index_mut-tally-requires
index_mut-tally-requires c =
    let inside = c.requires.countable.within (get_or c.args.states.now c.loop-state.state-index none) (has-at c.args.states.now c.loop-state.state-index none c.loop-state-test.true) in
    omega (arith, inside, c.loop-state.invariant.long, c.loop-state.tallies.ok.0)

pub joined-requires : goal.joined-requires
joined-requires c =
    let inside = c.requires.countable.within (get_or c.args.states.now c.loop-state.state-index none) (has-at c.args.states.now c.loop-state.state-index none c.loop-state-test.true) in
    let at = get-found c.loop-state.tallies.items (get_or c.args.states.now c.loop-state.state-index none).shows c.index_mut-tally.result.now
    (omega (arith, inside, c.loop-state.invariant.long)) c.index_mut-tally.ensures.value in
    state-fits c.args.numbers c.args.states.now c.loop-state.tallies.items c.loop-state.state-index none c.index_mut-tally.result.now c.loop-state-test.true c.loop-state.invariant at c.requires.few

pub loop-state-preserved : goal.loop-state-preserved
loop-state-preserved c =
    let inside = c.requires.countable.within (get_or c.args.states.now c.loop-state.state-index none) (has-at c.args.states.now c.loop-state.state-index none c.loop-state-test.true) in
    let at = get-found c.loop-state.tallies.items (get_or c.args.states.now c.loop-state.state-index none).shows c.index_mut-tally.result.now
    (omega (arith, inside, c.loop-state.invariant.long)) c.index_mut-tally.ensures.value in
    subst (λ (t : Tally). AreTallies c.args.numbers (take (c.loop-state.state-index + 1) c.args.states.now) (set c.loop-state.tallies.items (get_or c.args.states.now c.loop-state.state-index none).shows t))
    (sym c.joined.ensures)
    (state-next c.args.numbers c.args.states.now c.loop-state.tallies.items c.loop-state.state-index none c.index_mut-tally.result.now c.loop-state-test.true c.loop-state.invariant at
    c.requires.countable)
