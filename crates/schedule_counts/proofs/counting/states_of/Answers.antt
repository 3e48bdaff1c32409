use Rattle.std.proofs.Common.{◌≡◌, sym, subst, ◌+◌, get_or, take, [], ◌∷◌, ◌++◌}
use Rattle.std.proofs.lemmas.List.{take_more}
use Rattle.path_counts.proofs.Lists.{has-get}
use Rattle.world_graph.specs.declared.schedules.Final.{Final}
use Rattle.schedule_counts.specs.States.{AreStatesOf}
use Rattle.schedule_counts.proofs.Ends.{states-more}
use Rattle.schedule_counts.proofs.counting.states_of.Goals as goal

pub state_of-requires : goal.state_of-requires
state_of-requires c = c.requires _ (has-get c.args.finals.now c.loop-place.place (record { node = 0; count = 0; least = 0 }) c.loop-place-test.true)

pub loop-place-preserved : goal.loop-place-preserved
loop-place-preserved c =
    let finals = c.args.finals.now in
    let k = c.loop-place.place in
    let f : Final = get_or finals k (record { node = 0; count = 0; least = 0 }) in
    let seen = c.args.search.now.seen in
    let tables = c.args.search.now.tables in
    let shown = c.args.search.now.shown in
    let more : take (k + 1) finals ≡ take k finals ++ f ∷ [] = take_more finals k (record { node = 0; count = 0; least = 0 }) c.loop-place-test.true in
    subst (λ ss. AreStatesOf tables seen shown (take (k + 1) finals) ss) (sym c.in_ok-push.ensures.items)
    (subst (λ fs. AreStatesOf tables seen shown fs (c.loop-place.states.items ++ c.state_of.result ∷ [])) (sym more)
    (states-more tables seen shown (take k finals) c.loop-place.states.items f c.state_of.result c.loop-place.invariant c.state_of.ensures))
