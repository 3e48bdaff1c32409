use Rattle.std.proofs.Common.{◌≡◌, sym, subst, ◌∙◌}
use Rattle.world_graph.specs.Census.{AreFinals}
use Rattle.spec_schedules.specs.Points.{Point, point_rules, start_point}
use Rattle.schedule_counts.specs.States.{AreFinalStates, AreOver, AreStatesOf}
use Rattle.schedule_counts.proofs.Ends.{finals-over, finals-run, states-counted}
use Rattle.schedule_counts.proofs.counting.final_states.Goals as goal

pub found-requires : goal.found-requires
found-requires g c =
    let p = c.in_ok-search.ensures.point in
    let run = c.args.spec.now.run in
    let seen = c.finals-counted.new.explored.search.seen in
    let is : AreFinals point_rules seen (start_point c.args.kind run p.0) c.in-Ok.finals.items = subst (λ (x : Point). AreFinals point_rules seen x c.in-Ok.finals.items) p.2 c.in-Ok.ensures.finals in
    subst (λ fs. AreOver seen fs) (sym c.as_slice.ensures.value) (finals-over c.args.kind run p.0 seen c.in-Ok.finals.items is)

pub returns-in_ok-found-in-Ok-clause-counted : goal.returns-in_ok-found-in-Ok-clause-counted
returns-in_ok-found-in-Ok-clause-counted g c =
    let p = c.in_ok-search.ensures.point in
    let run = c.args.spec.now.run in
    let search = c.finals-counted.new.explored.search in
    let finals = c.in-Ok.finals.items in
    let is : AreFinals point_rules search.seen (start_point c.args.kind run p.0) finals = subst (λ (x : Point). AreFinals point_rules search.seen x finals) p.2 c.in-Ok.ensures.finals in
    let tables : search.tables ≡ c.args.tables.now = c.in-Ok.ensures.fixed ∙ c.in_ok-search.ensures.tables in
    let few = c.in_ok-search.ensures.sessions in
    let all = c.orders_are_words.ensures c.args.kind run p.0 search.seen finals few is in
    let shows = c.in_ok-found-in-Ok.field-0.shows in
    let states = c.in_ok-found-in-Ok.field-0.states.items in
    let of : AreStatesOf search.tables search.seen shows finals states =
    subst (λ fs. AreStatesOf search.tables search.seen shows fs states) c.as_slice.ensures.value c.in_ok-found-in-Ok.ensures in
    let final : AreFinalStates c.args.kind c.args.tables.now run p.0 shows states =
    subst (λ ts. AreFinalStates c.args.kind ts run p.0 shows states) tables
    (states-counted c.args.kind run p.0 search.seen finals search.tables shows states of all (finals-run c.args.kind run p.0 search.seen finals is)) in
    (p.0, p.1, final, c.sums_are_exact.ensures c.args.kind c.args.tables.now run p.0 shows states few c.in_ok-search.ensures.few final)
