use Rattle.std.proofs.Common.{◌≡◌, length, sym, ap, subst, ◌∙◌}
use Rattle.path_counts.specs.Paths.{AreWithin}
use Rattle.world_graph.specs.Census.{AreEnds, AreFinals, finals_of}
use Rattle.world_graph.proofs.LastNodes.{finals-of}
use Rattle.world_graph.proofs.schedules.finals.Goals as goal

pub ends_of-requires : goal.ends_of-requires
ends_of-requires g c = subst (λ es. AreWithin c.in_ok-found.found.graph.nodes es) (sym c.as_slice.ensures.value) c.in_ok-found.ensures.graph.within

pub returns-clause-finals : goal.returns-clause-finals
returns-clause-finals g c =
    let graph = c.in_ok-found.found.graph in
    let all = c.in_ok-found.found.reached.items in
    let r = g.E.Explored.rules in
    let seen = g.E.Explored.seen c.census.new.explored in
    let start = g.E.Explored.world c.args.explored.now in
    let ends : AreEnds graph.edges.items graph.nodes c.in_ok-ends.ends.items = subst (λ es. AreEnds es graph.nodes c.in_ok-ends.ends.items) c.as_slice.ensures.value c.in_ok-ends.ensures in
    let is : c.in_ok-finals.finals.items ≡ finals_of c.in_ok-ends.ends.items all graph.nodes =
    c.in_ok-finals.ensures ∙ ap (λ bs. finals_of bs c.as_slice-3.result.now (length c.as_slice-3.result.now)) c.as_slice-2.ensures.value
    ∙ ap (λ cs. finals_of c.in_ok-ends.ends.items cs (length cs)) c.as_slice-3.ensures.value ∙ ap (finals_of c.in_ok-ends.ends.items all) c.in_ok-found.ensures.long in
    subst (λ fs. AreFinals r seen start fs) (sym is)
    (finals-of r seen start graph.nodes graph.edges.items all c.in_ok-found.ensures.census c.in_ok-ends.ends.items ends)
