use Rattle.std.proofs.Common.{◌≡◌, Err, sym, subst, ap}
use Rattle.std.proofs.lemmas.Result.{err_from_is_err_and}
use Rattle.path_counts.specs.declared.CountError.TheVariants.{TooLarge}
use Rattle.path_counts.specs.Counted.{AreCounts}
use Rattle.path_counts.specs.Paths.{AreWithin, AreSmall}
use Rattle.world_graph.proofs.Words.{census-of, small-of}
use Rattle.world_graph.proofs.schedules.census.Goals as goal

pub counts-requires-clause-within : goal.counts-requires-clause-within
counts-requires-clause-within g c = subst (λ es. AreWithin c.in_ok-graph.graph.nodes es) (sym c.as_slice.ensures.value) c.in_ok-graph.ensures.graph.within

pub returns-clause-census : goal.returns-clause-census
returns-clause-census g c =
    let graph = c.in_ok-graph.graph in
    let is = c.in_ok-graph.ensures.graph in
    census-of g.E.Explored.rules (g.E.Explored.seen c.explore.new.explored) (g.E.Explored.world c.args.explored.now) graph.root graph.nodes graph.edges.items is c.in_ok-reached.reached.items
    (subst (λ es. AreCounts es graph.root graph.nodes c.in_ok-reached.reached.items) c.as_slice.ensures.value c.in_ok-reached.ensures.counts)
    (λ to count least h. c.paths_are_words.ensures.words graph.edges.items graph.root to count least is.order h)
    (λ a b to other h k s. c.paths_are_words.ensures.one graph.edges.items a b graph.root to other is.order h k s)

pub returns-in_err-reached-clause-large : goal.returns-in_err-reached-clause-large
returns-in_err-reached-clause-large g c = λ e few.
    let graph = c.in_ok-graph.graph in
    let is = c.in_ok-graph.ensures.graph in
    let p = err_from_is_err_and c.from_residual-in_err-reached.result c.from_residual-in_err-reached.ensures.1 in
    let q = p.1 in
    let k = p.2 in
    let large : c.in_err-reached.field-0.0 ≡ TooLarge = cc in
    c.in_err-reached.ensures.large (ap Err large)
    (subst (λ es. AreSmall es graph.root) (sym c.as_slice.ensures.value)
    (small-of g.E.Explored.rules (g.E.Explored.seen c.explore.new.explored) (g.E.Explored.world c.args.explored.now) graph.root graph.nodes graph.edges.items is
    (λ a b to other h k s. c.paths_are_words.ensures.one graph.edges.items a b graph.root to other is.order h k s) few))
