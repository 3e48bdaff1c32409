use Rattle.std.proofs.Common.{rules, ◌≡◌, refl, [], Some, length, sym, ap, subst, ◌∙◌}
use Rattle.std.specs.Prelude.{slice_get}
use Rattle.world_graph.specs.Worlds.{IsGraph}
use Rattle.world_graph.specs.Walking.{IsPut}
use Rattle.world_graph.specs.declared.walk.State.TheVariants.{Open}
use Rattle.world_graph.proofs.Books.{seen-later, goes-on, noted-at, noted-few, noted-goes-on}
use Rattle.world_graph.proofs.Walks.{graph-of, walk-started, bottom-started}
use Rattle.world_graph.proofs.exploring.explore.Goals as goal

pub returns-then-branch-clause-graph : goal.returns-then-branch-clause-graph
returns-then-branch-clause-graph g c =
    let r = g.E.Explored.rules in
    let start = g.E.Explored.world c.args.explored.now in
    let new = g.E.Explored.seen c.backward.new.explored in
    let walk = c.backward.new.walk in
    let starts : slice_get new c.in_ok-root.root ≡ Some start = subst (λ s. slice_get s c.in_ok-root.root ≡ Some start) (sym c.in_ok-backward.ensures.seen) c.turns.invariant.starts in
    let long : c.len.result ≡ length walk.states.items = search rules in
    subst (λ n. IsGraph r new start c.in_ok-root.root n walk.edges.items) (sym long)
    (graph-of r new start c.in_ok-root.root walk (c.in_ok-backward.ensures.over c.if-branch.true) starts (c.in_ok-backward.ensures.root ∙ c.turns.invariant.root))

pub turns-init : goal.turns-init
turns-init g c =
    let r = g.E.Explored.rules in
    let old = g.E.Explored.seen c.args.explored.now in
    let new = g.E.Explored.seen c.number.new.self in
    let root = c.in_ok-root.root in
    let start = g.E.Explored.world c.args.explored.now in
    let noted = c.in_ok-root.ensures.noted in
    let there : slice_get new root ≡ Some start = noted-at old new start root noted in
    let put : IsPut [] c.put_state.new.states.items root Open = subst (λ ss. IsPut ss c.put_state.new.states.items root Open) c.new-states.ensures.items c.in_ok-put_state.ensures in
    record {
      whole = c.in_ok-root.ensures.whole;
      walk = walk-started r new (g.E.Explored.world c.number.new.self) (g.E.Explored.marked c.number.new.self) root
          (record { root = root; states = c.put_state.new.states; parents = c.new.result; edges = c.new-2.result; at = record { node = root; letter = 0 } }) (there ∙ ap Some (sym c.in_ok-root.ensures.world)) put refl refl
          c.new.ensures.items c.new-2.ensures.items;
      most = λ few. noted-few old new start root c.args.most noted c.if-root-most.false few;
      starts = there;
      root = refl;
      fixed = c.in_ok-root.ensures.fixed;
      seen = noted-goes-on old new start root noted;
      bottom = bottom-started c.new.result.items (g.E.Explored.world c.number.new.self) start (g.E.Explored.marked c.number.new.self) (g.E.Explored.marked c.args.explored.now) c.new.ensures.items c.in_ok-root.ensures.world
          c.in_ok-root.ensures.marked;
    }

pub turns-preserved-in-Continue-branch-3 : goal.turns-preserved-in-Continue-branch-3
turns-preserved-in-Continue-branch-3 g c =
    let i = c.turns.invariant in
    let e = c.in_ok-forward.ensures in
    let now = g.E.Explored.seen c.turns.explored in
    let new = g.E.Explored.seen c.forward.new.explored in
    record {
      whole = e.whole;
      walk = e.walk;
      most = λ few. e.most (i.most few);
      starts = seen-later now new c.in_ok-root.root (g.E.Explored.world c.args.explored.now) e.seen i.starts;
      root = e.root ∙ i.root;
      fixed = e.fixed ∙ i.fixed;
      seen = goes-on (g.E.Explored.seen c.args.explored.now) now new i.seen e.seen;
      bottom = e.bottom ∙ i.bottom;
    }
