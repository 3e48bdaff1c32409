use Rattle.std.proofs.Common.{subst}
use Rattle.machine_model.specs.World.{send}
use Rattle.known_worlds.specs.declared.graph.Edge.{Edge}
use Rattle.known_worlds.specs.Remembered.{IsEdge, IsNoted}
use Rattle.known_worlds.proofs.RememberedLemmas.{each-put}
use Rattle.known_worlds.proofs.graph.Graph.note_next.Goals as goal

pub returns-in-Some-to : goal.returns-in-Some-to
returns-in-Some-to c r w is at to =
    let e : Edge = record { from = c.in-Some.from; step = c.args.step; to = c.in-Some-to.to } in
    let edge : IsEdge r e = record {
      world = w;
      from = subst (λ o. IsNoted r.seen o w) c.in-Some.is at;
      to = subst (λ o. IsNoted r.seen o (send r.file.run.steps w c.args.step)) c.in-Some-to.is to;
    } in
    record {
      edges = each-put (IsEdge r) c.args.self.now.edges.items c.put_at.new.items.items e is.edges edge c.put_at.ensures;
      told = is.told;
      quiet = is.quiet;
    }
