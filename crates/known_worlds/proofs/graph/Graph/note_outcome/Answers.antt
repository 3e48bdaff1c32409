use Rattle.std.proofs.Common.{subst}
use Rattle.known_worlds.specs.declared.graph.ToldWorld.{ToldWorld}
use Rattle.known_worlds.specs.Remembered.{IsNoted, IsToldWorld}
use Rattle.known_worlds.proofs.RememberedLemmas.{each-put}
use Rattle.known_worlds.proofs.graph.Graph.note_outcome.Goals as goal

pub returns-in-Some : goal.returns-in-Some
returns-in-Some c r is at told =
    let t : ToldWorld = record { at = c.in-Some.at; outcome = c.args.outcome } in
    let one : IsToldWorld r t = record { world = r.world; at = subst (λ o. IsNoted r.seen o r.world) c.in-Some.is at; told = told } in
    record {
      edges = is.edges;
      told = each-put (IsToldWorld r) c.args.self.now.told.items c.put_at.new.items.items t is.told one c.put_at.ensures;
      quiet = is.quiet;
    }
