use Rattle.std.proofs.Common.{subst}
use Rattle.known_worlds.specs.declared.graph.PairAnswer.{PairAnswer}
use Rattle.known_worlds.specs.Remembered.{IsNoted, IsPairAnswer}
use Rattle.known_worlds.proofs.RememberedLemmas.{each-put}
use Rattle.known_worlds.proofs.graph.Graph.note_quiet.Goals as goal

pub returns-in-Some : goal.returns-in-Some
returns-in-Some c r is at answer =
    let p : PairAnswer = record { at = c.in-Some.at; step = c.args.step; other = c.args.other; is_quiet = c.args.is_quiet } in
    let one : IsPairAnswer r p = record { world = r.world; at = subst (λ o. IsNoted r.seen o r.world) c.in-Some.is at; answer = answer } in
    record {
      edges = is.edges;
      told = is.told;
      quiet = each-put (IsPairAnswer r) c.args.self.now.quiet.items c.put_at.new.items.items p is.quiet one c.put_at.ensures;
    }
