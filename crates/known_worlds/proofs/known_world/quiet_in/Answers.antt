use Rattle.known_worlds.proofs.RememberedLemmas.{graph-still}
use Rattle.known_worlds.proofs.known_world.quiet_in.Goals as goal

pub returns-in_err-yes-clause-graph : goal.returns-in_err-yes-clause-graph
returns-in_err-yes-clause-graph c = graph-still c.args.late.now c.is_quiet.new.self c.args.graph.now c.is_quiet.ensures.same c.requires.graph

pub returns-clause-graph : goal.returns-clause-graph
returns-clause-graph c = graph-still c.args.late.now c.is_quiet.new.self c.note_quiet.new.self c.is_quiet.ensures.same
    (c.note_quiet.ensures c.args.late.now c.requires.graph c.requires.noted c.in_ok-yes.ensures.answer)
