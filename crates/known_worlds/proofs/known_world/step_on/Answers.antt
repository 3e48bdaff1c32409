use Rattle.std.proofs.Common.{◌≡◌, ◌∙◌, sym, ap, subst}
use Rattle.machine_model.specs.World.{send}
use Rattle.bound_specs.specs.Spec.{SpecFile}
use Rattle.known_worlds.specs.Late.{LateRunning}
use Rattle.known_worlds.specs.Remembered.{IsGraph, IsNoted}
use Rattle.known_worlds.proofs.RememberedLemmas.{graph-noted, graph-same, noted-more}
use Rattle.known_worlds.proofs.known_world.step_on.Goals as goal

pub returns-in-Some-clause-graph : goal.returns-in-Some-clause-graph
returns-in-Some-clause-graph c =
    let sent = c.in_ok-send.ensures.sent in
    graph-same c.args.late.now c.send.new.self c.args.graph.now (ap (λ (v : LateRunning). v.file) sent) (ap (λ (v : LateRunning). v.seen) sent)
    (ap (λ (v : LateRunning). v.told) sent) c.requires.graph

pub returns-in_err-to-in-None-clause-graph : goal.returns-in_err-to-in-None-clause-graph
returns-in_err-to-in-None-clause-graph c =
    let sent = c.in_ok-send.ensures.sent in
    graph-noted c.send.new.self c.number_of.new.late c.args.graph.now c.number_of.ensures.same c.number_of.ensures.front
    (graph-same c.args.late.now c.send.new.self c.args.graph.now (ap (λ (v : LateRunning). v.file) sent) (ap (λ (v : LateRunning). v.seen) sent)
    (ap (λ (v : LateRunning). v.told) sent) c.requires.graph)

pub returns-in_ok-to-in-None-clause-graph : goal.returns-in_ok-to-in-None-clause-graph
returns-in_ok-to-in-None-clause-graph c =
    let r = c.args.late.now in
    let s = c.send.new.self in
    let t = c.number_of.new.late in
    let k = c.args.step in
    let sent = c.in_ok-send.ensures.sent in
    let graph : IsGraph t c.args.graph.now = graph-noted s t c.args.graph.now c.number_of.ensures.same c.number_of.ensures.front
    (graph-same r s c.args.graph.now (ap (λ (v : LateRunning). v.file) sent) (ap (λ (v : LateRunning). v.seen) sent)
    (ap (λ (v : LateRunning). v.told) sent) c.requires.graph) in
    let here : IsNoted s.seen c.args.at r.world = subst (λ seen. IsNoted seen c.args.at r.world) (sym (ap (λ (v : LateRunning). v.seen) sent)) c.requires.noted in
    let file : t.file ≡ r.file = ap (λ (v : LateRunning). v.file) c.number_of.ensures.same ∙ ap (λ (v : LateRunning). v.file) sent in
    let there : IsNoted t.seen c.in_ok-to-in-None.to (send t.file.run.steps r.world k) = subst (λ w. IsNoted t.seen c.in_ok-to-in-None.to w)
    (ap (λ (v : LateRunning). v.world) sent ∙ ap (λ (f : SpecFile). send f.run.steps r.world k) (sym file)) c.in_ok-to-in-None.ensures.known in
    c.note_next.ensures t r.world graph (noted-more s.seen t.seen c.args.at r.world c.number_of.ensures.front here) there
