use Rattle.std.proofs.Common.{◌≡◌, sym, subst, Some}
use Rattle.std.specs.Prelude.{IfSome, slice_get}
use Rattle.machine_model.specs.World.{outcome_of}
use Rattle.machine_model.specs.Outcome.{IsOutcomeOf}
use Rattle.known_worlds.specs.Late.{LateRunning}
use Rattle.known_worlds.specs.Remembered.{IsGraph, IsNoted, IsToldAs}
use Rattle.known_worlds.proofs.RememberedLemmas.{graph-told}
use Rattle.known_worlds.proofs.known_world.outcome_in.Goals as goal

pub returns-in_err-number-clause-graph : goal.returns-in_err-number-clause-graph
returns-in_err-number-clause-graph c =
    graph-told c.args.late.now c.outcome-2.new.self c.args.graph.now c.outcome-2.ensures.same c.outcome-2.ensures.front c.requires.graph

pub returns-clause-graph : goal.returns-clause-graph
returns-clause-graph c =
    let r = c.args.late.now in
    let t = c.outcome-2.new.self in
    let n = c.in_ok-number.number in
    let same = c.outcome-2.ensures.same in
    let graph : IsGraph t c.args.graph.now = graph-told r t c.args.graph.now same c.outcome-2.ensures.front c.requires.graph in
    let here : IsNoted t.seen c.args.at t.world = subst (λ (v : LateRunning). IsNoted v.seen c.args.at v.world) (sym same) c.requires.noted in
    let told = c.in_ok-number.ensures.told in
    let own : IsOutcomeOf r.file.run (outcome_of r.file.run.sessions r.world) = subst (λ o. IfSome o (IsOutcomeOf r.file.run)) told c.in_ok-number.ensures.own in
    let is : IsToldAs t t.world n = (
      subst (λ (v : LateRunning). slice_get t.told n ≡ Some (outcome_of v.file.run.sessions v.world)) (sym same) told,
      subst (λ (v : LateRunning). IsOutcomeOf v.file.run (outcome_of v.file.run.sessions v.world)) (sym same) own,
    ) in
    c.note_outcome.ensures t graph here is
