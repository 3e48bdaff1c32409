use Rattle.std.proofs.Common.{ap}
use Rattle.known_worlds.specs.Late.{LateRunning}
use Rattle.known_worlds.proofs.RememberedLemmas.{marks-more}
use Rattle.known_worlds.proofs.known_world.KnownWorld.send.Goals as goal

pub invariant_of-self : goal.invariant_of-self
invariant_of-self c = record {
  now = c.in-Ok.ensures.noted;
  marks_are = marks-more c.self.inside.late c.step_on.new.late c.self.inside.marks.items (ap (λ (v : LateRunning). v.marked) c.step_on.ensures.same) c.step_on.ensures.front
      c.self.invariant.marks_are;
  graph = c.step_on.ensures.graph;
}

pub invariant_of-self-in-Err : goal.invariant_of-self-in-Err
invariant_of-self-in-Err c = record {
  now = tt;
  marks_are = marks-more c.self.inside.late c.step_on.new.late c.self.inside.marks.items (ap (λ (v : LateRunning). v.marked) c.step_on.ensures.same) c.step_on.ensures.front
      c.self.invariant.marks_are;
  graph = c.step_on.ensures.graph;
}
