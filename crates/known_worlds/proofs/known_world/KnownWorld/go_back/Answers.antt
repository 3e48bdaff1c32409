use Rattle.std.proofs.Common.{sym, ap, subst}
use Rattle.std.specs.Prelude.{reverse}
use Rattle.known_worlds.specs.Late.{LateRunning}
use Rattle.known_worlds.specs.Remembered.{AreNoted, IsNoted}
use Rattle.known_worlds.proofs.RememberedLemmas.{graph-same}
use Rattle.known_worlds.proofs.known_world.KnownWorld.go_back.Goals as goal

pub invariant_of-self : goal.invariant_of-self
invariant_of-self c =
    let r = c.self.inside.late in
    let s = c.go_back.new.self in
    let same = c.go_back.ensures.same in
    let seen = ap (λ (v : LateRunning). v.seen) same in
    let both = c.newest-self-inside.ensures r.seen s.world s.marked (subst (AreNoted r.seen (reverse c.self.inside.marks.items)) c.go_back.ensures.marked c.self.invariant.marks_are) in
    record {
      now = subst (λ ws. IsNoted ws c.newest-self-inside.result s.world) (sym seen) both.0;
      marks_are = subst (λ ws. AreNoted ws (reverse c.newest-self-inside.new.marks.items) s.marked) (sym seen) both.1;
      graph = graph-same r s c.self.inside.graph (ap (λ (v : LateRunning). v.file) same) seen (ap (λ (v : LateRunning). v.told) same) c.self.invariant.graph;
    }
