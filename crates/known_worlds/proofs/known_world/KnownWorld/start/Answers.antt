use Rattle.std.proofs.Common.{◌∙◌, sym, ap, subst, []}
use Rattle.std.specs.Prelude.{reverse}
use Rattle.known_worlds.specs.Late.{LateRunning}
use Rattle.known_worlds.specs.Remembered.{AreNoted, IsNoted}
use Rattle.known_worlds.proofs.known_world.KnownWorld.start.Goals as goal

pub invariant_of-result : goal.invariant_of-result
invariant_of-result c =
    let t = c.number_of.new.late in
    record {
      now = subst (IsNoted t.seen c.in_ok-at.at) (sym (ap (λ (v : LateRunning). v.world) c.number_of.ensures.same)) c.in_ok-at.ensures.known;
      marks_are = subst (λ ms. AreNoted t.seen (reverse ms) t.marked) (sym c.new-2.ensures.items)
          (subst (AreNoted t.seen []) (sym (ap (λ (v : LateRunning). v.marked) c.number_of.ensures.same ∙ c.in_ok-late.ensures.marked)) tt);
      graph = c.new.ensures t;
    }
