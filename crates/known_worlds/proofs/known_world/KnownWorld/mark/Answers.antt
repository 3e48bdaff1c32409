use Rattle.std.proofs.Common.{◌∙◌, ◌∷◌, ◌++◌, [], sym, ap, subst}
use Rattle.std.specs.Prelude.{reverse}
use Rattle.known_worlds.specs.Late.{LateRunning}
use Rattle.known_worlds.specs.Remembered.{AreNoted, IsNoted}
use Rattle.known_worlds.proofs.RememberedLemmas.{graph-same, mark-more}
use Rattle.known_worlds.proofs.known_world.KnownWorld.mark.Goals as goal

pub invariant_of-self-2 : goal.invariant_of-self-2
invariant_of-self-2 c =
    let r = c.self.inside.late in
    let s = c.mark.new.self in
    let at = c.self.inside.at in
    let same = c.in_ok-mark.ensures.marked in
    let pushed = c.push_reserved.ensures.items ∙ ap (λ ms. ms ++ at ∷ []) c.reserve.ensures.items in
    record {
      now = subst (λ (v : LateRunning). IsNoted v.seen at v.world) (sym same) c.self.invariant.now;
      marks_are = subst (λ (v : LateRunning). AreNoted v.seen (reverse c.push_reserved.new.self.items) v.marked) (sym same)
          (mark-more r.seen c.self.inside.marks.items c.push_reserved.new.self.items at r.world r.marked pushed c.self.invariant.now c.self.invariant.marks_are);
      graph = graph-same r s c.self.inside.graph (ap (λ (v : LateRunning). v.file) same) (ap (λ (v : LateRunning). v.seen) same) (ap (λ (v : LateRunning). v.told) same)
          c.self.invariant.graph;
    }
