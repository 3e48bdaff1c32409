use Rattle.std.proofs.Common.{rules, ◌<◌, ◌≤◌, ◌∷◌, [], take, drop, length, arith, sym, ap, ◌∙◌, length-append, Some}
use Rattle.std.proofs.lemmas.List.Elements.{All-pop}
use Rattle.marked_lists.specs.Trail.{undone, IsInside}
use Rattle.marked_lists.proofs.Undoing.{inside-set, undone-last, take-last}
use Rattle.marked_lists.proofs.trail.undo.Goals as goal

pub index_mut-requires : goal.index_mut-requires
index_mut-requires g c =
    let inside = (All-pop (IsInside c.loop-trail.items.items) c.loop-trail.trail.items c.pop.new.self.items (Some c.in-Some.write) c.in-Some.ensures.items c.loop-trail.invariant.places).1 in
    search rules

pub loop-trail-preserved-in-Some : goal.loop-trail-preserved-in-Some
loop-trail-preserved-in-Some g c =
    let items = c.loop-trail.items.items in
    let left = c.pop.new.self.items in
    let write = c.in-Some.write in
    let e = c.in-Some.ensures.items in
    let long : c.args.len < length c.loop-trail.trail.items = search rules in
    let within : c.args.len ≤ length left = omega (arith, ap length e, length-append left (write ∷ [])) in
    record {
      within = within;
      places = inside-set items write.place write.before left (All-pop (IsInside items) c.loop-trail.trail.items left (Some write) e c.loop-trail.invariant.places).0;
      items = undone-last c.args.len left write items within ∙ ap (λ writes. undone (drop c.args.len writes) items) (sym e) ∙ c.loop-trail.invariant.items;
      trail = take-last c.args.len left write within ∙ ap (take c.args.len) (sym e) ∙ c.loop-trail.invariant.trail;
    }
