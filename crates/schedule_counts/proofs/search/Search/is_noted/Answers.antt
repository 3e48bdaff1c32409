use Rattle.std.proofs.Common.{◌≡◌, sym, ap, subst, ◌∙◌, Some}
use Rattle.std.specs.Prelude.{slice_get}
use Rattle.std.specs.Cmp.Lexicographic.{same_text}
use Rattle.schedule_counts.specs.Searching.{Searched}
use Rattle.schedule_counts.proofs.Searches.{at-place, found-is}
use Rattle.schedule_counts.proofs.search.Search.is_noted.Goals as goal

pub returns-then-noted-world : goal.returns-then-noted-world
returns-then-noted-world c =
    let s = c.self.inside in
    let l = c.in-Some.ensures.lookup in
    let at : slice_get s.noted.items c.args.world ≡ Some c.in-Some.noted.now =
    ap (λ xs. slice_get xs c.args.world) (sym c.deref.ensures.value) ∙ at-place c.deref.result.now c.args.world c.in-Some.noted.now l.3.0 l.3.1 in
    let there : slice_get s.machine.seen c.args.world ≡ Some s.machine.world = subst (λ (v : Searched). slice_get v.worlds c.args.world ≡ Some v.point.world) (sym c.self.view_is) c.requires in
    λ equal. subst (λ (v : Searched). slice_get v.seen c.args.world ≡ Some v.point) c.self.view_is
    (found-is s.machine s.tables.now s.kind s.place s.marks.items s.noted.items s.shown c.in-Some.noted.now c.args.world at c.if-noted-world.true (same_text c.in-Some.noted.now.next s.place.next (sym equal ∙ c.eq.ensures)) there)
