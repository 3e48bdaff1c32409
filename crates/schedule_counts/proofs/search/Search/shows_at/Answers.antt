use Rattle.std.proofs.Common.{◌≡◌, sym, ap, subst, ◌∙◌, Some}
use Rattle.std.specs.Prelude.{slice_get}
use Rattle.world_graph.specs.Worlds.{IsOver}
use Rattle.spec_schedules.specs.Points.{Point, point_rules}
use Rattle.schedule_counts.specs.Searching.{Searched, HasShows}
use Rattle.schedule_counts.proofs.Searches.{at-place, shows-is}
use Rattle.schedule_counts.proofs.search.Search.shows_at.Goals as goal

pub returns : goal.returns
returns c =
    let s = c.self.inside in
    let l = c.in_ok-get.ensures.lookup in
    let at : slice_get s.noted.items c.args.number ≡ Some c.in_ok-get.field-0.now =
    ap (λ xs. slice_get xs c.args.number) (sym c.deref.ensures.value) ∙ at-place c.deref.result.now c.args.number c.in_ok-get.field-0.now l.3.0 l.3.1 in
    subst (λ (v : Searched). (p : Point) → slice_get v.seen c.args.number ≡ Some p → IsOver point_rules p → HasShows v.tables v.shown p c.in_ok-get.field-0.now.shows) c.self.view_is
    (shows-is s.machine s.tables.now s.kind s.place s.marks.items s.noted.items s.shown c.self.invariant c.in_ok-get.field-0.now c.args.number at)
