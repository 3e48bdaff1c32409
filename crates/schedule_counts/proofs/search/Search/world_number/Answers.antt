use Rattle.std.proofs.Common.{refl, ap, ◌∙◌}
use Rattle.marked_worlds.specs.Worlds.{MarkedRunning}
use Rattle.schedule_counts.specs.Searching.{Searched}
use Rattle.schedule_counts.proofs.Searches.{same-prefix, kept-later, view-grown}
use Rattle.schedule_counts.proofs.search.Search.world_number.Goals as goal

pub invariant_of-self : goal.invariant_of-self
invariant_of-self c =
    let s = c.self.inside in
    let e = c.world_number.ensures.same in
    kept-later s.machine s.tables.now s.kind s.place s.marks.items s.noted.items s.shown c.self.invariant c.world_number.new.machine s.place s.marks.items s.shown (ap (λ (m : MarkedRunning). m.file) e) c.world_number.ensures.front
    (same-prefix s.shown s.shown refl) c.self.invariant.here c.self.invariant.at_marks

pub returns-clause-same : goal.returns-clause-same
returns-clause-same c =
    let s = c.self.inside in
    view-grown s.machine s.tables.now s.kind s.place s.marks.items s.noted.items s.shown c.self.invariant c.world_number.new.machine c.world_number.ensures.same c.world_number.ensures.front
    ∙ ap (λ (v : Searched). record v { worlds = c.world_number.new.machine.seen }) c.self.view_is
