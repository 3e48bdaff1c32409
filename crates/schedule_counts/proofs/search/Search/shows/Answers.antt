use Rattle.std.proofs.Common.{refl, ap}
use Rattle.marked_worlds.specs.Worlds.{MarkedRunning}
use Rattle.schedule_counts.proofs.Searches.{same-prefix, number-prefix, kept-later}
use Rattle.schedule_counts.proofs.search.Search.shows.Goals as goal

pub invariant_of-self : goal.invariant_of-self
invariant_of-self c =
    let s = c.self.inside in
    let e = c.shows_of.ensures.same in
    kept-later s.machine s.tables.now s.kind s.place s.marks.items s.noted.items s.shown c.self.invariant c.shows_of.new.world s.place s.marks.items s.shown (ap (λ (m : MarkedRunning). m.file) e)
    (same-prefix s.machine.seen c.shows_of.new.world.seen (ap (λ (m : MarkedRunning). m.seen) e)) (same-prefix s.shown s.shown refl) c.self.invariant.here c.self.invariant.at_marks

pub invariant_of-self-in-Ok-number : goal.invariant_of-self-in-Ok-number
invariant_of-self-in-Ok-number c =
    let s = c.self.inside in
    let e = c.shows_of.ensures.same in
    kept-later s.machine s.tables.now s.kind s.place s.marks.items s.noted.items s.shown c.self.invariant c.shows_of.new.world s.place s.marks.items c.number.new.self (ap (λ (m : MarkedRunning). m.file) e)
    (same-prefix s.machine.seen c.shows_of.new.world.seen (ap (λ (m : MarkedRunning). m.seen) e)) (number-prefix s.shown c.number.new.self c.in-Ok.shows c.in-Ok-number.number c.in-Ok-number.ensures.ok)
    c.self.invariant.here c.self.invariant.at_marks

pub invariant_of-self-2 : goal.invariant_of-self-2
invariant_of-self-2 c =
    let s = c.self.inside in
    let e = c.shows_of.ensures.same in
    kept-later s.machine s.tables.now s.kind s.place s.marks.items s.noted.items s.shown c.self.invariant c.shows_of.new.world s.place s.marks.items c.number.new.self (ap (λ (m : MarkedRunning). m.file) e)
    (same-prefix s.machine.seen c.shows_of.new.world.seen (ap (λ (m : MarkedRunning). m.seen) e)) (same-prefix s.shown c.number.new.self c.in-Err.ensures.err)
    c.self.invariant.here c.self.invariant.at_marks
