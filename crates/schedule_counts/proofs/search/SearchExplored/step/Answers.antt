use Rattle.std.proofs.Common.{refl, ◌≡◌, sym, subst, true}
use Rattle.spec_schedules.specs.Points.{point_rules}
use Rattle.schedule_counts.specs.Searching.{Searched, IsPlaceOf}
use Rattle.schedule_counts.proofs.Searches.{same-prefix, kept-later, enabled-few}
use Rattle.schedule_counts.proofs.search.SearchExplored.step.Goals as goal

pub take-requires-clause-session : goal.take-requires-clause-session
take-requires-clause-session c =
    let s = c.self.inside in
    enabled-few s.machine s.tables.now s.kind s.place s.marks.items s.noted.items s.shown c.self.invariant c.args.letter (subst (λ (v : Searched). point_rules.can v.point c.args.letter ≡ true) (sym c.self.view_is) c.requires.can)

pub invariant_of-self-2 : goal.invariant_of-self-2
invariant_of-self-2 c =
    let s = c.self.inside in
    kept-later s.machine s.tables.now s.kind s.place s.marks.items s.noted.items s.shown c.self.invariant c.send.new.self c.take.new.self s.marks.items s.shown c.send.ensures.of_spec
    (same-prefix s.machine.seen c.send.new.self.seen c.send.ensures.seen) (same-prefix s.shown s.shown refl)
    (subst (λ f. IsPlaceOf f.run c.take.new.self) c.spec-spec.ensures c.take.ensures.place) c.self.invariant.at_marks
