use Rattle.std.proofs.Common.{refl, sym, ap, subst, ◌∙◌, inl, inr}
use Rattle.std.specs.Prelude.{is_ok}
use Rattle.marked_worlds.specs.Worlds.{MarkedRunning}
use Rattle.schedule_counts.specs.Searching.{IsPlaceOf}
use Rattle.schedule_counts.proofs.Searches.{same-prefix, pushed-cases, kept-later}
use Rattle.schedule_counts.proofs.search.SearchExplored.mark.Goals as goal

pub invariant_of-self-2 : goal.invariant_of-self-2
invariant_of-self-2 c =
    let s = c.self.inside in
    let e = c.in-Ok.ensures.marked in
    kept-later s.machine s.tables.now s.kind s.place s.marks.items s.noted.items s.shown c.self.invariant c.mark.new.self s.place c.push.new.self.items s.shown (ap (λ (m : MarkedRunning). m.file) e)
    (same-prefix s.machine.seen c.mark.new.self.seen (ap (λ (m : MarkedRunning). m.seen) e)) (same-prefix s.shown s.shown refl)
    c.self.invariant.here
    (λ p h. elim (pushed-cases (is_ok c.push.result) s.marks.items c.push.new.self.items c.copy.result c.push.ensures.items p h) [
      | inl a ↦ c.self.invariant.at_marks p a
      | inr b ↦ subst (λ x. IsPlaceOf s.machine.file.run x) (sym (b ∙ c.copy.ensures)) c.self.invariant.here
    ])
