use Rattle.std.proofs.Common.{refl, sym, subst, inl, [], ◌∷◌}
use Rattle.path_counts.specs.Paths.{Has}
use Rattle.path_counts.proofs.Lists.{has-left, has-right}
use Rattle.schedule_counts.proofs.Searches.{same-prefix, kept-later}
use Rattle.schedule_counts.proofs.search.SearchExplored.go_back.Goals as goal

pub invariant_of-self : goal.invariant_of-self
invariant_of-self c =
    let s = c.self.inside in
    let items = c.in-Some.ensures.items in
    kept-later s.machine s.tables.now s.kind s.place s.marks.items s.noted.items s.shown c.self.invariant c.go_back.new.self c.in-Some.place c.pop.new.self.items s.shown c.go_back.ensures.of_spec
    (same-prefix s.machine.seen c.go_back.new.self.seen c.go_back.ensures.seen) (same-prefix s.shown s.shown refl)
    (c.self.invariant.at_marks c.in-Some.place (subst (λ ps. Has c.in-Some.place ps) (sym items) (has-right c.in-Some.place c.pop.new.self.items (c.in-Some.place ∷ []) (inl refl))))
    (λ p h. c.self.invariant.at_marks p (subst (λ ps. Has p ps) (sym items) (has-left p c.pop.new.self.items (c.in-Some.place ∷ []) h)))
