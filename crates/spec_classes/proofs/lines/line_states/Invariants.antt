use Rattle.spec_schedules.specs.declared.kind.Kind.{Kind}
use Rattle.spec_classes.specs.Classes.{drawn}
use Rattle.spec_classes.specs.Showing.{IsAtStart}
use Rattle.spec_classes.specs.Told.{AreOfLines}
use Rattle.spec_classes.proofs.lines.line_states.Given as goal

abbrev pub invariant-loop-place : goal.invariant-loop-place
invariant-loop-place l = record { at : IsAtStart l.spec l.world; states : (kind : Kind) → AreOfLines l.tables (drawn l.spec.run l.ranks) kind l.shows l.place l.states.items }
