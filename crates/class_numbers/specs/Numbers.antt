-- Which orders are as expected.
use Rattle.std.specs.Prelude.{◌≡◌, ℕ, List, Some}
use Rattle.binding_model.specs.declared.tables.Table.{Table}
use Rattle.bound_specs.specs.Spec.{Spec}
use Rattle.spec_schedules.specs.declared.kind.Kind.{Kind}
use Rattle.spec_schedules.specs.Ranked.{IsOrderAt}
use Rattle.order_classes.specs.declared.letters.Filter.{Filter}
use Rattle.order_classes.specs.declared.shows.Shows.{Shows}
use Rattle.order_classes.specs.Asked.{Passes}
use Rattle.order_classes.specs.Looks.{Meets}
use Rattle.order_classes.specs.Shows.{shows_of_line}
use Rattle.asked_classes.specs.declared.expectations.AskedExpectation.{AskedExpectation}

-- the order of the rank is asked for: these steps, which pass all filters
pub record IsAskedFor (kind : Kind) (tables : List Table) (run : Spec) (filters : List Filter) (rank : ℕ) (ks : List ℕ) : Type 0 where
  pub order : IsOrderAt kind run rank ks
  pub shown : Shows
  pub shows : shows_of_line tables run ks ≡ Some shown
  pub passes : Passes tables run filters shown

-- and is as expected: of what it leaves the SELECT sees one row, with these values
abbrev pub IsAsExpected : Kind → List Table → Spec → List Filter → AskedExpectation → ℕ → Type 0
IsAsExpected kind tables run filters e rank = (ks : List ℕ) × IsAskedFor kind tables run filters rank ks × Meets run e.look e.values.items ks

-- or is not
abbrev pub IsNotAsExpected : Kind → List Table → Spec → List Filter → AskedExpectation → ℕ → Type 0
IsNotAsExpected kind tables run filters e rank =
    (ks : List ℕ) × IsAskedFor kind tables run filters rank ks × (Meets run e.look e.values.items ks → ⊥)

-- each order that is asked for is as expected
abbrev pub AreAsExpected : Kind → List Table → Spec → List Filter → AskedExpectation → Type 0
AreAsExpected kind tables run filters e = (rank : ℕ) (ks : List ℕ) → IsAskedFor kind tables run filters rank ks → Meets run e.look e.values.items ks
