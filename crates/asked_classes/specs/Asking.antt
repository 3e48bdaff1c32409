-- All that is asked of the classes of a spec, by what is wanted.
use Rattle.std.specs.Prelude.{◌⊎◌, List}
use Rattle.binding_model.specs.declared.tables.Table.{Table}
use Rattle.bound_specs.specs.Spec.{SpecFile}
use Rattle.order_classes.specs.declared.letters.Filter.{Filter}
use Rattle.wanted_classes.specs.declared.wanted.WantedClasses.{WantedClasses}
use Rattle.wanted_classes.specs.Filters.{filters_of}
use Rattle.asked_classes.specs.declared.asking.AskedClasses.{AskedClasses}
use Rattle.asked_classes.specs.declared.fault.AskedFault.{AskedFault}
use Rattle.asked_classes.specs.declared.looks.AskedLook.{AskedLook}
use Rattle.asked_classes.specs.Filters.{AreMeant, AreUnmeant}
use Rattle.asked_classes.specs.Looks.{AreLooks, AreNoLooks, AreExpectations, AreNoExpectations}

-- which orders, what is looked at, and what is expected
pub record IsAsked (file : SpecFile) (tables : List Table) (wanted : WantedClasses) (asked : AskedClasses) : Type 0 where
  pub filters : AreMeant file wanted.sample (filters_of wanted) asked.filters.items
  pub looks : AreLooks tables wanted.queries.items asked.looks.items
  pub expectations : AreExpectations tables wanted.expectations.items asked.expectations.items

-- all filters are meant
abbrev pub HasFilters : SpecFile → WantedClasses → Type 0
HasFilters file wanted = (filters : List Filter) × AreMeant file wanted.sample (filters_of wanted) filters

-- and all looks are
abbrev pub HasLooks : SpecFile → List Table → WantedClasses → Type 0
HasLooks file tables wanted = HasFilters file wanted × ((looks : List AskedLook) × AreLooks tables wanted.queries.items looks)

-- why nothing is asked: the first filter that is none of the spec; or the first look that is none; or the first expectation
abbrev pub IsRefused : SpecFile → List Table → WantedClasses → AskedFault → Type 0
IsRefused file tables wanted fault =
    AreUnmeant file wanted.sample (filters_of wanted) fault
    ⊎ ((HasFilters file wanted × AreNoLooks tables wanted.queries.items fault)
    ⊎ (HasLooks file tables wanted × AreNoExpectations tables wanted.expectations.items fault))
