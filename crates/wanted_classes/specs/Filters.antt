-- Which orders are asked for, by what is wanted.
use Rattle.std.specs.Prelude.{Bool, true, false, List, ◌++◌, Option, Some, None}
use Rattle.std.specs.Option.{option_to_list}
use Rattle.wanted_classes.specs.declared.wanted.WantedClasses.{WantedClasses}
use Rattle.wanted_classes.specs.declared.wanted.WantedFilter.{WantedFilter}
use Rattle.wanted_classes.specs.declared.wanted.WantedSample.{WantedSample}
use Rattle.wanted_classes.specs.declared.wanted.WantedTest.TheVariants.{NotSent}

-- each step of the order is sent
abbrev pub sendable : WantedFilter
sendable = record { test = NotSent; wanted = false }

-- of a sample those orders alone are asked for of which each step is sent, unless all orders are wanted
abbrev pub of_sample : Option WantedSample → Bool → Option WantedFilter
of_sample None all_orders = None
of_sample (Some sample) true = None
of_sample (Some sample) false = Some sendable

-- an order is asked for where it passes all of these
abbrev pub filters_of : WantedClasses → List WantedFilter
filters_of wanted = wanted.filters.items ++ option_to_list (of_sample wanted.sample wanted.all_orders)
