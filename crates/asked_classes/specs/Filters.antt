-- Which orders are meant by the filters that are wanted.
use Rattle.std.specs.Prelude.{◌≡◌, ℕ, ◌<◌, List, [], get_or, Option, Some, None}
use Rattle.std.specs.List.{AllZip}
use Rattle.bound_specs.specs.Spec.{SpecFile}
use Rattle.order_classes.specs.declared.letters.Filter.{Filter}
use Rattle.order_classes.specs.declared.letters.Test.{Test}
use Rattle.order_classes.specs.declared.letters.Test.TheVariants as the
use Rattle.wanted_classes.specs.declared.wanted.WantedFilter.{WantedFilter}
use Rattle.wanted_classes.specs.declared.wanted.WantedSample.{WantedSample}
use Rattle.wanted_classes.specs.declared.wanted.WantedTest.{WantedTest}
use Rattle.wanted_classes.specs.declared.wanted.WantedTest.TheVariants as wanted
use Rattle.asked_classes.specs.declared.fault.AskedFault.{AskedFault}
use Rattle.asked_classes.specs.declared.fault.AskedFault.TheVariants.{UnknownSession, NotTold}
use Rattle.asked_classes.specs.First.{FirstRefused}

-- the session of this name
pub record IsSessionNamed (file : SpecFile) (name : List ℕ) (k : ℕ) : Type 0 where
  pub known : k < file.run.sessions
  pub named : get_or file.session_names k [] ≡ name

-- R is told of files without permutation lines alone, and of no sample
abbrev pub TellsR : SpecFile → Option WantedSample → Type 0
TellsR file sample = (file.run.lines ≡ []) × (sample ≡ None)

module _ (file : SpecFile) (sample : Option WantedSample) where
  -- what is tested: a session is meant by its name, and R where it is told
  abbrev pub IsMeantTest : WantedTest → Test → Type 0
  IsMeantTest wanted.Waits the.Waits = Unit {0}
  IsMeantTest wanted.Deadlock (the.Deadlock session) = session ≡ None
  IsMeantTest (wanted.DeadlockOf name) (the.Deadlock session) = (k : ℕ) × IsSessionNamed file name.now k × (session ≡ Some k)
  IsMeantTest wanted.Error the.Error = Unit {0}
  IsMeantTest wanted.NotSent the.Unsent = Unit {0}
  IsMeantTest wanted.Stuck the.Stuck = Unit {0}
  IsMeantTest wanted.Anomaly the.NotSerial = TellsR file sample
  IsMeantTest asked test = ⊥

  pub record IsMeant (asked : WantedFilter) (filter : Filter) : Type 0 where
    pub test : IsMeantTest asked.test filter.test
    pub wanted : filter.wanted ≡ asked.wanted

  -- why nothing is tested: no session has the name, or R is not told
  abbrev pub IsUnmeantTest : WantedTest → AskedFault → Type 0
  IsUnmeantTest (wanted.DeadlockOf name) (UnknownSession told) = (told ≡ name) × ((k : ℕ) → IsSessionNamed file name.now k → ⊥)
  IsUnmeantTest wanted.Anomaly NotTold = TellsR file sample → ⊥
  IsUnmeantTest asked fault = ⊥

  abbrev pub IsUnmeant : WantedFilter → AskedFault → Type 0
  IsUnmeant asked fault = IsUnmeantTest asked.test fault

  -- each filter that is wanted means one
  abbrev pub AreMeant : List WantedFilter → List Filter → Type 0
  AreMeant asked filters = AllZip IsMeant asked filters

  -- the first that means none is refused
  abbrev pub AreUnmeant : List WantedFilter → AskedFault → Type 0
  AreUnmeant asked fault = FirstRefused IsMeant IsUnmeant asked fault
