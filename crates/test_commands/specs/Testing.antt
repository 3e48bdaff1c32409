-- A spec beside its accepted record.
use Rattle.std.specs.Prelude.{◌≡◌, ◌≢◌, ◌⊎◌, ℕ, ◌<◌, ◌++◌, ◌∷◌, true, false, All, List, [], length, get_or, Option, None, IfSome}
use Rattle.book_commands.specs.Joining.{Files}
use Rattle.bound_statements.specs.declared.statement.Level.{Level}
use Rattle.wanted_classes.specs.declared.wanted.WantedClasses.{WantedClasses}
use Rattle.wanted_classes.specs.declared.wanted.WantedForm.TheVariants.{Record}
use Rattle.asked_classes.specs.declared.fault.AskedFault.TheVariants as asked
use Rattle.class_commands.specs.declared.classing.ClassesFault.{ClassesFault}
use Rattle.class_commands.specs.declared.classing.ClassesFault.TheVariants as fault
use Rattle.spec_binding.specs.SpecFiles.{IsNoSpec}
use Rattle.spec_levels.specs.Levelled.{IsWrongLevel}
use Rattle.class_commands.specs.Classing.{IsTellingOf, IsNotAsked, IsNotExplored, IsNotRun}
use Rattle.test_commands.specs.declared.listing.TheConstants.{MAX_SPECS}
use Rattle.test_commands.specs.declared.listing.SpecsFault.{SpecsFault}
use Rattle.test_commands.specs.declared.listing.SpecsFault.TheVariants.{NoneIn, TooMany}
use Rattle.test_commands.specs.declared.listing.SpecsFault.TheVariants as specs
use Rattle.test_commands.specs.declared.testing.Tested.{Tested}
use Rattle.test_commands.specs.declared.testing.Verdict.{Verdict}
use Rattle.test_commands.specs.declared.testing.Verdict.TheVariants.{Same, Other, Missing}
use Rattle.test_commands.specs.declared.testing.TestFault.{TestFault}
use Rattle.test_commands.specs.declared.testing.TestFault.TheVariants.{Classes, Accepted, NoMemory}

-- the record of the results of all orders that clients can send, at a level, or at the one for which the file asks
pub record WantsAll (level : Option Level) (wanted : WantedClasses) : Type 0 where
  pub sent : wanted.all_orders ≡ false
  pub undrawn : wanted.sample ≡ None
  pub results : wanted.by_result ≡ true
  pub every : wanted.filters.items ≡ []
  pub looks : wanted.queries.items ≡ []
  pub expectations : wanted.expectations.items ≡ []
  pub as_record : wanted.form ≡ Record
  pub at : wanted.level ≡ level

-- the text is the record at a level of the spec file that the bytes are, under a name
abbrev pub IsText : Option Level → List ℕ → List ℕ → List ℕ → Type 0
IsText level bytes name text = (wanted : WantedClasses) × WantsAll level wanted × IsTellingOf bytes name wanted text

-- what a file is beside a text, where its bytes are known
abbrev pub IsVerdict : Option (List ℕ) → List ℕ → Verdict → Type 0
IsVerdict known text Same = IfSome known (λ accepted. accepted ≡ text)
IsVerdict known text (Other other) = IfSome known (λ accepted. accepted ≢ text)
IsVerdict known text Missing = known ≡ None

pub record IsTested (known : Option (List ℕ)) (level : Option Level) (bytes name : List ℕ) (tested : Tested) : Type 0 where
  pub text : IsText level bytes name tested.text.items
  pub verdict : IsVerdict known tested.text.items tested.verdict

-- why a spec is not tested: the bytes are no spec file, what it says of levels is wrong, its orders are not run, or there is no room for all states; the accepted file is not read; or memory
-- ran out. That all of a file's classes is asked is refused of no file
abbrev pub IsNotTested : Option (List ℕ) → Option Level → List ℕ → List ℕ → TestFault → Type 0
IsNotTested known level bytes name (Classes (fault.Spec error)) = IsNoSpec bytes error
IsNotTested known level bytes name (Classes (fault.Level error)) = IsWrongLevel bytes level error
IsNotTested known level bytes name (Classes (fault.Asked asked.NoMemory)) = Unit {0}
IsNotTested known level bytes name (Classes (fault.Asked error)) = ⊥
IsNotTested known level bytes name (Classes (fault.Run error)) =
    (wanted : WantedClasses) × WantsAll level wanted × IsNotAsked bytes wanted (λ file tables. IsNotRun file tables wanted error)
IsNotTested known level bytes name (Classes (fault.TooMany noted)) =
    (wanted : WantedClasses) × WantsAll level wanted × IsNotAsked bytes wanted (λ file tables. IsNotExplored file tables wanted)
IsNotTested known level bytes name (Classes fault.NoMemory) = ⊥
IsNotTested known level bytes name (Classes (fault.Write error)) = ⊥
IsNotTested known level bytes name Accepted = known ≡ None
IsNotTested known level bytes name NoMemory = Unit {0}

-- the fault of a spec whose classes are not told: a text in memory is not written where there is none left
abbrev pub told_as : ClassesFault → TestFault
told_as (fault.Spec error) = Classes (fault.Spec error)
told_as (fault.Level error) = Classes (fault.Level error)
told_as (fault.Asked error) = Classes (fault.Asked error)
told_as (fault.Run error) = Classes (fault.Run error)
told_as (fault.TooMany noted) = Classes (fault.TooMany noted)
told_as fault.NoMemory = NoMemory
told_as (fault.Write error) = NoMemory

-- ---- which specs

-- the paths are those of files whose bytes are known
abbrev pub AreKnown : Files → List (List ℕ) → Type 0
AreKnown files paths = All (λ path. files path ≢ None) paths

-- where they are, the specs are those files
abbrev pub AreSpecsAt : Files → List (List ℕ) → List (List ℕ) → Type 0
AreSpecsAt files paths specs = AreKnown files paths → specs ≡ paths

-- why it is not known which specs there are: at one of the paths is a folder that has none; or there are too many, of files whose bytes are known more
-- paths than a test may have specs; or memory ran out
abbrev pub AreNoSpecs : Files → List (List ℕ) → SpecsFault → Type 0
AreNoSpecs files paths (NoneIn path) = (files path.now ≡ None) × ((place : ℕ) × (place < length paths) × (path.now ≡ get_or paths place []))
AreNoSpecs files paths TooMany = AreKnown files paths → MAX_SPECS < length paths
AreNoSpecs files paths specs.NoMemory = Unit {0}

-- ---- steps on the way

-- the file at a path is one spec more; where its bytes are not known it may be a folder
abbrev pub IsPathAdded : Option (List ℕ) → List ℕ → List (List ℕ) → List (List ℕ) → Type 0
IsPathAdded known path before specs = (known ≡ None) ⊎ (specs ≡ before ++ path ∷ [])

-- why a path is not taken, where so many are
abbrev pub IsPathRefused : Option (List ℕ) → List ℕ → ℕ → SpecsFault → Type 0
IsPathRefused known path count (NoneIn told) = (told.now ≡ path) × (known ≡ None)
IsPathRefused known path count TooMany = (known ≡ None) ⊎ (count ≡ MAX_SPECS)
IsPathRefused known path count specs.NoMemory = Unit {0}

-- of the folder at this path there are none; or there are too many, or memory ran out
abbrev pub IsNoneIn : List ℕ → SpecsFault → Type 0
IsNoneIn path (NoneIn told) = told.now ≡ path
IsNoneIn path TooMany = Unit {0}
IsNoneIn path specs.NoMemory = Unit {0}

-- one more is too many, or memory ran out
abbrev pub IsNoMore : ℕ → SpecsFault → Type 0
IsNoMore count (NoneIn told) = ⊥
IsNoMore count TooMany = count ≡ MAX_SPECS
IsNoMore count specs.NoMemory = Unit {0}
