-- What the program finds of specs beside the accepted records of their classes.
use Rattle.std.specs.Prelude.{◌≡◌, ◌≢◌, ◌⊎◌, ℕ, Bool, true, false, cond, nat_lt, List, [], ◌∷◌, take, Option, None, IfSome, Result, Ok, Err}
use Rattle.std.specs.List.{AllZip}
use Rattle.bound_statements.specs.declared.statement.Level.{Level}
use Rattle.book_commands.specs.declared.finding.Finding.{Finding}
use Rattle.book_commands.specs.declared.finding.Finding.TheVariants.{Good, Bad, Refused, NoMemory, Unread}
use Rattle.book_commands.specs.Finding.{finding_status}
use Rattle.book_commands.specs.Joining.{Files}
use Rattle.accepted_classes.specs.Names.{IsAcceptedPath, IsFileName}
use Rattle.fault_texts.specs.declared.fault.ProgramFault.{ProgramFault}
use Rattle.fault_texts.specs.declared.fault.ProgramFault.TheVariants as fault
use Rattle.class_commands.specs.declared.classing.ClassesFault.{ClassesFault}
use Rattle.test_commands.specs.declared.testing.TestFault.{TestFault}
use Rattle.test_commands.specs.declared.testing.TestFault.TheVariants as test
use Rattle.test_commands.specs.declared.listing.SpecsFault.TheVariants.{NoneIn, TooMany}
use Rattle.test_commands.specs.Testing.{IsText, IsNotTested, AreSpecsAt, AreNoSpecs}
use Rattle.program_commands.specs.declared.files.TheConstants.{MAX_SPEC_READ}
use Rattle.program_commands.specs.Faults.{Path, classing_told}

-- ---- one spec

-- of the spec file at a path: what is read of it, its name, and the path of its accepted record
pub record IsSpecAt (files : Files) (path bytes name accepted : List ℕ) : Type 0 where
  pub read : IfSome (files path) (λ all. bytes ≡ take MAX_SPEC_READ all)
  pub named : IsFileName path name
  pub beside : IsAcceptedPath path accepted

-- what its record at a level is beside its own accepted record, where the bytes of both are known
abbrev pub IsCompared : Files → Option Level → List ℕ → (List ℕ → List ℕ → Type 0) → Type 0
IsCompared files level path Are =
    (bytes name accepted text : List ℕ) × IsSpecAt files path bytes name accepted × IsText level bytes name text × IfSome (files accepted) (λ known. Are known text)

-- where accepted records are left as they are
abbrev pub IsUnless : Bool → Type 0 → Type 0
IsUnless true Is = Unit {0}
IsUnless false Is = Is

-- how a fault ends
abbrev pub fault_found : ProgramFault → Finding
fault_found fault.NoMemory = NoMemory
fault_found (fault.Read path) = Unread
fault_found fault.Write = Unread
fault_found other = Refused

-- what is told of a spec that is not tested
abbrev pub testing_told : Path → Path → TestFault → ProgramFault
testing_told path accepted (test.Classes fault) = classing_told path fault
testing_told path accepted test.Accepted = fault.Read accepted
testing_told path accepted test.NoMemory = fault.NoMemory

-- it is no spec file at a level, or its orders are not run, and that is no want of memory
abbrev pub IsRefusedAt : Files → Option Level → List ℕ → Type 0
IsRefusedAt files level path =
    (bytes name accepted : List ℕ) × IsSpecAt files path bytes name accepted
    × ((fault : ClassesFault) × IsNotTested (files accepted) level bytes name (test.Classes fault) × ((told : Path) × (fault_found (classing_told told fault) ≡ Refused)))

-- it is not read, or its accepted record is not; or that is to be written
abbrev pub IsUnreadAt : Files → Bool → List ℕ → Type 0
IsUnreadAt files updates path = (files path ≡ None) ⊎ (((accepted : List ℕ) × IsAcceptedPath path accepted × (files accepted ≡ None)) ⊎ (updates ≡ true))

-- what is found of one spec at a level, or at the one for which its file asks: unless its accepted record is written, nothing is amiss where its record is the accepted one, and something is
-- where it is another, or where there is none
abbrev pub IsFoundOf : Files → Option Level → Bool → List ℕ → Finding → Type 0
IsFoundOf files level updates path Good = IsCompared files level path (λ known text. IsUnless updates (known ≡ text))
IsFoundOf files level updates path Bad = (updates ≡ false) × IsCompared files level path (λ known text. known ≢ text)
IsFoundOf files level updates path Refused = IsRefusedAt files level path
IsFoundOf files level updates path NoMemory = Unit {0}
IsFoundOf files level updates path Unread = IsUnreadAt files updates path

-- ---- several

-- of two findings the one that ends with the greater status
abbrev pub worse : Finding → Finding → Finding
worse a b = cond (nat_lt (finding_status a) (finding_status b)) b a

-- of a finding and several more the worst
abbrev pub worst_with : Finding → List Finding → Finding
worst_with worst [] = worst
worst_with worst (finding ∷ findings) = worst_with (worse worst finding) findings

-- of several findings the worst
abbrev pub worst : List Finding → Finding
worst findings = worst_with Good findings

-- the worst of what is found of some specs, each by itself
pub record IsWorstOf (files : Files) (level : Option Level) (updates : Bool) (specs : List (List ℕ)) (finding : Finding) : Type 0 where
  pub findings : List Finding
  pub each : AllZip (IsFoundOf files level updates) specs findings
  pub is_worst : finding ≡ worst findings

-- what may be found of a report: that it is written, or not, or that there was no memory for it
abbrev pub IsReportEnd : Finding → Type 0
IsReportEnd Good = Unit {0}
IsReportEnd Bad = ⊥
IsReportEnd Refused = ⊥
IsReportEnd NoMemory = Unit {0}
IsReportEnd Unread = Unit {0}

-- What is found of the specs at some paths, in files and folders: of these specs, which are the paths themselves where each is that of a file whose
-- bytes are known, the worst; or what is found of the report that is asked for, where that is worse
pub record IsTestOf (files : Files) (paths : List (List ℕ)) (level : Option Level) (updates reports : Bool) (finding : Finding) : Type 0 where
  pub specs : List (List ℕ)
  pub are : AreSpecsAt files paths specs
  pub of_specs : Finding
  pub is_worst : IsWorstOf files level updates specs of_specs
  pub of_report : Finding
  pub is_report : IsReportEnd of_report
  pub unasked : reports ≡ false → of_report ≡ Good
  pub is_found : finding ≡ worse of_specs of_report

-- that; or memory ran out before any, it is not known which they are, or what is told is not written
abbrev pub IsTestRun : Files → List (List ℕ) → Option Level → Bool → Bool → Result Finding ProgramFault → Type 0
IsTestRun files paths level updates reports (Ok finding) = IsTestOf files paths level updates reports finding
IsTestRun files paths level updates reports (Err fault.NoMemory) = Unit {0}
IsTestRun files paths level updates reports (Err (fault.NoSpecs path)) = AreNoSpecs files paths (NoneIn path)
IsTestRun files paths level updates reports (Err fault.TooManySpecs) = AreNoSpecs files paths TooMany
IsTestRun files paths level updates reports (Err fault.Write) = Unit {0}
IsTestRun files paths level updates reports (Err other) = ⊥
