-- Why a spec is not tested.
use Rattle.std.proofs.Common.{◌≡◌, ⊎_elim, subst, ℕ, List, [], ◌++◌, Option, Some, slice_get}
use Rattle.std.specs.Option.{option_to_list}
use Rattle.transcripts.specs.declared.counted.Counted.{Counted}
use Rattle.binding_model.specs.declared.tables.Table.{Table}
use Rattle.bound_specs.specs.Spec.{SpecFile}
use Rattle.bound_statements.specs.declared.statement.Level.{Level}
use Rattle.wanted_classes.specs.declared.wanted.WantedClasses.{WantedClasses}
use Rattle.wanted_classes.specs.Filters.{filters_of, of_sample}
use Rattle.asked_classes.specs.Asking.{IsRefused}
use Rattle.asked_classes.specs.First.{RefusedAtFirst}
use Rattle.asked_classes.specs.declared.fault.AskedFault.{AskedFault}
use Rattle.asked_classes.specs.declared.fault.AskedFault.TheVariants as asked
use Rattle.class_commands.specs.declared.classing.ClassesFault.{ClassesFault}
use Rattle.class_commands.specs.declared.classing.ClassesFault.TheVariants as fault
use Rattle.class_commands.specs.Classing.{IsNotTold}
use Rattle.spec_levels.specs.Levelled.{IsWrongLevel}
use Rattle.test_commands.specs.Testing.{WantsAll, IsNotTested, told_as}

-- of no items none is the first that is refused
none-first : {A B : Type 0} (Gives : A → B → Type 0) (Refuses : A → AskedFault → Type 0) (items : List A) (error : AskedFault) → items ≡ []
    → RefusedAtFirst Gives Refuses items error → ⊥
none-first Gives Refuses items error none first =
    (let here : slice_get [] first.place ≡ Some first.item = subst (λ xs. slice_get xs first.place ≡ Some first.item) none first.here in cc)

-- memory ran out
abbrev pub IsWant : AskedFault → Type 0
IsWant asked.NoMemory = Unit {0}
IsWant other = ⊥

-- no filters are wanted
no-filters : (level : Option Level) (wanted : WantedClasses) → WantsAll level wanted → filters_of wanted ≡ []
no-filters level wanted all = λ k. all.every k ++ option_to_list (of_sample (all.undrawn k) (all.sent k))

-- that all is asked is refused for want of memory alone
all-asked : (level : Option Level) (wanted : WantedClasses) → WantsAll level wanted → (file : SpecFile) (tables : List Table) (error : AskedFault) → IsRefused file tables wanted error → IsWant error
all-asked level wanted all file tables asked.NoMemory h = tt
all-asked level wanted all file tables error h =
    ⊎_elim (λ first. none-first _ _ (filters_of wanted) error (no-filters level wanted all) first)
    (λ rest. ⊎_elim (λ looks. none-first _ _ wanted.queries.items error all.looks looks.1)
    (λ expectations. none-first _ _ wanted.expectations.items error all.expectations expectations.1) rest) h

pub not-tested : {W : Type 0} (contents : W → Option (List ℕ)) (old new : Counted W) (bytes name : List ℕ) (level : Option Level) (wanted : WantedClasses) → WantsAll level wanted
    → (fault : ClassesFault) → IsNotTold contents old new bytes name wanted fault → (known : Option (List ℕ)) → IsNotTested known level bytes name (told_as fault)
not-tested contents old new bytes name level wanted all (fault.Spec error) h known = h.1
not-tested contents old new bytes name level wanted all (fault.Level error) h known = subst (λ l. IsWrongLevel bytes l error) all.at h.1
not-tested contents old new bytes name level wanted all (fault.Asked asked.NoMemory) h known = tt
not-tested contents old new bytes name level wanted all (fault.Asked error) h known = all-asked level wanted all h.1.0 h.1.2.0 error h.1.2.2
not-tested contents old new bytes name level wanted all (fault.Run error) h known = (wanted, all, h.1)
not-tested contents old new bytes name level wanted all (fault.TooMany noted) h known = (wanted, all, h.1)
not-tested contents old new bytes name level wanted all fault.NoMemory h known = tt
not-tested contents old new bytes name level wanted all (fault.Write error) h known = tt
