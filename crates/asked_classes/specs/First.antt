-- What is given for each of some items, or why there is nothing for the first of which that is so.
use Rattle.std.specs.Prelude.{◌≡◌, ℕ, List, take, slice_get, Some}
use Rattle.std.specs.List.{AllZip}
use Rattle.asked_classes.specs.declared.fault.AskedFault.{AskedFault}
use Rattle.asked_classes.specs.declared.fault.AskedFault.TheVariants.{NoMemory}

-- the items before the one at this place are given something each, and it is refused
pub record RefusedAtFirst {A B : Type 0} (Gives : A → B → Type 0) (Refuses : A → AskedFault → Type 0) (items : List A) (fault : AskedFault) : Type 0 where
  pub place : ℕ
  pub item : A
  pub here : slice_get items place ≡ Some item
  pub before : (given : List B) × AllZip Gives (take place items) given
  pub refused : Refuses item fault

-- there is such an item, or memory ran out
abbrev pub FirstRefused : {A B : Type 0} → (A → B → Type 0) → (A → AskedFault → Type 0) → List A → AskedFault → Type 0
FirstRefused Gives Refuses items NoMemory = Unit {0}
FirstRefused Gives Refuses items fault = RefusedAtFirst Gives Refuses items fault
