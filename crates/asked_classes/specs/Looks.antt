-- What is looked at and what is expected, by what is wanted.
use Rattle.std.specs.Prelude.{◌≡◌, ℕ, List, Some, None, Ok, Err}
use Rattle.std.specs.Borrow.{Bor}
use Rattle.std.specs.List.{AllZip}
use Rattle.lock_modes.specs.declared.value.Value.{Value}
use Rattle.binding_model.specs.declared.tables.Table.{Table}
use Rattle.order_classes.specs.Looks.{IsLook}
use Rattle.class_looks.specs.Reading.{look_of}
use Rattle.class_looks.specs.Values.{IsValueOf}
use Rattle.wanted_classes.specs.declared.wanted.WantedExpectation.{WantedExpectation}
use Rattle.asked_classes.specs.declared.looks.AskedLook.{AskedLook}
use Rattle.asked_classes.specs.declared.expectations.AskedExpectation.{AskedExpectation}
use Rattle.asked_classes.specs.declared.fault.AskedFault.{AskedFault}
use Rattle.asked_classes.specs.declared.fault.AskedFault.TheVariants.{NoLook, NoValue, NoMemory}
use Rattle.asked_classes.specs.First.{FirstRefused}

-- a word as it was given
abbrev pub Word : Type 0
Word = Bor (List ℕ)

-- ---- looks

-- the text is this look over the tables
pub record IsLookAsked (tables : List Table) (text : Word) (asked : AskedLook) : Type 0 where
  pub text_is : asked.text ≡ text
  pub read : look_of tables text.now ≡ Ok asked.look
  pub select : IsLook tables asked.look

-- it is none, for this reason
abbrev pub IsNoLookAsked : List Table → Word → AskedFault → Type 0
IsNoLookAsked tables text (NoLook told fault) = (told ≡ text) × (look_of tables text.now ≡ Err fault)
IsNoLookAsked tables text NoMemory = Unit {0}
IsNoLookAsked tables text fault = ⊥

abbrev pub AreLooks : List Table → List Word → List AskedLook → Type 0
AreLooks tables texts looks = AllZip (IsLookAsked tables) texts looks

abbrev pub AreNoLooks : List Table → List Word → AskedFault → Type 0
AreNoLooks tables texts fault = FirstRefused (IsLookAsked tables) (IsNoLookAsked tables) texts fault

-- ---- values

-- the word is the value as a `row` line has it
abbrev pub IsValue : Word → Value → Type 0
IsValue word v = IsValueOf word.now (Some v)

abbrev pub IsNoValue : Word → AskedFault → Type 0
IsNoValue word (NoValue told) = (told ≡ word) × IsValueOf word.now None
IsNoValue word NoMemory = Unit {0}
IsNoValue word fault = ⊥

abbrev pub AreValues : List Word → List Value → Type 0
AreValues words values = AllZip IsValue words values

abbrev pub AreNoValues : List Word → AskedFault → Type 0
AreNoValues words fault = FirstRefused IsValue IsNoValue words fault

-- ---- expectations

-- of the SELECT one row with the values of the words is expected
pub record IsExpectationAsked (tables : List Table) (wanted : WantedExpectation) (asked : AskedExpectation) : Type 0 where
  pub text_is : asked.text ≡ wanted.select
  pub read : look_of tables wanted.select.now ≡ Ok asked.look
  pub select : IsLook tables asked.look
  pub values : AreValues wanted.values.items asked.values.items

-- the SELECT is none; or it is one, and the first word that is no value is refused
abbrev pub IsNoExpectation : List Table → WantedExpectation → AskedFault → Type 0
IsNoExpectation tables wanted (NoLook told fault) = IsNoLookAsked tables wanted.select (NoLook told fault)
IsNoExpectation tables wanted (NoValue word) =
    ((look : AskedLook) × IsLookAsked tables wanted.select look) × AreNoValues wanted.values.items (NoValue word)
IsNoExpectation tables wanted NoMemory = Unit {0}
IsNoExpectation tables wanted fault = ⊥

abbrev pub AreExpectations : List Table → List WantedExpectation → List AskedExpectation → Type 0
AreExpectations tables wanted asked = AllZip (IsExpectationAsked tables) wanted asked

abbrev pub AreNoExpectations : List Table → List WantedExpectation → AskedFault → Type 0
AreNoExpectations tables wanted fault = FirstRefused (IsExpectationAsked tables) (IsNoExpectation tables) wanted fault
