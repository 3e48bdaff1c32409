-- The laws of the text of classes.
use Rattle.std.specs.Prelude.{◌≡◌, ◌↔◌, ℕ, ◌+◌, ◌<◌, Bool, true, None, List, [], ◌∷◌, All}
use Rattle.lock_modes.specs.declared.value.Value.{Value}
use Rattle.events.specs.declared.event.Event.{Event}
use Rattle.events.specs.declared.event.Event.TheVariants.{Row, Rows}
use Rattle.line_moments.specs.declared.shown.Standing.{Standing}
use Rattle.order_classes.specs.Shows.{rest_of}
use Rattle.shown_texts.specs.Pages.{standing_text}
use Rattle.order_classes.specs.declared.rows.ClassRow.{ClassRow}
use Rattle.order_classes.specs.declared.rows.Letters.{Letters}
use Rattle.class_texts.specs.Letters.{letters_of, letters_text, shows_letter}
use Rattle.class_texts.specs.Beneath.{rest_text}
use Rattle.class_texts.specs.Expected.{Expectation, first_miss, meets, met_from, missed_from}
use Rattle.class_texts.specs.declared.kind.ClassKind.{ClassKind}
use Rattle.class_texts.specs.declared.letters.Letter.{Letter}

-- ---- letters are told

abbrev pub AreSame : Letters → Letters → Letter → Type 0
AreSame a b letter = shows_letter a letter ≡ shows_letter b letter

-- where other letters are shown, other words are told
abbrev pub LettersAreTold : Type 0
LettersAreTold = (by : ClassKind) (all : Bool) (a b : Letters) → letters_text by all a ≡ letters_text by all b → All (AreSame a b) (letters_of by all)

-- ---- one row is met

-- an expectation is met exactly where one row is seen, with its values
abbrev pub OneRowIsMet : Type 0
OneRowIsMet = (values : List Value) (events : List Event) → (meets values events ≡ true) ↔ (events ≡ Row values ∷ Rows 1 ∷ [])

-- ---- misses are told

-- the orders of all classes
abbrev pub orders_of : List ClassRow → ℕ
orders_of [] = 0
orders_of (row ∷ rows) = row.count + orders_of rows

-- each class has an order
abbrev pub HaveOrders : List ClassRow → Type 0
HaveOrders [] = Unit {0}
HaveOrders (row ∷ rows) = (0 < row.count) × HaveOrders rows

-- of each order an expectation holds or does not, and there is none of which it does not exactly where no class is told
pub record AreMissesTold (e : Expectation) (rows : List ClassRow) : Type 0 where
  pub orders : met_from e 0 rows + missed_from e 0 rows ≡ orders_of rows
  pub told : HaveOrders rows → (missed_from e 0 rows ≡ 0) ↔ (first_miss e 0 rows ≡ None)

abbrev pub MissesAreTold : Type 0
MissesAreTold = (e : Expectation) (rows : List ClassRow) → AreMissesTold e rows

-- ---- standings are told as `show` tells them

-- of each session that has not ended the same words
abbrev pub StandingsAreShown : Type 0
StandingsAreShown = (s : Standing) → rest_text (rest_of s) ≡ standing_text s
