-- The laws of numbers of orders: of what is expected of the orders of a spec, and of the classes of books.
use Rattle.std.specs.Prelude.{◌≡◌, ◌↔◌, ℕ, List, All}
use Rattle.wanted_classes.specs.declared.wanted.WantedClasses.{WantedClasses}
use Rattle.wanted_classes.specs.declared.wanted.WantedOutcomes.{WantedOutcomes}
use Rattle.book_commands.specs.declared.finding.Finding.{Finding}
use Rattle.book_commands.specs.declared.finding.Finding.TheVariants.{Good}
use Rattle.book_commands.specs.Joining.{Files}
use Rattle.class_commands.specs.Booking.{IsTellingOfBooks}
use Rattle.class_commands.specs.Classing.{IsFoundIn, IsTellingOf, kind_by}
use Rattle.class_numbers.specs.Numbers.{AreAsExpected}
use Rattle.class_numbers.specs.Told.{IsExpectationTold}
use Rattle.class_numbers.specs.Books.{AreTold}

-- of each expectation the number of orders and the first miss are those of the orders that are asked for: of the spec's own, or of those that were drawn, by
-- their places
abbrev pub ExpectationsAreOfOrders : Type 0
ExpectationsAreOfOrders =
    (bytes path : List ℕ) (wanted : WantedClasses) (text : List ℕ) (t : IsTellingOf bytes path wanted text)
    → All (IsExpectationTold (kind_by wanted.all_orders) t.tables t.are.counted t.asked.filters.items t.are.placed.rows.items) t.asked.expectations.items

-- nothing is amiss exactly where each order that is asked for is as expected
abbrev pub FindingsAreOfOrders : Type 0
FindingsAreOfOrders =
    (bytes path : List ℕ) (wanted : WantedClasses) (text : List ℕ) (t : IsTellingOf bytes path wanted text) (finding : Finding)
    → IsFoundIn t finding → (finding ≡ Good) ↔ All (AreAsExpected (kind_by wanted.all_orders) t.tables t.are.counted t.asked.filters.items) t.asked.expectations.items

-- of books the totals count orders, each class has all orders of its outcome, and so many are missing as have none
abbrev pub BooksAreOfOrders : Type 0
BooksAreOfOrders =
    (files : Files) (paths : List (List ℕ)) (wanted : WantedOutcomes) (text : List ℕ) (t : IsTellingOfBooks files paths wanted text)
    → AreTold t.book t.classed
