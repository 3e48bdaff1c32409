-- What is written of the classes of books.
use Rattle.std.proofs.Common.{refl, ℕ, List, Option, Result, Ok, Err, length}
use Rattle.std.specs.Bool.{⊤}
use Rattle.transcripts.specs.declared.counted.Counted.{Counted}
use Rattle.fact_books.specs.Books.{Contents}
use Rattle.book_rows.specs.Classes.{IsClassedBook}
use Rattle.book_rows.specs.declared.classed.BookClasses.{BookClasses}
use Rattle.book_commands.specs.Joining.{Files, IsJoinOf}
use Rattle.wanted_classes.specs.declared.wanted.WantedOutcomes.{WantedOutcomes}
use Rattle.class_commands.specs.declared.booking.BookClassesFault.{BookClassesFault}
use Rattle.class_commands.specs.declared.booking.BookClassesFault.TheVariants.{Join, Clash, NoMemory, Write}
use Rattle.class_commands.specs.Booking.{IsBookClassesRun, IsBookText, IsNotTelling, IsTellingOfBooks}
use Rattle.class_commands.specs.BookParts.{IsBookNotFound, WritesBook}

module _ {W : Type 0} (contents : W → Option (List ℕ)) (files : Files) (paths : List (List ℕ)) (wanted : WantedOutcomes) (book : Contents)
    (joined : IsJoinOf files paths (length paths) book) where
  module _ (old new : Counted W) (x : BookClasses) (are : IsClassedBook book x) where
    abbrev telling : (text : List ℕ) → IsBookText paths book.file x wanted text → IsTellingOfBooks files paths wanted text
    telling text is = record { book = book; joined = joined; classed = x; are = are; text_is = is }

    -- what is written of them is the run's
    pub books-run : (result : Result ⊤ BookClassesFault) → WritesBook contents old new (IsBookText paths book.file x wanted) result
        → IsBookClassesRun files paths contents old new wanted result
    books-run (Ok done) wrote = (wrote.0, telling wrote.0 wrote.1, wrote.2)
    books-run (Err (Join fault)) never = absurd never
    books-run (Err (Clash rank)) never = absurd never
    books-run (Err NoMemory) kept = kept
    books-run (Err (Write fault)) stopped = (stopped.0, telling stopped.0 stopped.1, stopped.2)

  -- why nothing is found is why nothing is written
  pub books-not-found : (old : Counted W) (fault : BookClassesFault) → IsBookNotFound book fault → IsNotTelling contents old old files paths wanted fault
  books-not-found old (Join fault) never = absurd never
  books-not-found old (Clash rank) clash = (refl, (book, joined, clash))
  books-not-found old NoMemory any = refl
  books-not-found old (Write fault) never = absurd never
