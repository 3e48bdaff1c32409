-- The text of a book: an object with the runs, the format's number, the outcomes and the spec's text, and a line feed.
use Rattle.std.specs.Prelude.{◌≡◌, ℕ, ◌-◌, ◌+◌, List, [], ◌∷◌, ◌++◌, map, codes}
use Rattle.serde_json.specs.Data.{Data, string, object, member, no_members}
use Rattle.serde_json.specs.Written.{compact_text}
use Rattle.transcripts.specs.Json.{list, whole, outcome_data}
use Rattle.fact_books.specs.declared.run.Run.{Run}
use Rattle.fact_books.specs.declared.run.Tag.{Tag}
use Rattle.fact_books.specs.declared.run.Tag.TheVariants.{Ran, Swap}
use Rattle.fact_books.specs.Runs.{Table}
use Rattle.fact_books.specs.Books.{Contents}
use Rattle.book_format.specs.Forms.{IsForm}

abbrev pub tag_data : Tag → List Data
tag_data (Ran n) = string (codes "ran") ∷ whole n ∷ []
tag_data (Swap k) = string (codes "swap") ∷ whole k ∷ []

-- the first rank, how many ranks, and what is said of each
abbrev pub run_data : Run → Data
run_data run = list (whole run.first ∷ whole (run.end - run.first) ∷ tag_data run.tag)

-- of a spec's text, a table of outcomes and runs
abbrev pub book_data : List ℕ → Table → List Run → Data
book_data text table runs =
    object (member (codes "facts") (list (map run_data runs))
    (member (codes "format") (whole 2)
    (member (codes "outcomes") (list (map outcome_data table))
    (member (codes "spec") (string text)
    no_members))))

abbrev pub book_text : List ℕ → Table → List Run → List ℕ
book_text text table runs = compact_text (book_data text table runs) ++ 10 ∷ []

-- the text of a book
pub record IsTextOf (text : List ℕ) (book : Contents) : Type 0 where
  pub table : Table
  pub runs : List Run
  pub form : IsForm book.facts table runs
  pub text_is : text ≡ book_text book.file.text table runs

-- how many facts runs have
abbrev pub total_of : List Run → ℕ
total_of [] = 0
total_of (run ∷ runs) = (run.end - run.first) + total_of runs
