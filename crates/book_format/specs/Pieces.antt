-- A book's text in the pieces in which it is written.
use Rattle.std.specs.Prelude.{ℕ, ◌-◌, IsUtf8, List, ◌++◌, codes, decimal, string_bytes}
use Rattle.std.specs.List.{join_by}
use Rattle.serde_json.specs.Written.{compact_text}
use Rattle.transcripts.specs.Json.{outcome_data}
use Rattle.fact_books.specs.declared.run.Run.{Run}
use Rattle.fact_books.specs.declared.run.Tag.{Tag}
use Rattle.fact_books.specs.declared.run.Tag.TheVariants.{Ran, Swap}
use Rattle.fact_books.specs.Entries.{Told}
use Rattle.fact_books.specs.Runs.{Table}
use Rattle.book_format.specs.declared.pieces.Pieces.{Pieces}
use Rattle.book_format.specs.Forms.{tag_number}

-- what stands before the number in a run's text
abbrev pub tag_front : Tag → List ℕ
tag_front (Ran n) = codes ",\"ran\","
tag_front (Swap k) = codes ",\"swap\","

abbrev pub run_text : Run → List ℕ
run_text run =
    (codes "[" ++ decimal run.first) ++ (codes "," ++ decimal (run.end - run.first)) ++ (tag_front run.tag ++ decimal (tag_number run.tag)) ++ codes "]"

-- the text of an outcome
abbrev pub told_text : Told → List ℕ
told_text outcome = compact_text (outcome_data outcome)

-- the members up to the runs
abbrev pub facts_text : List Run → List ℕ
facts_text runs = codes "{\"facts\":[" ++ join_by run_text (codes ",") runs

-- and up to the outcomes
abbrev pub table_text : Table → List ℕ
table_text table = codes "],\"format\":2,\"outcomes\":[" ++ join_by told_text (codes ",") table

-- and the spec's text, which is quoted, with a line feed
abbrev pub spec_text : List ℕ → List ℕ
spec_text quoted = codes "],\"spec\":" ++ quoted ++ codes "}\n"

-- the text of runs, of outcomes, and of a spec's text, which is quoted
abbrev pub parts_text : List Run → Table → List ℕ → List ℕ
parts_text runs table quoted = facts_text runs ++ table_text table ++ spec_text quoted

abbrev pub text_in : Pieces → List ℕ
text_in pieces = parts_text pieces.runs.items pieces.outcomes.items (string_bytes pieces.quoted)

-- the text of an outcome is UTF-8
abbrev pub IsUtf8Told : Told → Type 0
IsUtf8Told outcome = IsUtf8 (told_text outcome)
