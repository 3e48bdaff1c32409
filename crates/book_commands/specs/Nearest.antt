-- What is shown beneath a verdict: what the accepted report that is nearest and the judged one tell where they differ.
use Rattle.std.specs.Prelude.{◌≡◌, ℕ, ◌<◌, ◌⊎◌, ◌++◌, List, [], ◌∷◌, length, codes, get_or, slice_get, slice_index_or, Bool, true, false, Option, None, Some}
use Rattle.bound_specs.specs.Spec.{SpecFile, line_of}
use Rattle.transcripts.specs.Lines.{number_line}
use Rattle.transcripts.specs.Text.{session_text}
use Rattle.events.specs.declared.event.Event.{Event}
use Rattle.order_names.specs.Spelling.{names_of, order_text}
use Rattle.fact_books.specs.Entries.{Told}
use Rattle.fact_books.specs.Books.{Contents}
use Rattle.accepted_outputs.specs.declared.verdict.Verdict.{Verdict}
use Rattle.accepted_outputs.specs.declared.verdict.Verdict.TheVariants.{Matches, Differs}

-- a difference stands further than another: at a greater rank, or at the same one in a greater session
abbrev pub IsFurther : ℕ × ℕ → ℕ × ℕ → Type 0
IsFurther one other = (other.0 < one.0) ⊎ ((one.0 ≡ other.0) × (other.1 < one.1))

abbrev pub difference_at : List (ℕ × ℕ) → ℕ → ℕ × ℕ
difference_at differences n = slice_index_or differences n (0, 0)

-- the difference with this number stands further than each before it, and none behind it stands further
pub record IsNearest (differences : List (ℕ × ℕ)) (index : ℕ) : Type 0 where
  pub inside : index < length differences
  pub before : (n : ℕ) → n < index → IsFurther (difference_at differences index) (difference_at differences n)
  pub behind : (n : ℕ) → index < n → n < length differences → IsFurther (difference_at differences n) (difference_at differences index) → ⊥

-- ---- texts

-- the transcript of a session, or that the outcome has no such session
abbrev pub session_part : SpecFile → ℕ → Option (List Event) → List ℕ
session_part file session None = codes "no session " ++ number_line session
session_part file session (Some events) = session_text file.step_names (get_or file.session_names session [], events)

-- the order of a rank by the names of its steps, and what the rank's outcome tells of a session
abbrev pub outcome_part : SpecFile → ℕ × ℕ → Told → List ℕ
outcome_part file place told = order_text (names_of file (line_of file.run place.0)) ++ session_part file place.1 (slice_get told place.1)

-- the same of a rank's value, or that the report has ended before the rank
abbrev pub value_part : SpecFile → ℕ × ℕ → Option Told → List ℕ
value_part file place None = codes "no rank " ++ number_line place.0
value_part file place (Some told) = outcome_part file place told

-- what a report tells at a rank of a session, behind a word
abbrev pub side_text : List ℕ → SpecFile → List Told → ℕ × ℕ → List ℕ
side_text word file report place = word ++ value_part file place (slice_get report place.0)

-- the number of the accepted report, what it tells at a rank of a session, and what the judged one tells there
abbrev pub shown_text : ℕ → SpecFile → List Told → SpecFile → List Told → ℕ × ℕ → List ℕ
shown_text index there accepted here report place =
    (codes "nearest is " ++ number_line index)
    ++ (side_text (codes "accepted: ") there accepted place ++ side_text (codes "here: ") here report place)

-- ---- what is shown

-- the text shows the nearest of accepted books, which have these reports, beside the judged one, each by the names of its own spec
pub record IsShown (here : Contents) (report : List Told) (books : List Contents) (reports : List (List Told)) (differences : List (ℕ × ℕ)) (text : List ℕ) : Type 0 where
  pub index : ℕ
  pub nearest : IsNearest differences index
  pub there : Contents
  pub there_is : slice_get books index ≡ Some there
  pub accepted : List Told
  pub accepted_is : slice_get reports index ≡ Some accepted
  pub text_is : text ≡ shown_text index there.file accepted here.file report (difference_at differences index)

-- what stands beneath these differences: the nearest is shown, unless there is none
abbrev pub IsBeneathThese : Contents → List Told → List Contents → List (List Told) → List (ℕ × ℕ) → List ℕ → Type 0
IsBeneathThese here report books reports [] text = text ≡ []
IsBeneathThese here report books reports (d ∷ ds) text = IsShown here report books reports (d ∷ ds) text

-- what stands beneath a verdict: nothing where an accepted report is equal
abbrev pub IsBeneath : Contents → List Told → List Contents → List (List Told) → Verdict → List ℕ → Type 0
IsBeneath here report books reports (Matches index) text = text ≡ []
IsBeneath here report books reports (Differs differences) text = IsBeneathThese here report books reports differences text

-- the same, where it is asked for
abbrev pub IsAskedBeneath : Bool → Contents → List Told → List Contents → List (List Told) → Verdict → List ℕ → Type 0
IsAskedBeneath false here report books reports verdict text = text ≡ []
IsAskedBeneath true here report books reports verdict text = IsBeneath here report books reports verdict text
