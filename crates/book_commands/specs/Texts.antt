-- The texts that a report keeps of its outcomes.
use Rattle.std.specs.Prelude.{◌≡◌, ℕ, List, [], length, None, IfSome, slice_index_or}
use Rattle.bound_specs.specs.Spec.{SpecFile}
use Rattle.transcripts.specs.Text.{outcome_text}
use Rattle.fact_books.specs.Entries.{Told}
use Rattle.book_commands.specs.declared.texts.Texts.{Texts}

-- each outcome has a place, and what is kept there is its text
pub record AreTexts (file : SpecFile) (outcomes : List Told) (texts : Texts) : Type 0 where
  pub each_place : length texts.places.items ≡ length outcomes
  pub each_text : (n : ℕ) → IfSome (slice_index_or texts.places.items n None)
      (λ text. text.items ≡ outcome_text file.session_names file.step_names (slice_index_or outcomes n []))
