-- The laws of the text that shows an order.
use Rattle.std.specs.Prelude.{◌≡◌, ◌≢◌, ℕ, ◌+◌, ◌^◌, ◌<◌, ◌≤◌, List, [], ◌∷◌, ◌++◌, length, drop, get_or, flat_map, All}
use Rattle.shown_texts.specs.Characters.{trimmed}
use Rattle.shown_texts.specs.Names.{shortened}
use Rattle.shown_texts.specs.Breaking.{broken}
use Rattle.shown_texts.specs.Pages.{Page, all_lines}

-- lines without what stands in front of them, put together
abbrev pub unbroken : ℕ → ℕ → List (List ℕ) → List ℕ
unbroken front margin [] = []
unbroken front margin (l ∷ ls) = drop front l ++ flat_map (drop margin) ls

-- where a text is broken nothing of it is lost, and nothing comes to it
abbrev pub BrokenTextsAreWhole : Type 0
BrokenTextsAreWhole = (width front margin : ℕ) (text : List ℕ) → unbroken front margin (broken width front margin text) ≡ text

-- a line is no wider, and has at most one blank behind its last column
abbrev pub IsWithin : ℕ → List ℕ → Type 0
IsWithin width line = (length line ≤ width + 1) × (length (trimmed line) ≤ width)

-- no line of a broken text is wider, where blanks in front of it leave room
abbrev pub BrokenLinesFit : Type 0
BrokenLinesFit = (width front margin : ℕ) (text : List ℕ) → front ≤ width → margin < width → All (IsWithin width) (broken width front margin text)

-- no two names are the same when they are shortened
abbrev pub ShortenedNamesDiffer : Type 0
ShortenedNamesDiffer =
    (most : ℕ) (names : List (List ℕ)) → length names < 2 ^ 64 → (i j : ℕ) → i < j → j < length names
    → get_or (shortened most names) i [] ≢ get_or (shortened most names) j []

-- a page of up to four sessions, each of which has a lane, and of so few steps that a number has three digits at most
pub record IsSmall (p : Page) : Type 0 where
  pub some : 0 < length p.sessions
  pub few : length p.sessions ≤ 4
  pub lanes : length p.shown.begun ≡ length p.sessions
  pub steps : length p.steps ≤ 1000

-- blanks at its end are not written
abbrev pub IsNarrow : List ℕ → Type 0
IsNarrow line = length (trimmed line) ≤ 80

-- no line of such a page is wider than 80
abbrev pub SmallPagesAreNarrow : Type 0
SmallPagesAreNarrow = (p : Page) → IsSmall p → All IsNarrow (all_lines p)
