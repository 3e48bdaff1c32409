-- Standard input among the files that are read.
use Rattle.std.specs.Prelude.{ℕ, Bool, false, ◌&&◌, ◌||◌, List, [], ◌∷◌, map, codes}
use Rattle.std.specs.Str.{bytes_eq}
use Rattle.command_line.specs.declared.words.Asked.{Asked}
use Rattle.command_line.specs.declared.words.Asked.TheVariants.{Check, One, Count, Rank, Order, Show, Classes, Levels, Outcomes, Run, Join, Missing, Holds, Report, Audit, Judge, Test}

-- a hyphen alone is standard input
abbrev pub is_input : List ℕ → Bool
is_input path = bytes_eq path (codes "-")

-- standard input is among the paths, where it was asked for before, or twice among them
abbrev pub repeats : Bool → List (List ℕ) → Bool
repeats before [] = false
repeats before (path ∷ paths) = (is_input path && before) || repeats (before || is_input path) paths

-- two of the files that are asked for are standard input
abbrev pub repeats_input : Asked → Bool
repeats_input (One path rank) = false
repeats_input (Check path) = false
repeats_input (Count path) = false
repeats_input (Rank path names) = false
repeats_input (Order path rank) = false
repeats_input (Show path order json level) = false
repeats_input (Classes path wanted progress) = false
repeats_input (Levels path wanted progress) = false
repeats_input (Outcomes paths wanted) = repeats false (map (λ p. p.now) paths)
repeats_input (Run path ranks every workers progress) = false
repeats_input (Join paths) = repeats false (map (λ p. p.now) paths)
repeats_input (Missing paths lines) = repeats false (map (λ p. p.now) paths)
repeats_input (Holds path spec first end) = is_input path.now && is_input spec.now
repeats_input (Report path) = false
repeats_input (Audit path) = false
repeats_input (Judge path accepted show) = repeats (is_input path.now) (map (λ p. p.now) accepted.items)
repeats_input (Test paths updates junit workers level) = repeats false (map (λ p. p.now) paths)
