-- The text of classes at both levels.
use Rattle.std.specs.Prelude.{ℕ, false, List, [], ◌∷◌, ◌++◌, length, map, codes, Option}
use Rattle.bound_statements.specs.declared.statement.Level.{Level}
use Rattle.bound_statements.specs.declared.statement.Level.TheVariants.{Serializable, Committed}
use Rattle.order_classes.specs.declared.rows.Totals.{Totals}
use Rattle.shown_texts.specs.Characters.{padded, shown_text}
use Rattle.shown_texts.specs.Levels.{level_name, level_text}
use Rattle.shown_texts.specs.Pages.{part}
use Rattle.class_texts.specs.Counted.{counted, number_text}
use Rattle.class_texts.specs.Letters.{letters_of, total_of}
use Rattle.class_texts.specs.Pages.{Page, cells_of, head_cells, in_classes, letter_front, lines_bytes, meaning_of, table_part, total_widths}
use Rattle.class_texts.specs.declared.kind.ClassKind.TheVariants.{Shows}
use Rattle.class_texts.specs.declared.letters.Letter.{Letter}
use Rattle.class_texts.specs.declared.widths.TotalWidths.{TotalWidths}

-- what is told of the classes of all orders at a level: the level, the lines of the file with another one, and the totals
pub record Side : Type 0 where
  pub level : Option Level
  pub other_lines : List ℕ
  pub totals : Totals

abbrev pub letters : List Letter
letters = letters_of Shows false

-- ---- the head

abbrev pub side_counts : Side → List ℕ
side_counts s = in_classes Shows s.totals.all.orders s.totals.all.classes

abbrev pub title : List ℕ → Side → Side → List ℕ
title path a b = shown_text path ++ (codes ": " ++ (side_counts a ++ (codes " at SERIALIZABLE, " ++ (side_counts b ++ codes " at READ COMMITTED"))))

-- a level is told in a line of its own where lines of the file have another one
abbrev pub other_level : Option Level → List ℕ → List (List ℕ)
other_level level [] = []
other_level level (n ∷ ns) = level_text level (n ∷ ns)

abbrev pub side_lines : Side → List (List ℕ)
side_lines s = other_level s.level s.other_lines

abbrev pub head_lines : List ℕ → Side → Side → List (List ℕ)
head_lines path a b = title path a b ∷ (side_lines a ++ side_lines b)

-- ---- the totals

abbrev pub side_widths : Side → TotalWidths
side_widths s = total_widths Shows s.totals letters

-- the name of a level above its columns
abbrev pub name_cell : List ℕ → List ℕ → List ℕ
name_cell columns name = padded (length columns) (codes "  " ++ name)

abbrev pub names_line : List ℕ → List ℕ → List ℕ
names_line first second = codes "    " ++ (name_cell first (level_name Serializable) ++ name_cell second (level_name Committed))

-- the columns of both levels
abbrev pub columns_line : List ℕ → List ℕ → List ℕ
columns_line first second = codes "    " ++ (first ++ second)

abbrev pub heads_by : List ℕ → List ℕ → List (List ℕ)
heads_by first second = names_line first second ∷ columns_line first second ∷ []

abbrev pub heads : TotalWidths → TotalWidths → List (List ℕ)
heads v w = heads_by (head_cells v false Shows) (head_cells w false Shows)

abbrev pub side_cells : TotalWidths → Side → Letter → List ℕ
side_cells w s letter = cells_of w false s.totals.all.orders (total_of s.totals letter)

-- the numbers of both levels behind a letter
abbrev pub letter_line : TotalWidths → TotalWidths → Side → Side → Letter → List ℕ
letter_line v w a b letter =
    letter_front letter ++ (side_cells v a letter ++ (side_cells w b letter ++ meaning_of false letter (total_of a.totals letter)))

abbrev pub totals_by : TotalWidths → TotalWidths → Side → Side → List (List ℕ)
totals_by v w a b = heads v w ++ map (letter_line v w a b) letters

abbrev pub totals_lines : Side → Side → List (List ℕ)
totals_lines a b = totals_by (side_widths a) (side_widths b) a b

-- ---- what READ COMMITTED alone has

-- how many of its results
abbrev pub only_line : ℕ → ℕ → List ℕ
only_line only results = codes "only at READ COMMITTED: " ++ (number_text only ++ (codes " of " ++ counted results (codes "result") (codes "results")))

-- ---- the whole, in bytes

abbrev pub top_lines : Side → Side → ℕ → Page → List (List ℕ)
top_lines a b results only =
    head_lines only.path a b ++ (part (totals_lines a b) ++ part (only_line (length only.rows) results ∷ []))

-- what is told at each of the two levels; and the page of the results that READ COMMITTED alone has, of so many
abbrev pub levels_bytes : Side → Side → ℕ → Page → List ℕ
levels_bytes a b results only = lines_bytes (top_lines a b results only) ++ table_part only
