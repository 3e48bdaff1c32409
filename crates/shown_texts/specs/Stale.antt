-- Stale reads in words.
use Rattle.std.specs.Prelude.{ℕ, List, [], ◌∷◌, ◌++◌, get_or, codes, flat_map}
use Rattle.events.specs.Parts.{values_of}
use Rattle.events.specs.declared.event.Event.{Event}
use Rattle.line_moments.specs.declared.stale.Stale.{Stale}
use Rattle.shown_texts.specs.Characters.{shown_text}
use Rattle.shown_texts.specs.Words.{values_text}
use Rattle.shown_texts.specs.declared.frame.Frame.{Frame}

-- a row behind others, where an event shows one
abbrev pub further_row : Event → List ℕ
further_row e = elim (values_of e) [ [] ↦ [] | v ∷ vs ↦ codes ", " ++ values_text (v ∷ vs) ]

-- the rows that are told, or that there is none
abbrev pub rows_text : List Event → List ℕ
rows_text [] = codes "no row"
rows_text (e ∷ es) = elim (values_of e) [ [] ↦ rows_text es | v ∷ vs ↦ values_text (v ∷ vs) ++ flat_map further_row es ]

abbrev pub read_text : List (List ℕ) → Stale → List ℕ
read_text steps s = shown_text (get_or steps s.step []) ++ (codes " read " ++ shown_text (rows_text s.told))

abbrev pub committed_text : List (List ℕ) → ℕ → Stale → List ℕ
committed_text names writer s = get_or names writer [] ++ (codes " committed " ++ shown_text (rows_text s.told_now))

-- what was read, and what the session with this number has committed
abbrev pub stale_text : Frame → List (List ℕ) → ℕ → Stale → List ℕ
stale_text f steps writer s = read_text steps s ++ (codes "; " ++ committed_text f.names writer s)
