-- The first order of a class: its steps with their marks.
use Rattle.std.specs.Prelude.{ℕ, suc, List, [], ◌∷◌, ◌++◌, take, get_or, codes, flat_map}
use Rattle.events.specs.declared.event.Event.{Event}
use Rattle.order_names.specs.Spelling.{spelled}
use Rattle.shown_texts.specs.Characters.{shown_text}
use Rattle.shown_texts.specs.Names.{cut}
use Rattle.shown_texts.specs.Orders.{mark_if}
use Rattle.class_texts.specs.Marks.{marks}
use Rattle.class_texts.specs.declared.marks.Marks.{Marks}

abbrev pub marks_text : Marks → List ℕ
marks_text m = mark_if m.is_skipped (codes "-") ++ (mark_if m.waits (codes ":") ++ mark_if m.fails (codes "!"))

-- a name as a permutation line has it, cut where it is too long
abbrev pub short_name : List ℕ → List ℕ
short_name name = cut 24 (shown_text (spelled name))

-- a step with its marks, behind these others
abbrev pub step_word : List (List ℕ) → List (List Event) → List ℕ → ℕ → List ℕ
step_word steps told before k = short_name (get_or steps k []) ++ marks_text (marks k before told)

abbrev pub behind_blank : List ℕ → List ℕ
behind_blank word = 32 ∷ word

-- the steps of an order that stand from a place on
abbrev pub step_words : List (List ℕ) → List (List Event) → List ℕ → ℕ → List ℕ → List (List ℕ)
step_words steps told order place [] = []
step_words steps told order place (k ∷ ks) = step_word steps told (take place order) k ∷ step_words steps told order (suc place) ks

-- all of them, a blank in front of each
abbrev pub order_text : List (List ℕ) → List (List Event) → List ℕ → List ℕ
order_text steps told order = flat_map behind_blank (step_words steps told order 0 order)
