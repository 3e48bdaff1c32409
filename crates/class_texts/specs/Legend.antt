-- What the marks mean that stand in the table, each on the first step that has it.
use Rattle.std.specs.Prelude.{ℕ, suc, Bool, cond, List, [], ◌∷◌, ◌++◌, take, get_or, codes, flat_map, Option, Some, None}
use Rattle.events.specs.declared.event.Event.{Event}
use Rattle.order_classes.specs.declared.rows.ClassRow.{ClassRow}
use Rattle.class_texts.specs.Marks.{marks}
use Rattle.class_texts.specs.Orders.{short_name}
use Rattle.class_texts.specs.declared.legend.Firsts.{Firsts}
use Rattle.class_texts.specs.declared.marks.Marks.{Marks}

-- no step has a mark
abbrev pub no_firsts : Firsts
no_firsts = record { waits = None; fails = None; is_skipped = None }

-- the one that was first, or else this step where it has the mark
abbrev pub or_first : Option ℕ → Bool → ℕ → Option ℕ
or_first (Some first) has k = Some first
or_first None has k = cond has (Some k) None

abbrev pub with_marks : Firsts → ℕ → Marks → Firsts
with_marks f k m = record {
  waits = or_first f.waits m.waits k;
  fails = or_first f.fails m.fails k;
  is_skipped = or_first f.is_skipped m.is_skipped k;
}

-- and the steps of an order that stand from a place on
abbrev pub with_steps : List (List Event) → List ℕ → ℕ → Firsts → List ℕ → Firsts
with_steps told order place f [] = f
with_steps told order place f (k ∷ ks) = with_steps told order (suc place) (with_marks f k (marks k (take place order) told)) ks

abbrev pub with_order : Firsts → ClassRow → Firsts
with_order f row = with_steps row.shows.told row.line.items 0 f row.line.items

-- and the first orders of classes
abbrev pub with_orders : Firsts → List ClassRow → Firsts
with_orders f [] = f
with_orders f (row ∷ rows) = with_orders (with_order f row) rows

abbrev pub firsts_of : List ClassRow → Firsts
firsts_of rows = with_orders no_firsts rows

-- a step with the mark, and what the mark means
abbrev pub meant : List (List ℕ) → List ℕ → Option ℕ → List (List ℕ)
meant steps meaning None = []
meant steps meaning (Some k) = (short_name (get_or steps k []) ++ meaning) ∷ []

abbrev pub meanings : List (List ℕ) → Firsts → List (List ℕ)
meanings steps f =
    meant steps (codes ": waits") f.waits ++ (meant steps (codes "! fails") f.fails ++ meant steps (codes "- is not sent") f.is_skipped)

abbrev pub behind_blanks : List ℕ → List ℕ
behind_blanks text = codes "   " ++ text

-- on one line, if there is any
abbrev pub spaced : List (List ℕ) → List (List ℕ)
spaced [] = []
spaced (text ∷ texts) = (text ++ flat_map behind_blanks texts) ∷ []

abbrev pub legend_lines : List (List ℕ) → List ClassRow → List (List ℕ)
legend_lines steps rows = spaced (meanings steps (firsts_of rows))
