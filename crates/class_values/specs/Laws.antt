-- Laws of the JSON of classes.
use Rattle.std.specs.Prelude.{◌≡◌, ℕ, List, ◌++◌, codes, map}
use Rattle.line_moments.specs.declared.shown.Left.{Left}
use Rattle.line_moments.specs.declared.shown.Standing.{Standing}
use Rattle.order_classes.specs.Shows.{rest_of, seen}
use Rattle.shown_values.specs.Strings.{array_json}
use Rattle.shown_values.specs.Page.{left_json, open_from, opens_by}
use Rattle.shown_values.specs.Laws.{IsFree}
use Rattle.binding_model.specs.declared.tables.Table.{Table}
use Rattle.class_texts.specs.Pages.{Page}
use Rattle.class_values.specs.Class.{open_of, tables_from}
use Rattle.class_values.specs.Page.{classes_json}

-- no text ends the script that the object stands in, nor begins a reference
abbrev pub ClassesAreFree : Type 0
ClassesAreFree = (p : Page) (step_sessions : List ℕ) (statements : List (List ℕ)) → IsFree (classes_json p step_sessions statements)

abbrev pub table_of : Left → Table
table_of left = left.table

-- the tables and the sessions that have not ended stand there as in the JSON of the order
pub record LeftIsShown : Type 0 where
  pub tables : (lefts : List Left) → codes "[" ++ tables_from (map seen lefts) 0 (map table_of lefts) ++ codes "]" ≡ array_json left_json lefts
  pub sessions : (standings : List Standing) → opens_by open_of 0 (map rest_of standings) ≡ open_from 0 standings
