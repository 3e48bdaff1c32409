-- Pages that a browser opens: texts without their line feed, orders one behind the other, and ranks of classes.
use Rattle.std.proofs.Common.{◌≡◌, refl, sym, ap, ◌∙◌, subst, ℕ, ◌+◌, ◌<◌, List, [], ◌∷◌, ◌++◌, All, length, take, get_or, codes, inl, inr, map}
use Rattle.std.proofs.lemmas.List.{append_assoc, flat_map_more, take_more}
use Rattle.std.proofs.lemmas.List.Elements.{All-cons, All-nil}
use Rattle.std.proofs.lemmas.Option.{slice_get_within}
use Rattle.std.specs.List.{AllZip}
use Rattle.binding_model.specs.declared.tables.Table.{Table}
use Rattle.bound_specs.specs.Spec.{Spec, Step, SpecFile, line_of, queues_of, ranks, ranks_by}
use Rattle.lock_queues.specs.Reasons.{Among}
use Rattle.order_classes.specs.declared.letters.Filter.{Filter}
use Rattle.order_classes.specs.declared.rows.ClassRow.{ClassRow}
use Rattle.order_classes.specs.declared.rows.Grouping.{Grouping}
use Rattle.spec_schedules.specs.declared.kind.Kind.{Kind}
use Rattle.spec_schedules.specs.Ranked.{IsOrderBy}
use Rattle.class_rows.specs.Pages.{IsClassed}
use Rattle.class_rows.specs.declared.rows.Classed.{Classed}
use Rattle.class_texts.specs.Pages.{Page}
use Rattle.class_values.specs.Class.{classes_part}
use Rattle.class_values.specs.Page as classes
use Rattle.shown_values.specs.Levels.{levels_json}
use Rattle.shown_values.specs.Page.{Sheet, order_json, numbers_json, shown_json}
use Rattle.spec_commands.specs.Showing.{IsShowing}
use Rattle.spec_commands.specs.declared.showing.ShowForm.TheVariants.{Json}
use Rattle.class_commands.specs.Opened.{AreOrdersOf, IsOrderOf, line, order_part}
use Rattle.class_commands.specs.OpenedParts.{IsPushed}

-- ---- line feeds

-- a brace and a line feed end a text as the line feed alone ends the text with the brace
ends : (text : List ℕ) → text ++ codes "}\n" ≡ line (text ++ codes "}")
ends text = sym (append_assoc text (codes "}") (10 ∷ []))

module _ {bytes path : List ℕ} {file : SpecFile} {rank : ℕ} {text : List ℕ} (showing : IsShowing bytes path file rank Json text) where
  abbrev sheet : Sheet
  sheet = record {
    name = path;
    rank = rank;
    orders = ranks file.run;
    level = showing.levels.asked;
    other_lines = showing.levels.other_lines.items;
    session_names = file.session_names;
    step_names = file.step_names;
    step_sessions = map (λ (s : Step). s.session) file.run.steps;
    statements = showing.statements;
    line = line_of file.run rank;
    shown = showing.shown;
  }

  abbrev shown_front : List ℕ
  shown_front = order_json sheet ++ levels_json sheet.level sheet.other_lines ++ numbers_json sheet ++ shown_json sheet.step_names sheet.shown

  -- what is shown of an order ends in a line feed
  pub shown-line : (order : List ℕ) × (text ≡ line order)
  shown-line = (shown_front ++ codes "}", showing.text_is ∙ ends shown_front)

-- and so does what is written of classes
pub classes-line : (page : Page) (step_sessions : List ℕ) (statements : List (List ℕ)) → (front : List ℕ) × (classes.classes_json page step_sessions statements ≡ line front)
classes-line page step_sessions statements =
    let front : List ℕ =
    classes.counts_json page ++ classes.numbers_json page step_sessions statements ++ classes.levels_part page ++ classes.grouped_json page ++ classes_part page in
    (front ++ codes "}", ends front)

-- ---- orders

zip-more : {A B : Type 0} (R : A → B → Type 0) (xs : List A) (ys : List B) (x : A) (y : B) → AllZip R xs ys → R x y → AllZip R (xs ++ x ∷ []) (ys ++ y ∷ [])
zip-more R [] [] x y are is = (is, tt)
zip-more R [] (b ∷ ys) x y are is = absurd are
zip-more R (a ∷ xs) [] x y are is = absurd are
zip-more R (a ∷ xs) (b ∷ ys) x y are is = (are.0, zip-more R xs ys x y are.1 is)

-- the order of one more class behind those of the classes before it
pub orders-more : (bytes path : List ℕ) (file : SpecFile) (rows : List ClassRow) (place : ℕ) (row : ClassRow) (old new : List ℕ) → place < length rows
    → row ≡ get_or rows place row → AreOrdersOf bytes path file (take place rows) old → IsPushed bytes path file row.least old new
    → AreOrdersOf bytes path file (take (place + 1) rows) new
orders-more bytes path file rows place row old new within here are pushed =
    let order = pushed.0 in
    let front = take_more rows place row within ∙ ap (λ r. take place rows ++ r ∷ []) (sym here) in (
      are.0 ++ order ∷ [],
      subst (λ f. AllZip (IsOrderOf bytes path file) f (are.0 ++ order ∷ [])) (sym front)
          (zip-more (IsOrderOf bytes path file) (take place rows) are.0 row order are.1 pushed.1),
      pushed.2 ∙ ap (λ f. f ++ order_part order) are.2 ∙ flat_map_more order_part [] are.0 order,
    )

-- ---- ranks

-- the rank of an order is one of the spec's
order-inside : (kind : Kind) (run : Spec) (ls : List (List ℕ)) (rank : ℕ) (ks : List ℕ) → IsOrderBy kind run ls rank ks → rank < ranks_by ls (queues_of run)
order-inside kind run [] rank ks is = is.3.inside
order-inside kind run (l ∷ ls) rank ks is = slice_get_within (l ∷ ls) rank ks is

all-of : (P : ClassRow → Type 0) (rows : List ClassRow) → ((row : ClassRow) → Among row rows → P row) → All P rows
all-of P [] f = All-nil P
all-of P (row ∷ rows) f = All-cons P row rows (f row (inl refl)) (all-of P rows (λ r m. f r (inr m)))

-- the least rank of each class is one of the spec's
pub leasts-inside : (kind : Kind) (tables : List Table) (run : Spec) (filters : List Filter) (by : Grouping) (x : Classed)
    → IsClassed kind tables run filters by x → All (λ (row : ClassRow). row.least < ranks run) x.rows.items
leasts-inside kind tables run filters by x is =
    all-of (λ (row : ClassRow). row.least < ranks run) x.rows.items
    (λ row m. order-inside kind run run.lines row.least row.line.items (is.each row m).line)
