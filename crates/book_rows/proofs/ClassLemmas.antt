-- What is told of each rank gives the classes of the book.
use Rattle.std.proofs.Common.{◌≡◌, refl, sym, ap, ◌∙◌, subst, ℕ, zero, suc, ◌+◌, ◌<◌, ◌≤◌, true, Option, Some, None, List, [], ◌∷◌, length, arith}
use Rattle.std.specs.List.{slice_get, AllZip}
use Rattle.std.proofs.lemmas.Option.{slice_get_within}
use Rattle.lock_queues.specs.Reasons.{Among}
use Rattle.bound_specs.specs.Spec.{Spec, ranks}
use Rattle.fact_books.specs.Books.{Contents}
use Rattle.fact_books.specs.Entries.{Told}
use Rattle.order_classes.specs.declared.rows.ClassRow.{ClassRow}
use Rattle.order_classes.specs.declared.rows.Totals.{Totals}
use Rattle.class_stretches.specs.Classes.{Class, IsClass, AreGroups, in_runs, ranks_in}
use Rattle.class_stretches.specs.declared.stretch.Stretch.{Stretch}
use Rattle.class_stretches.specs.Stretches.{class_at, end_of, missing_by, IsStretched, runs_with}
use Rattle.class_stretches.specs.Groups.{class_by, classes_by, classes_from, tally_of_class, ShowsBy}
use Rattle.class_stretches.proofs.Groups.{groups}
use Rattle.book_stretches.specs.Telling.{AreTold, IsToldAt, Tells}
use Rattle.book_stretches.specs.declared.told.ToldRanks.{ToldRanks}
use Rattle.book_stretches.proofs.Gaps.{untold}
use Rattle.book_rows.specs.Classes.{AreMissing, HaveRuns, IsClassedBook, IsRow}
use Rattle.book_rows.specs.Parts.{AreRowsOf, IsRowOf}
use Rattle.book_rows.specs.Totals.{all_in, totals_by}
use Rattle.book_rows.specs.declared.classed.BookClasses.{BookClasses}
use Rattle.book_rows.proofs.SumLemmas.{ranks-few, rows-together}

module _ {A : Type 0} (P Q : ℕ → A → Type 0) (first end : ℕ) (there : (r : ℕ) (a : A) → first ≤ r → r < end → P r a → Q r a)
    (back : (r : ℕ) (a : A) → first ≤ r → r < end → Q r a → P r a) where
  class-by : (c : Class A) → IsClass P first end c → IsClass Q first end c
  class-by c x = record {
    apart = x.apart;
    within = λ r h. (let w = x.within r h in (w.0, w.1, there r c.shows w.0 w.1 w.2));
    has_least = x.has_least;
    is_least = x.is_least;
    count = x.count;
  }

  -- where both tell the same in the range they have the same groups
  groups-by : (cs : List (Class A)) → AreGroups P first end cs → AreGroups Q first end cs
  groups-by cs is = record {
    each = λ c m. class-by c (is.each c m);
    together = λ r a from lt q. is.together r a from lt (back r a from lt q);
    between = is.between;
    rise = is.rise;
  }

module _ (book : Contents) (x : ToldRanks) (told : AreTold book x) (is : IsStretched x.stretches) where
  abbrev ss : List Stretch
  ss = x.stretches.list

  abbrev all : ℕ
  all = ranks book.file.run

  abbrev classes : List (Class Told)
  classes = classes_by x.stretches.list x.outcomes.items

  -- ---- what is told of a rank

  at-class : (r : ℕ) → r < ranks book.file.run → (c : Option ℕ) → class_at x.stretches.list r ≡ c → IsToldAt book x.outcomes.items r c
  at-class r lt c e = subst (IsToldAt book x.outcomes.items r) e (told.each r lt)

  tells-there : (r : ℕ) (o : Told) → 0 ≤ r → r < ranks book.file.run → ShowsBy x.stretches.list x.outcomes.items r o → Tells book r o
  tells-there r o low lt shows =
      let here = at-class r lt (Some shows.0) shows.1 in
      let same : here.0 ≡ o = (let e : Some here.0 ≡ Some o = sym here.1 ∙ shows.2 in cc) in
      subst (Tells book r) same here.2.value

  tells-back : (r : ℕ) (o : Told) → 0 ≤ r → r < ranks book.file.run → Tells book r o → ShowsBy x.stretches.list x.outcomes.items r o
  tells-back r o low lt tells = by (class_at x.stretches.list r) refl
    where
      by : (c : Option ℕ) → class_at x.stretches.list r ≡ c → ShowsBy x.stretches.list x.outcomes.items r o
      by None e = absurd (at-class r lt None e o tells)
      by (Some c) e =
          let here = at-class r lt (Some c) e in
          (c, e, here.1 ∙ ap Some (sym (here.2.only o tells)))

  one-told : (r : ℕ) (o p : Told) → r < ranks book.file.run → Tells book r o → Tells book r p → o ≡ p
  one-told r o p lt a b =
      let x = tells-back r o (omega arith) lt a in
      let y = tells-back r p (omega arith) lt b in
      let same : x.0 ≡ y.0 = (let e : Some x.0 ≡ Some y.0 = sym x.1 ∙ y.1 in cc) in
      let e : Some o ≡ Some p = sym x.2 ∙ ap (λ k. slice_get told_outcomes k) same ∙ y.2 in
      cc
    where
      told_outcomes : List Told
      told_outcomes = x.outcomes.items

  all-groups : AreGroups (Tells book) 0 (ranks book.file.run) (classes_by x.stretches.list x.outcomes.items)
  all-groups =
      groups-by (ShowsBy x.stretches.list x.outcomes.items) (Tells book) 0 (ranks book.file.run) tells-there tells-back
      (classes_by x.stretches.list x.outcomes.items)
      (subst (λ e. AreGroups (ShowsBy x.stretches.list x.outcomes.items) 0 e (classes_by x.stretches.list x.outcomes.items)) told.all
      (groups x.stretches x.outcomes.items is told.many told.differ))

  -- ---- missing ranks

  all-missing : AreMissing book (missing_by (runs_with None 0 x.stretches.list))
  all-missing =
      let are = untold book x told is in
      record {
        runs = runs_with None 0 x.stretches.list;
        apart = are.apart;
        each = are.each;
        are = refl;
      }

  -- ---- rows

  row-of : (k : ℕ) (o : Told) (row : ClassRow) → IsRowOf book.file.run (tally_of_class (class_by x.stretches.list k o)) o row
      → IsRow book.file.run (class_by x.stretches.list k o) row
  row-of k o row is-row = record {
    least = is-row.least;
    count = is-row.count;
    line = is-row.line;
    shows = is-row.shows;
    letters = is-row.letters;
  }

  zip : (k : ℕ) (items : List Told) (rows : List ClassRow) → length rows ≡ length items
      → ((j : ℕ) (o : Told) (row : ClassRow) → slice_get items j ≡ Some o → slice_get rows j ≡ Some row
      → IsRow book.file.run (class_by x.stretches.list (k + j) o) row) → AllZip (IsRow book.file.run) (classes_from k x.stretches.list items) rows
  zip k [] [] same each = tt
  zip k [] (row ∷ rows) same each = absurd (omega (arith, same))
  zip k (o ∷ items) [] same each = absurd (omega (arith, same))
  zip k (o ∷ items) (row ∷ rows) same each = (
    (let place : k + 0 ≡ k = omega arith in subst (λ j. IsRow book.file.run (class_by x.stretches.list j o) row) place (each 0 o row refl refl)),
    zip (suc k) items rows (omega (arith, same))
        (λ j p r e at. (let place : k + suc j ≡ suc k + j = omega arith in
        subst (λ i. IsRow book.file.run (class_by x.stretches.list i p) r) place (each (suc j) p r e at))),
  )

  module _ (rows : List ClassRow) (are : AreRowsOf book.file.run x rows) where
    all-rows : AllZip (IsRow book.file.run) (classes_by x.stretches.list x.outcomes.items) rows
    all-rows =
        zip 0 x.outcomes.items rows are.long
        (λ j o row e at. (let y = are.each j row at in
        let same : y.0 ≡ o = (let f : Some y.0 ≡ Some o = sym y.1 ∙ e in cc) in
        let place : j ≡ 0 + j = omega arith in
        subst (λ k. IsRow book.file.run (class_by x.stretches.list k o) row) place
        (row-of j o row (subst (λ p. IsRowOf book.file.run (tally_of_class (class_by x.stretches.list j p)) p row) same y.2))))

    -- together they have no more ranks than the spec
    pub few-orders : all_in rows ≤ ranks book.file.run
    few-orders =
        let sum = rows-together x.stretches.list 0 rows
        (λ j row at. (let y = are.each j row at in
        let place : j ≡ 0 + j = omega arith in
        y.2.count ∙ ap (λ k. ranks_in (runs_with (Some k) 0 x.stretches.list)) place)) in
        let few = ranks-few x.stretches.list 0 0 (length rows) is.stretches in
        let ends = told.all in
        omega (arith, sum, few, ends)

    all-runs : (n : ℕ) (items : List Told) → HaveRuns x.stretches.list n (classes_from n x.stretches.list items)
    all-runs n [] = tt
    all-runs n (o ∷ items) = (refl, all-runs (suc n) items)

    many-classes : (n : ℕ) (items : List Told) → length items ≡ length (classes_from n x.stretches.list items)
    many-classes n [] = refl
    many-classes n (o ∷ items) = ap suc (many-classes (suc n) items)

    pub classed : (y : BookClasses) → y.totals ≡ totals_by rows → y.rows.items ≡ rows → y.missing ≡ missing_by (runs_with None 0 x.stretches.list)
        → y.told ≡ x → IsClassedBook book y
    classed y totals same missing told-same = record {
      one = one-told;
      classes = classes_by x.stretches.list x.outcomes.items;
      groups = all-groups;
      rows = subst (AllZip (IsRow book.file.run) (classes_by x.stretches.list x.outcomes.items)) (sym same) all-rows;
      totals = totals ∙ ap totals_by (sym same);
      missing = subst (AreMissing book) (sym missing) all-missing;
      ends = ap (λ (t : ToldRanks). end_of t.stretches.list) told-same ∙ told.all;
      count = ap (λ (t : ToldRanks). t.stretches.classes) told-same ∙ sym told.many ∙ many-classes 0 x.outcomes.items;
      runs = subst (λ (t : ToldRanks). HaveRuns t.stretches.list 0 (classes_by x.stretches.list x.outcomes.items)) (sym told-same) (all-runs 0 x.outcomes.items);
    }
