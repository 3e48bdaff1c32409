-- What is told of the orders of books are numbers of orders.
use Rattle.std.proofs.Common.{◌≡◌, ◌↔◌, refl, sym, ap, ◌∙◌, subst, ℕ, ◌+◌, ◌<◌, ◌≤◌, Bool, true, false, cond, List, [], ◌∷◌, map, Option, arith}
use Rattle.std.proofs.lemmas.Bool.{or_left}
use Rattle.std.specs.List.{AllZip}
use Rattle.lock_queues.specs.Reasons.{Among}
use Rattle.bound_specs.specs.Spec.{ranks}
use Rattle.fact_books.specs.Books.{Contents}
use Rattle.fact_books.specs.Entries.{Told}
use Rattle.order_classes.specs.declared.rows.ClassRow.{ClassRow}
use Rattle.order_classes.specs.declared.rows.Letters.{Letters}
use Rattle.order_classes.specs.declared.rows.Totals.{Totals}
use Rattle.order_classes.specs.declared.shows.Shows.{Shows}
use Rattle.class_stretches.specs.Classes.{AreApart, AreGroups, Class, Run, in_run, in_runs, ranks_in}
use Rattle.order_classes.specs.Letters.{letter_w, letter_d, letter_e, letter_n}
use Rattle.class_stretches.proofs.Runs.{from-low, run-from}
use Rattle.class_stretches.specs.Stretches.{missing_by}
use Rattle.class_stretches.specs.declared.missing.Missing.{Missing}
use Rattle.book_stretches.specs.Telling.{Tells}
use Rattle.book_rows.specs.Classes.{AreMissing, IsClassedBook, IsRow, letters_of, told_alone}
use Rattle.book_rows.specs.Totals.{orders_with}
use Rattle.book_rows.specs.declared.classed.BookClasses.{BookClasses}
use Rattle.order_classes.specs.Numbers.{IsLeastOf, IsNumberOf}
use Rattle.class_numbers.specs.Books.{AreMissingTold, AreTold, IsMissing, IsRowTold, IsTold, IsToldWith}
use Rattle.spec_classes.proofs.Counts.{number-same}
use Rattle.class_stretches.proofs.Counted.{class-number}
use Rattle.class_numbers.proofs.Picked.{InPicked, Tells as Says, groups-number, total, zip-all, zip-map}

-- ---- what is missing

-- the ranks of runs that stand apart, and the first of them
module _ (end : ℕ) (run : Run) (runs : List Run) (apart : AreApart 0 (run ∷ runs)) (inside : (r : ℕ) → in_runs (run ∷ runs) r ≡ true → r < end) where
  first-there : in_runs (run ∷ runs) run.first ≡ true
  first-there = or_left (in_run run run.first) (in_runs runs run.first) (run-from run run.first (omega arith) apart.1)

  first-least : (r : ℕ) → in_runs (run ∷ runs) r ≡ true → run.first ≤ r
  first-least r h = from-low run.first (run ∷ runs) r (omega arith, apart.1, apart.2) h

  runs-number : IsNumberOf (λ r. in_runs (run ∷ runs) r ≡ true) (ranks_in (run ∷ runs))
  runs-number =
      class-number {A = ℕ} (λ r a. Unit {0}) 0 end (record { least = run.first; count = ranks_in (run ∷ runs); runs = run ∷ runs; shows = 0 })
      (record {
        apart = apart;
        within = λ r h. (omega arith, inside r h, tt);
        has_least = first-there;
        is_least = first-least;
        count = refl;
      })

missing-told : (book : Contents) (missing : Option Missing) → AreMissing book missing → AreMissingTold book missing
missing-told book missing is = subst (AreMissingTold book) (sym is.are) (by is.runs is.apart is.each)
  where
    by : (runs : List Run) → AreApart 0 runs → ((r : ℕ) → (in_runs runs r ≡ true) ↔ ((r < ranks book.file.run) × ((o : Told) → Tells book r o → ⊥)))
        → AreMissingTold book (missing_by runs)
    by [] apart each = λ r m. (let bad : false ≡ true = (each r).1 m in cc)
    by (run ∷ runs) apart each =
        let inside : (r : ℕ) → in_runs (run ∷ runs) r ≡ true → r < ranks book.file.run = λ r h. ((each r).0 h).0 in (
          number-same (λ r. in_runs (run ∷ runs) r ≡ true) (IsMissing book) (ranks_in (run ∷ runs)) (λ r h. (each r).0 h) (λ r m. (each r).1 m)
              (runs-number (ranks book.file.run) run runs apart inside),
          record {
            is_so = (each run.first).0 (first-there (ranks book.file.run) run runs apart inside);
            least = λ q m. first-least (ranks book.file.run) run runs apart inside q ((each q).1 m);
          },
        )

-- ---- classes

module _ (book : Contents) (one : (r : ℕ) (o p : Told) → r < ranks book.file.run → Tells book r o → Tells book r p → o ≡ p) (cs : List (Class Told))
    (groups : AreGroups (Tells book) 0 (ranks book.file.run) cs) where
  in-told : (IsSo : Told → Type 0) (r : ℕ) → InPicked (λ c. IsSo c.shows) cs r → IsToldWith book IsSo r
  in-told IsSo r p = (let w = (groups.each p.0 p.1).within r p.3 in (w.1, (p.0.shows, w.2, p.2)))

  told-in : (IsSo : Told → Type 0) (r : ℕ) → IsToldWith book IsSo r → InPicked (λ c. IsSo c.shows) cs r
  told-in IsSo r x =
      let o : Told = x.1.0 in
      let p = groups.together r o (omega arith) x.0 x.1.1 in
      let w = (groups.each p.0 p.1).within r p.2 in
      (p.0, p.1, subst IsSo (one r o p.0.shows x.0 x.1.1 w.2) x.1.2, p.2)

  -- the orders of the rows that have a letter are those of the classes that it is so of
  rows-total : (has : Letters → Bool) (ds : List (Class Told)) (rows : List ClassRow) → AllZip (IsRow book.file.run) ds rows
      → orders_with has rows ≡ total ds (map (λ row. has row.letters) rows)
  rows-total has [] [] z = refl
  rows-total has [] (row ∷ rows) z = absurd z
  rows-total has (d ∷ ds) [] z = absurd z
  rows-total has (d ∷ ds) (row ∷ rows) z =
      let rec = rows-total has ds rows z.1 in
      let count = z.0.count in
      λ i. cond (has row.letters) (count i) 0 + rec i

  letter-number : (has : Letters → Bool) (IsSo : Told → Type 0) → ((o : Told) → (has (letters_of (told_alone o)) ≡ true) ↔ IsSo o)
      → (rows : List ClassRow) → AllZip (IsRow book.file.run) cs rows → IsNumberOf (IsToldWith book IsSo) (orders_with has rows)
  letter-number has IsSo letter rows z =
      subst (IsNumberOf (IsToldWith book IsSo)) (sym (rows-total has cs rows z))
      (number-same (InPicked (λ c. IsSo c.shows) cs) (IsToldWith book IsSo) (total cs (map (λ row. has row.letters) rows)) (in-told IsSo) (told-in IsSo)
      (groups-number (Tells book) 0 (ranks book.file.run) one (λ c. IsSo c.shows) cs (map (λ row. has row.letters) rows) groups
      (zip-map (IsRow book.file.run) (Says (λ c. IsSo c.shows)) (λ row. has row.letters) says cs rows z)))
    where
      says : (c : Class Told) (row : ClassRow) → IsRow book.file.run c row → Says (λ d. IsSo d.shows) c (has row.letters)
      says c row is = subst (Says (λ d. IsSo d.shows) c) (sym (ap has is.letters)) (letter c.shows)

  all-number : (rows : List ClassRow) → AllZip (IsRow book.file.run) cs rows → IsNumberOf (IsTold book) (orders_with (λ l. true) rows)
  all-number rows z =
      number-same (IsToldWith book (λ o. Unit {0})) (IsTold book) (orders_with (λ l. true) rows)
      (λ r x. (x.0, (x.1.0, x.1.1))) (λ r x. (x.0, (x.1.0, x.1.1, tt)))
      (letter-number (λ l. true) (λ o. Unit {0}) (λ o. (λ h. tt, λ u. refl)) rows z)

  row-told : (c : Class Told) (row : ClassRow) → Among c cs → IsRow book.file.run c row → IsRowTold book row
  row-told c row m is = record {
    count = subst (IsNumberOf (IsToldWith book (λ o. o ≡ row.shows.told))) (sym is.count)
        (number-same (λ r. in_runs c.runs r ≡ true) (IsToldWith book (λ o. o ≡ row.shows.told)) c.count there back
        (class-number (Tells book) 0 (ranks book.file.run) c (groups.each c m)));
    least = subst (IsLeastOf (IsToldWith book (λ o. o ≡ row.shows.told))) (sym is.least)
        (record {
          is_so = there c.least (groups.each c m).has_least;
          least = λ q x. (groups.each c m).is_least q (back q x);
        });
  }
    where
      shown : row.shows.told ≡ c.shows
      shown = ap (λ (s : Shows). s.told) is.shows

      there : (r : ℕ) → in_runs c.runs r ≡ true → IsToldWith book (λ o. o ≡ row.shows.told) r
      there r h = (let w = (groups.each c m).within r h in (w.1, (c.shows, w.2, sym shown)))

      back : (r : ℕ) → IsToldWith book (λ o. o ≡ row.shows.told) r → in_runs c.runs r ≡ true
      back r x =
          let o : Told = x.1.0 in
          let p = groups.together r o (omega arith) x.0 x.1.1 in
          let w = (groups.each p.0 p.1).within r p.2 in
          let own : p.0.shows ≡ o = one r p.0.shows o x.0 w.2 x.1.1 in
          let same : p.0 ≡ c = groups.between p.0 c p.1 m (own ∙ x.1.2 ∙ shown) in
          subst (λ (d : Class Told). in_runs d.runs r ≡ true) same p.2

pub books-told : (book : Contents) (x : BookClasses) → IsClassedBook book x → AreTold book x
books-told book x is = record {
  missing = missing-told book x.missing is.missing;
  totals = record {
    all = subst (λ (t : Totals). IsNumberOf (IsTold book) t.all.orders) (sym is.totals) (all-number book is.one is.classes is.groups x.rows.items is.rows);
    waits = subst (λ (t : Totals). IsNumberOf (IsToldWith book (λ o. letter_w (told_alone o) ≡ true)) t.waits.orders) (sym is.totals)
        (letter-number book is.one is.classes is.groups (λ l. l.waits) (λ o. letter_w (told_alone o) ≡ true) (λ o. (λ h. h, λ h. h)) x.rows.items is.rows);
    deadlock = subst (λ (t : Totals). IsNumberOf (IsToldWith book (λ o. letter_d (told_alone o) ≡ true)) t.deadlock.orders) (sym is.totals)
        (letter-number book is.one is.classes is.groups (λ l. l.deadlock) (λ o. letter_d (told_alone o) ≡ true) (λ o. (λ h. h, λ h. h)) x.rows.items is.rows);
    error = subst (λ (t : Totals). IsNumberOf (IsToldWith book (λ o. letter_e (told_alone o) ≡ true)) t.error.orders) (sym is.totals)
        (letter-number book is.one is.classes is.groups (λ l. l.error) (λ o. letter_e (told_alone o) ≡ true) (λ o. (λ h. h, λ h. h)) x.rows.items is.rows);
    unsent = subst (λ (t : Totals). IsNumberOf (IsToldWith book (λ o. letter_n (told_alone o) ≡ true)) t.unsent.orders) (sym is.totals)
        (letter-number book is.one is.classes is.groups (λ l. l.unsent) (λ o. letter_n (told_alone o) ≡ true) (λ o. (λ h. h, λ h. h)) x.rows.items is.rows);
  };
  rows = zip-all (IsRow book.file.run) (IsRowTold book) is.classes x.rows.items (row-told book is.one is.classes is.groups) is.rows;
}
