-- Of how many orders an expectation is so, and the first of which it is not.
use Rattle.std.proofs.Common.{◌≡◌, ◌↔◌, refl, sym, ap, ◌∙◌, subst, ℕ, suc, ◌+◌, ◌<◌, ◌≤◌, Bool, true, false, cond, ◌⊎◌, inl, inr, ⊎_elim, arith}
use Rattle.std.proofs.Common.{List, [], ◌∷◌, get_or, map, All, Option, Some, None, option_map}
use Rattle.std.proofs.lemmas.List.Elements.{All-cons, All-head, All-nil, All-tail}
use Rattle.lock_queues.specs.Reasons.{Among}
use Rattle.binding_model.specs.declared.tables.Table.{Table}
use Rattle.bound_specs.specs.Spec.{Spec}
use Rattle.events.specs.declared.event.Event.{Event}
use Rattle.spec_schedules.specs.declared.kind.Kind.{Kind}
use Rattle.spec_classes.specs.Classes.{ShowsAt}
use Rattle.spec_classes.proofs.Counts.{behind, number-none, number-same, number-sum}
use Rattle.order_classes.specs.declared.letters.Filter.{Filter}
use Rattle.order_classes.specs.declared.rows.ClassRow.{ClassRow}
use Rattle.order_classes.specs.declared.rows.Grouping.{Grouping}
use Rattle.order_classes.specs.declared.rows.Grouping.TheVariants as the
use Rattle.order_classes.specs.declared.shows.Shows.{Shows}
use Rattle.order_classes.specs.Looks.{IsLook, Meets, one_row}
use Rattle.order_classes.specs.Numbers.{IsNumberOf, IsLeastOf, RiseFrom}
use Rattle.order_classes.specs.Shows.{shows_of_line}
use Rattle.class_rows.specs.Pages.{IsAskedWith, IsClassed, IsRow, told_by as grouped_by}
use Rattle.class_rows.specs.declared.rows.Classed.{Classed}
use Rattle.class_looks.specs.Laws.{ExpectationsAreSeen, LooksSeeLines}
use Rattle.class_looks.specs.Seeing.{told_by, sees}
use Rattle.class_texts.specs.Expected.{Expectation, first_miss, is_met_at, meets, met_from}
use Rattle.class_texts.specs.Laws.{OneRowIsMet}
use Rattle.asked_classes.specs.declared.expectations.AskedExpectation.{AskedExpectation}
use Rattle.asked_classes.specs.Looks.{AreExpectations}
use Rattle.wanted_classes.specs.declared.wanted.WantedExpectation.{WantedExpectation}
use Rattle.class_commands.specs.Classing.{IsMet, expectation_over, seen_of}
use Rattle.class_numbers.specs.Numbers.{AreAsExpected, IsAskedFor, IsAsExpected, IsNotAsExpected}
use Rattle.class_numbers.specs.Told.{IsExpectationTold, IsMissTold}

-- ---- along the rows

-- what is seen from a place on is seen of these rows
abbrev IsSeen : List (List Event) → ℕ → (ClassRow → List Event) → List ClassRow → Type 0
IsSeen seen k f rows = (j : ℕ) → get_or seen (k + j) [] ≡ get_or (map f rows) j []

seen-next : (seen : List (List Event)) (k : ℕ) (f : ClassRow → List Event) (row : ClassRow) (rows : List ClassRow) → IsSeen seen k f (row ∷ rows)
    → IsSeen seen (k + 1) f rows
seen-next seen k f row rows is j = ap (λ n. get_or seen n []) (let e : (k + 1) + j ≡ k + suc j = omega arith in e) ∙ is (suc j)

seen-here : (seen : List (List Event)) (k : ℕ) (f : ClassRow → List Event) (row : ClassRow) (rows : List ClassRow) → IsSeen seen k f (row ∷ rows)
    → get_or seen k [] ≡ f row
seen-here seen k f row rows is = ap (λ n. get_or seen n []) (let e : k ≡ k + 0 = omega arith in e) ∙ is 0

module _ (kind : Kind) (tables : List Table) (run : Spec) (filters : List Filter) (by : Grouping) (seen : ExpectationsAreSeen)
    (alone : (rank : ℕ) (s t : Shows) → ShowsAt kind tables run rank s → ShowsAt kind tables run rank t → s ≡ t) (e : AskedExpectation)
    (look : IsLook tables e.look) where
  -- the rank's order is asked for, and is told by the row
  abbrev InRow : ClassRow → ℕ → Type 0
  InRow row = IsAskedWith kind tables run filters (λ s. grouped_by by s ≡ grouped_by by row.shows)

  -- orders that are told alike leave the same
  same-left : (g : Grouping) (s t : Shows) → grouped_by g s ≡ grouped_by g t → s.left ≡ t.left
  same-left the.Shows s t h = ap (λ (x : Shows). x.left) h
  same-left the.Answers s t h = ap (λ (x : Shows). x.left) h

  -- the row is as expected: the SELECT sees that one row of what its first order leaves
  abbrev Is : ClassRow → Type 0
  Is row = seen_of e.look row ≡ told_by (one_row e.values.items)

  -- which each of its orders meets, or none
  order-meets : (row : ClassRow) (rank : ℕ) (ks : List ℕ) (s : Shows) → shows_of_line tables run ks ≡ Some s
      → grouped_by by s ≡ grouped_by by row.shows → Is row ↔ Meets run e.look e.values.items ks
  order-meets row rank ks s shows like =
      let own = seen tables run e.look e.values.items ks s look shows in
      let same : told_by (sees e.look s.left) ≡ seen_of e.look row = ap (λ rows. told_by (sees e.look rows)) (same-left by s row.shows like) in (
        λ h. own.1 (same ∙ h),
        λ m. sym same ∙ own.0 m,
      )

  expected-in : (row : ClassRow) → Is row → (rank : ℕ) → InRow row rank → IsAsExpected kind tables run filters e rank
  expected-in row is rank x =
      let y = x.1 in (
        y.0,
        record { order = y.1; shown = x.0; shows = y.2; passes = x.2 },
        (order-meets row rank y.0 x.0 y.2 x.3).0 is,
      )

  not-expected-in : (row : ClassRow) → (Is row → ⊥) → (rank : ℕ) → InRow row rank → IsNotAsExpected kind tables run filters e rank
  not-expected-in row not rank x =
      let y = x.1 in (
        y.0,
        record { order = y.1; shown = x.0; shows = y.2; passes = x.2 },
        λ m. not ((order-meets row rank y.0 x.0 y.2 x.3).1 m),
      )

  -- a rank's order is in one of the rows, and as expected
  abbrev InSome : List ClassRow → ℕ → Type 0
  InSome rows rank = (row : ClassRow) × Among row rows × Is row × InRow row rank

  apart : (row : ClassRow) (rows : List ClassRow) → IsRow kind tables run filters by row
      → ((r : ClassRow) → Among r rows → IsRow kind tables run filters by r) → RiseFrom (suc row.least) (map (λ (r : ClassRow). r.least) rows) → (rank : ℕ) → InRow row rank
      → (r : ClassRow) → Among r rows → InRow r rank → ⊥
  apart row rows is each rise rank x r m y =
      let same : x.0 ≡ y.0 = alone rank x.0 y.0 x.1 y.1 in
      let like : grouped_by by row.shows ≡ grouped_by by r.shows = sym x.3 ∙ ap (grouped_by by) same ∙ y.3 in
      let lt = behind (λ (z : ClassRow). z.least) (suc row.least) rows r rise m in
      let le : r.least ≤ row.least =
      (each r m).least.least row.least
      (subst (λ t. IsAskedWith kind tables run filters (λ s. grouped_by by s ≡ t) row.least) like is.least.is_so) in
      omega (arith, lt, le)

  module _ (one : OneRowIsMet) (x : Expectation) (values : x.values ≡ e.values.items) where
    row-tells : (row : ClassRow) → (meets x.values (seen_of e.look row) ≡ true) ↔ Is row
    row-tells row = subst (λ vs. (meets vs (seen_of e.look row) ≡ true) ↔ Is row) (sym values) (one e.values.items (seen_of e.look row))

    met-here : (k : ℕ) (row : ClassRow) (rows : List ClassRow) → IsSeen x.seen k (seen_of e.look) (row ∷ rows)
        → is_met_at x k ≡ meets x.values (seen_of e.look row)
    met-here k row rows s = ap (meets x.values) (seen-here x.seen k (seen_of e.look) row rows s)

    -- so many orders of the rows are as expected
    met-number : (low k : ℕ) (rows : List ClassRow) → ((r : ClassRow) → Among r rows → IsRow kind tables run filters by r)
        → RiseFrom low (map (λ (row : ClassRow). row.least) rows) → IsSeen x.seen k (seen_of e.look) rows → IsNumberOf (InSome rows) (met_from x k rows)
    met-number low k [] each rise s = number-none (InSome []) (λ rank p. p.1)
    met-number low k (row ∷ rows) each rise s =
        at (is_met_at x k) (subst (λ b. (b ≡ true) ↔ Is row) (sym (met-here k row rows s)) (row-tells row))
        (met-number (suc row.least) (k + 1) rows (λ r m. each r (inr m)) rise.1 (seen-next x.seen k (seen_of e.look) row rows s))
      where
        own : IsRow kind tables run filters by row
        own = each row (inl refl)

        at : (b : Bool) → (b ≡ true) ↔ Is row → IsNumberOf (InSome rows) (met_from x (k + 1) rows)
            → IsNumberOf (InSome (row ∷ rows)) (cond b row.count 0 + met_from x (k + 1) rows)
        at true tell rec =
            number-same (λ rank. InRow row rank ⊎ InSome rows rank) (InSome (row ∷ rows)) (row.count + met_from x (k + 1) rows)
            (λ rank p. ⊎_elim (λ y. (row, inl refl, tell.0 refl, y)) (λ y. (y.0, inr y.1, y.2, y.3)) p) (λ rank p. back rank p.0 p.1 p.2 p.3)
            (number-sum (InRow row) (InSome rows) row.count (met_from x (k + 1) rows) own.count rec
            (λ rank y z. apart row rows own (λ r m. each r (inr m)) rise.1 rank y z.0 z.1 z.3))
          where
            back : (rank : ℕ) (r : ClassRow) → Among r (row ∷ rows) → Is r → InRow r rank → InRow row rank ⊎ InSome rows rank
            back rank r (inl same) is y = inl (subst (λ (q : ClassRow). InRow q rank) same y)
            back rank r (inr m) is y = inr (r, m, is, y)
        at false tell rec =
            subst (IsNumberOf (InSome (row ∷ rows))) (let h : met_from x (k + 1) rows ≡ 0 + met_from x (k + 1) rows = omega arith in h)
            (number-same (InSome rows) (InSome (row ∷ rows)) (met_from x (k + 1) rows) (λ rank y. (y.0, inr y.1, y.2, y.3)) (λ rank p. back rank p.0 p.1 p.2 p.3) rec)
          where
            back : (rank : ℕ) (r : ClassRow) → Among r (row ∷ rows) → Is r → InRow r rank → InSome rows rank
            back rank r (inl same) is y = absurd (let bad : false ≡ true = tell.1 (subst Is same is) in cc)
            back rank r (inr m) is y = (r, m, is, y)

    -- no row misses; or the first that does, in the order of least ranks
    abbrev IsFirstOf : List ClassRow → Option (ClassRow × List Event) → Type 0
    IsFirstOf rows None = (row : ClassRow) → Among row rows → Is row
    IsFirstOf rows (Some miss) =
        Among miss.0 rows × (miss.1 ≡ seen_of e.look miss.0) × (Is miss.0 → ⊥) × ((r : ClassRow) → Among r rows → r.least < miss.0.least → Is r)

    first-of : (low k : ℕ) (rows : List ClassRow) → RiseFrom low (map (λ (row : ClassRow). row.least) rows) → IsSeen x.seen k (seen_of e.look) rows → IsFirstOf rows (first_miss x k rows)
    first-of low k [] rise s = λ row m. absurd m
    first-of low k (row ∷ rows) rise s =
        at (is_met_at x k) (get_or x.seen k []) (first_miss x (k + 1) rows) (subst (λ b. (b ≡ true) ↔ Is row) (sym (met-here k row rows s)) (row-tells row))
        (seen-here x.seen k (seen_of e.look) row rows s) (first-of (suc row.least) (k + 1) rows rise.1 (seen-next x.seen k (seen_of e.look) row rows s))
      where
        at : (b : Bool) (events : List Event) (rest : Option (ClassRow × List Event)) → (b ≡ true) ↔ Is row → events ≡ seen_of e.look row
            → IsFirstOf rows rest → IsFirstOf (row ∷ rows) (cond b rest (Some (row, events)))
        at true events None tell told rec = each
          where
            each : (r : ClassRow) → Among r (row ∷ rows) → Is r
            each r (inl same) = subst Is (sym same) (tell.0 refl)
            each r (inr m) = rec r m
        at true events (Some miss) tell told rec = (inr rec.0, rec.1, rec.2, each)
          where
            each : (r : ClassRow) → Among r (row ∷ rows) → r.least < miss.0.least → Is r
            each r (inl same) lt = subst Is (sym same) (tell.0 refl)
            each r (inr m) lt = rec.3 r m lt
        at false events rest tell told rec = (inl refl, told, (λ p. (let bad : false ≡ true = tell.1 p in cc)), each)
          where
            each : (r : ClassRow) → Among r (row ∷ rows) → r.least < row.least → Is r
            each r (inl same) lt = absurd (let least : r.least ≡ row.least = ap (λ (y : ClassRow). y.least) same in omega (arith, lt, least))
            each r (inr m) lt = absurd (let after = behind (λ (z : ClassRow). z.least) (suc row.least) rows r rise.1 m in omega (arith, lt, after))

-- ---- of orders

module _ (kind : Kind) (tables : List Table) (run : Spec) (filters : List Filter) (by : Grouping) (x : Classed) (is : IsClassed kind tables run filters by x)
    (seen : ExpectationsAreSeen) where
  -- the row of an order that is asked for
  row-of : (rank : ℕ) (ks : List ℕ) → (asked : IsAskedFor kind tables run filters rank ks)
      → (row : ClassRow) × Among row x.rows.items × (grouped_by by asked.shown ≡ grouped_by by row.shows)
  row-of rank ks asked = is.all rank asked.shown (ks, asked.order, asked.shows) asked.passes

  in-row : (rank : ℕ) (ks : List ℕ) (asked : IsAskedFor kind tables run filters rank ks) (row : ClassRow)
      → grouped_by by asked.shown ≡ grouped_by by row.shows → IsAskedWith kind tables run filters (λ s. grouped_by by s ≡ grouped_by by row.shows) rank
  in-row rank ks asked row like = (asked.shown, (ks, asked.order, asked.shows), asked.passes, like)

  module _ (e : AskedExpectation) (look : IsLook tables e.look) where
    abbrev RowIs : ClassRow → Type 0
    RowIs row = seen_of e.look row ≡ told_by (one_row e.values.items)

    meets-as : (row : ClassRow) (rank : ℕ) (ks : List ℕ) (s : Shows) → shows_of_line tables run ks ≡ Some s → grouped_by by s ≡ grouped_by by row.shows
        → RowIs row ↔ Meets run e.look e.values.items ks
    meets-as = order-meets kind tables run filters by seen is.alone e look

    all-met : ((row : ClassRow) → Among row x.rows.items → RowIs row) → AreAsExpected kind tables run filters e
    all-met f rank ks asked =
        let r = row-of rank ks asked in
        (meets-as r.0 rank ks asked.shown asked.shows r.2).0 (f r.0 r.1)

    met-all : AreAsExpected kind tables run filters e → (row : ClassRow) → Among row x.rows.items → RowIs row
    met-all f row m =
        let own = (is.each row m).least.is_so in
        let y = own.1 in
        (meets-as row row.least y.0 own.0 y.2 own.3).1 (f row.least y.0 (record { order = y.1; shown = own.0; shows = y.2; passes = own.2 }))

    least-missed : (row : ClassRow) → Among row x.rows.items → (RowIs row → ⊥) → ((r : ClassRow) → Among r x.rows.items → r.least < row.least → RowIs r)
        → IsLeastOf (IsNotAsExpected kind tables run filters e) row.least
    least-missed row m misses before = record {
      is_so = not-expected-in kind tables run filters by seen is.alone e look row misses row.least (is.each row m).least.is_so;
      least = λ q y.
          (let asked = y.1 in
          let r = row-of q y.0 asked in
          let from : r.0.least ≤ q = (is.each r.0 r.1).least.least q (in-row q y.0 asked r.0 r.2) in
          let cases : (row.least ≤ q) ⊎ (q < row.least) = grind arith in
          ⊎_elim (λ le. le)
          (λ lt. absurd (y.2 ((meets-as r.0 q y.0 asked.shown asked.shows r.2).0 (before r.0 r.1 (omega (arith, from, lt)))))) cases);
    }

    abbrev over : Expectation
    over = expectation_over x.rows.items e

    pub expectation-told : OneRowIsMet → LooksSeeLines → IsExpectationTold kind tables run filters x.rows.items e
    expectation-told one sees-lines = record {
      met = number-same (InSome kind tables run filters by seen is.alone e look x.rows.items) (IsAsExpected kind tables run filters e)
          (met_from over 0 x.rows.items) there back
          (met-number kind tables run filters by seen is.alone e look one over refl 0 0 x.rows.items is.each is.rise start);
      first = by-miss (first_miss over 0 x.rows.items) (first-of kind tables run filters by seen is.alone e look one over refl 0 0 x.rows.items is.rise start);
    }
      where
        start : IsSeen over.seen 0 (seen_of e.look) x.rows.items
        start j = ap (λ n. get_or (map (seen_of e.look) x.rows.items) n []) (let same : 0 + j ≡ j = omega arith in same)

        there : (rank : ℕ) → InSome kind tables run filters by seen is.alone e look x.rows.items rank → IsAsExpected kind tables run filters e rank
        there rank p = expected-in kind tables run filters by seen is.alone e look p.0 p.2 rank p.3

        back : (rank : ℕ) → IsAsExpected kind tables run filters e rank → InSome kind tables run filters by seen is.alone e look x.rows.items rank
        back rank y =
            let asked = y.1 in
            let r = row-of rank y.0 asked in
            (r.0, r.1, (meets-as r.0 rank y.0 asked.shown asked.shows r.2).1 y.2, in-row rank y.0 asked r.0 r.2)

        by-miss : (miss : Option (ClassRow × List Event)) → IsFirstOf kind tables run filters by seen is.alone e look one over refl x.rows.items miss
            → IsMissTold kind tables run filters e miss
        by-miss None all = all-met all
        by-miss (Some miss) p =
            let own = is.each miss.0 p.0 in (
              least-missed miss.0 p.0 p.2 p.3,
              own.line,
              ap (option_map told_by) (sees-lines tables run e.look miss.0.line.items miss.0.shows look own.shows) ∙ ap Some (sym p.1),
            )

    -- ---- what is found

    row-met : (rows : List ClassRow) → All RowIs rows ↔ ((row : ClassRow) → Among row rows → RowIs row)
    row-met [] = (λ all row m. absurd m, λ f. All-nil RowIs)
    row-met (row ∷ rows) =
        let rec = row-met rows in (
          λ all. each (All-head RowIs row rows all) (rec.0 (All-tail RowIs row rows all)),
          λ f. All-cons RowIs row rows (f row (inl refl)) (rec.1 (λ r m. f r (inr m))),
        )
      where
        each : RowIs row → ((r : ClassRow) → Among r rows → RowIs r) → (r : ClassRow) → Among r (row ∷ rows) → RowIs r
        each here rest r (inl same) = subst RowIs (sym same) here
        each here rest r (inr m) = rest r m

  pub met-of-orders : (e : AskedExpectation) → IsLook tables e.look → IsMet x.rows.items e ↔ AreAsExpected kind tables run filters e
  met-of-orders e look = (
    λ all. all-met e look ((row-met e look x.rows.items).0 all),
    λ f. (row-met e look x.rows.items).1 (met-all e look f),
  )

-- ---- of all that is asked

-- what is so of each expectation with a look is so of all that are asked
pub asked-all : (tables : List Table) (P : AskedExpectation → Type 0) → ((e : AskedExpectation) → IsLook tables e.look → P e)
    → (wanted : List WantedExpectation) (es : List AskedExpectation) → AreExpectations tables wanted es → All P es
asked-all tables P f [] [] are = All-nil P
asked-all tables P f [] (e ∷ es) are = absurd are
asked-all tables P f (w ∷ wanted) [] are = absurd are
asked-all tables P f (w ∷ wanted) (e ∷ es) are = All-cons P e es (f e are.0.select) (asked-all tables P f wanted es are.1)

-- and where two things are the same of each such expectation, they are of all
pub asked-same : (tables : List Table) (P Q : AskedExpectation → Type 0) → ((e : AskedExpectation) → IsLook tables e.look → P e → Q e)
    → (wanted : List WantedExpectation) (es : List AskedExpectation) → AreExpectations tables wanted es → All P es → All Q es
asked-same tables P Q f [] [] are all = All-nil Q
asked-same tables P Q f [] (e ∷ es) are all = absurd are
asked-same tables P Q f (w ∷ wanted) [] are all = absurd are
asked-same tables P Q f (w ∷ wanted) (e ∷ es) are all =
    All-cons Q e es (f e are.0.select (All-head P e es all)) (asked-same tables P Q f wanted es are.1 (All-tail P e es all))
