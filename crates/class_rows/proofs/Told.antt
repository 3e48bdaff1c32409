-- What is told of classes is told of their orders.
use Rattle.std.proofs.Common.{◌≡◌, ◌≢◌, ◌↔◌, refl, sym, ap, ◌∙◌, subst, ℕ, suc, ◌+◌, ◌<◌, ◌≤◌, Bool, true, false, cond, List, [], ◌∷◌, map, slice_get, Option, Some, None, ◌⊎◌, inl, inr, ⊎_elim, arith}
use Rattle.std.specs.Option.{is_some}
use Rattle.lock_queues.specs.Reasons.{Among}
use Rattle.binding_model.specs.declared.tables.Table.{Table}
use Rattle.bound_specs.specs.Spec.{Spec}
use Rattle.spec_schedules.specs.declared.kind.Kind.{Kind}
use Rattle.spec_classes.specs.declared.classes.OrderClass.{OrderClass}
use Rattle.spec_classes.specs.Classes.{ShowsAt, IsClassOf, AreClassesOf}
use Rattle.spec_classes.proofs.Counts.{behind, number-none, number-same, number-sum}
use Rattle.order_classes.specs.declared.shows.Shows.{Shows}
use Rattle.order_classes.specs.declared.rows.Letters.{Letters}
use Rattle.order_classes.specs.declared.rows.ClassRow.{ClassRow}
use Rattle.order_classes.specs.declared.rows.Grouping.{Grouping}
use Rattle.order_classes.specs.declared.letters.Filter.{Filter}
use Rattle.order_classes.specs.Asked.{Passes}
use Rattle.order_classes.specs.Letters.{letter_w, letter_d, letter_e, letter_n, letter_s, IsR, LetterR}
use Rattle.order_classes.specs.Numbers.{IsNumberOf, RiseFrom}
use Rattle.different_shows.proofs.Places.{among-at, at-among}
use Rattle.class_rows.specs.declared.letters.Letter.TheVariants as letter
use Rattle.class_rows.specs.declared.passing.Passing.{Passing}
use Rattle.class_rows.specs.declared.rows.Classed.{Classed}
use Rattle.class_rows.specs.Pages.{told_by, letters_of, AreLetters, has_r, AreTotals, IsAskedWith, IsClassed, IsJoined, IsRow, IsTotal}
use Rattle.class_rows.specs.Telling.{has_letter, count_of, orders_with, total_by, totals_by, where_told, IsSerialOf, AreAdded, ArePassing, AreRowsOf, IsInRow, IsLettered, IsRowOf}
use Rattle.class_rows.proofs.Passes.{r-same, passing-each, passing-all}

-- ---- how many orders classes with a letter have

module _ (kind : Kind) (tables : List Table) (run : Spec)
    (alone : (rank : ℕ) (s t : Shows) → ShowsAt kind tables run rank s → ShowsAt kind tables run rank t → s ≡ t) (has : Letters → Bool)
    (IsSo : Shows → Type 0) where
  -- the rank's order is of one of the classes, and of that it is so
  abbrev pub IsInSome : List Passing → ℕ → Type 0
  IsInSome ps rank = (p : Passing) × Among p ps × IsSo p.class.now.shows × ShowsAt kind tables run rank p.class.now.shows

  pub orders-number : (low : ℕ) (ps : List Passing) → ((p : Passing) → Among p ps → IsClassOf kind tables run p.class.now)
      → RiseFrom low (map (λ (p : Passing). p.class.now.first) ps)
      → ((p : Passing) → Among p ps → (has p.letters ≡ true) ↔ IsSo p.class.now.shows) → IsNumberOf (IsInSome ps) (orders_with has ps)
  orders-number low [] each rise tells = number-none (IsInSome []) (λ rank x. x.1)
  orders-number low (p ∷ ps) each rise tells =
      at (has p.letters) (tells p (inl refl)) (orders-number (suc p.class.now.first) ps (λ q m. each q (inr m)) rise.1 (λ q m. tells q (inr m)))
    where
      own : IsClassOf kind tables run p.class.now
      own = each p (inl refl)

      at : (b : Bool) → (b ≡ true) ↔ IsSo p.class.now.shows → IsNumberOf (IsInSome ps) (orders_with has ps)
          → IsNumberOf (IsInSome (p ∷ ps)) (cond b p.class.now.count 0 + orders_with has ps)
      at true tell rec =
          number-same (λ rank. ShowsAt kind tables run rank p.class.now.shows ⊎ IsInSome ps rank) (IsInSome (p ∷ ps)) (p.class.now.count + orders_with has ps)
          (λ rank x. ⊎_elim (λ y. (p, inl refl, tell.0 refl, y)) (λ y. (y.0, inr y.1, y.2, y.3)) x)
          (λ rank x. back rank x.0 x.1 x.2 x.3)
          (number-sum (λ rank. ShowsAt kind tables run rank p.class.now.shows) (IsInSome ps) p.class.now.count (orders_with has ps) own.count rec apart)
        where
          back : (rank : ℕ) (q : Passing) → Among q (p ∷ ps) → IsSo q.class.now.shows → ShowsAt kind tables run rank q.class.now.shows
              → ShowsAt kind tables run rank p.class.now.shows ⊎ IsInSome ps rank
          back rank q (inl e) so y = inl (subst (λ (x : Passing). ShowsAt kind tables run rank x.class.now.shows) e y)
          back rank q (inr m) so y = inr (q, m, so, y)

          apart : (rank : ℕ) → ShowsAt kind tables run rank p.class.now.shows → IsInSome ps rank → ⊥
          apart rank y x =
              let q : Passing = x.0 in
              let same : p.class.now.shows ≡ q.class.now.shows = alone rank p.class.now.shows q.class.now.shows y x.3 in
              let lt = behind (λ (z : Passing). z.class.now.first) (suc p.class.now.first) ps q rise.1 x.1 in
              let other = each q (inr x.1) in
              let le : q.class.now.first ≤ p.class.now.first =
              other.first.least p.class.now.first (subst (ShowsAt kind tables run p.class.now.first) same own.first.is_so) in
              omega (arith, lt, le)
      at false tell rec =
          subst (IsNumberOf (IsInSome (p ∷ ps))) (let e : orders_with has ps ≡ 0 + orders_with has ps = omega arith in e)
          (number-same (IsInSome ps) (IsInSome (p ∷ ps)) (orders_with has ps) (λ rank y. (y.0, inr y.1, y.2, y.3)) (λ rank x. back rank x.0 x.1 x.2 x.3) rec)
        where
          back : (rank : ℕ) (q : Passing) → Among q (p ∷ ps) → IsSo q.class.now.shows → ShowsAt kind tables run rank q.class.now.shows → IsInSome ps rank
          back rank q (inl e) so y = absurd (let bad : false ≡ true = tell.1 (subst (λ (x : Passing). IsSo x.class.now.shows) e so) in cc)
          back rank q (inr m) so y = (q, m, so, y)

pub orders-few : (has : Letters → Bool) (ps : List Passing) → orders_with has ps ≤ count_of ps
orders-few has [] = omega arith
orders-few has (p ∷ ps) = let rec = orders-few has ps in let here = at (has p.letters) in omega (arith, rec, here)
  where
    at : (b : Bool) → cond b p.class.now.count 0 ≤ p.class.now.count
    at true = omega arith
    at false = omega arith

-- ---- the order of rows

rows-rise : (low : ℕ) (rows : List ClassRow) → ((n : ℕ) (row : ClassRow) → slice_get rows n ≡ Some row → low ≤ row.least)
    → ((n m : ℕ) (row other : ClassRow) → n < m → slice_get rows n ≡ Some row → slice_get rows m ≡ Some other → row.least < other.least)
    → RiseFrom low (map (λ (row : ClassRow). row.least) rows)
rows-rise low [] above rise = tt
rows-rise low (row ∷ rows) above rise = (
  above 0 row refl,
  rows-rise (suc row.least) rows (λ m other e. (let lt = rise 0 (suc m) row other (omega arith) refl e in omega (arith, lt)))
      (λ n m a b lt e f. rise (suc n) (suc m) a b (omega (arith, lt)) e f),
)

-- ---- all of it

module _ (kind : Kind) (tables : List Table) (run : Spec) (filters : List Filter) (by : Grouping) (cs : List OrderClass) (are : AreClassesOf kind tables run cs)
    (ps : List Passing) (passing : ArePassing tables run filters cs ps) (added : AreAdded kind tables run ps) where
  -- an order that is asked for is of a class that passes
  passing-of : (rank : ℕ) (s : Shows) → ShowsAt kind tables run rank s → Passes tables run filters s → (p : Passing) × Among p ps × (p.class.now.shows ≡ s)
  passing-of rank s shown passes =
      let c = are.all rank s shown in
      let p = passing-all tables run filters cs ps passing c.0 c.1 (subst (Passes tables run filters) (sym c.2) passes) in
      (p.0, p.1, ap (λ (x : OrderClass). x.shows) p.2 ∙ c.2)

  passes-of : (p : Passing) → Among p ps → Passes tables run filters p.class.now.shows
  passes-of p m = (passing-each tables run filters cs ps passing p m).1

  letters-of : (p : Passing) → Among p ps → AreLetters tables run p.class.now.shows p.letters
  letters-of p m = (passing-each tables run filters cs ps passing p m).2

  letters-one : (s : Shows) (k l : Letters) → AreLetters tables run s k → AreLetters tables run s l → k ≡ l
  letters-one s k l x y = x.2 ∙ ap (letters_of s) (r-same tables run s x.0 y.0 x.1 y.1) ∙ sym y.2

  abbrev asked : (Shows → Type 0) → ℕ → Type 0
  asked IsSo = IsAskedWith kind tables run filters IsSo

  some-asked : (IsSo : Shows → Type 0) (rank : ℕ) → IsInSome kind tables run added.alone (λ l. true) IsSo ps rank → asked IsSo rank
  some-asked IsSo rank x = (x.0.class.now.shows, x.3, passes-of x.0 x.1, x.2)

  asked-some : (IsSo : Shows → Type 0) (rank : ℕ) → asked IsSo rank → IsInSome kind tables run added.alone (λ l. true) IsSo ps rank
  asked-some IsSo rank x =
      let p = passing-of rank x.0 x.1 x.2 in
      (p.0, p.1, subst IsSo (sym p.2) x.3, subst (ShowsAt kind tables run rank) (sym p.2) x.1)

  -- ---- rows

  module _ (row : ClassRow) (is : IsRowOf kind tables run by ps row) where
    like-in : (rank : ℕ) → IsInRow kind tables run by ps row rank → asked (λ s. told_by by s ≡ told_by by row.shows) rank
    like-in rank x = (x.0.class.now.shows, x.3, passes-of x.0 x.1, x.2)

    in-like : (rank : ℕ) → asked (λ s. told_by by s ≡ told_by by row.shows) rank → IsInRow kind tables run by ps row rank
    in-like rank x =
        let p = passing-of rank x.0 x.1 x.2 in
        (p.0, p.1, ap (told_by by) p.2 ∙ x.3, subst (ShowsAt kind tables run rank) (sym p.2) x.1)

    joined : (has : Letters → Bool) → IsLettered kind tables run by ps row has → IsJoined kind tables run filters by has row
    joined has lettered = (
      λ h. (let x = lettered.0 h in
          let own = added.each x.0 x.1 in
          (x.0.class.now.first, (x.0.class.now.shows, own.first.is_so, passes-of x.0 x.1, (x.2, (x.0.letters, letters-of x.0 x.1, x.3))))),
      λ y. (let x = y.1 in
          let p = passing-of y.0 x.0 x.1 x.2 in
          let own : AreLetters tables run x.0 p.0.letters = subst (λ s. AreLetters tables run s p.0.letters) p.2 (letters-of p.0 p.1) in
          let same : p.0.letters ≡ x.3.1.0 = letters-one x.0 p.0.letters x.3.1.0 own x.3.1.1 in
          lettered.1 (p.0, p.1, ap (told_by by) p.2 ∙ x.3.0, ap has same ∙ x.3.1.2)),
    )

    row-told : IsRow kind tables run filters by row
    row-told = record {
      count = number-same (IsInRow kind tables run by ps row) (asked (λ s. told_by by s ≡ told_by by row.shows)) row.count like-in in-like is.count;
      least = record { is_so = like-in row.least is.least.is_so; least = λ rank x. is.least.least rank (in-like rank x) };
      line = is.line;
      shows = is.shows;
      waits = joined (λ l. l.waits) (is.lettered letter.Waits);
      deadlock = joined (λ l. l.deadlock) (is.lettered letter.Deadlock);
      error = joined (λ l. l.error) (is.lettered letter.Error);
      unsent = joined (λ l. l.unsent) (is.lettered letter.Unsent);
      stuck = joined (λ l. l.stuck) (is.lettered letter.Stuck);
      not_serial = joined has_r (is.lettered letter.NotSerial);
      told = is.told;
    }

  -- ---- totals

  total-told : (rows : List ClassRow) (has : Letters → Bool) (IsSo : Shows → Type 0)
      → ((s : Shows) (r : Option Bool) → IsR tables run s r → (has (letters_of s r) ≡ true) ↔ IsSo s)
      → IsTotal kind tables run filters IsSo has rows (total_by has ps rows)
  total-told rows has IsSo is = (
    number-same (IsInSome kind tables run added.alone has IsSo ps) (asked IsSo) (orders_with has ps) (some-asked IsSo) (asked-some IsSo)
        (orders-number kind tables run added.alone has IsSo 0 ps added.each added.rise tells),
    refl,
  )
    where
      tells : (p : Passing) → Among p ps → (has p.letters ≡ true) ↔ IsSo p.class.now.shows
      tells p m =
          let x = letters-of p m in
          subst (λ l. (has l ≡ true) ↔ IsSo p.class.now.shows) (sym x.2) (is p.class.now.shows x.0 x.1)

  r-is : (s : Shows) (r : Option Bool) → IsR tables run s r → (has_r (letters_of s r) ≡ true) ↔ LetterR tables run s
  r-is s None is = (λ h. absurd (let bad : false ≡ true = h in cc), λ odd. absurd (is odd.other.words))
  r-is s (Some odd) is = is.1

  totals-told : (serial : Option (List Shows)) → IsSerialOf tables run serial → (rows : List ClassRow) → AreTotals kind tables run filters rows (totals_by (is_some serial) ps rows)
  totals-told serial of rows = record {
    all = total-told rows (has_letter letter.All) (λ s. Unit {0}) (λ s r is. (λ h. tt, λ u. refl));
    waits = total-told rows (has_letter letter.Waits) (λ s. letter_w s ≡ true) (λ s r is. (λ h. h, λ h. h));
    deadlock = total-told rows (has_letter letter.Deadlock) (λ s. letter_d s ≡ true) (λ s r is. (λ h. h, λ h. h));
    error = total-told rows (has_letter letter.Error) (λ s. letter_e s ≡ true) (λ s r is. (λ h. h, λ h. h));
    unsent = total-told rows (has_letter letter.Unsent) (λ s. letter_n s ≡ true) (λ s r is. (λ h. h, λ h. h));
    stuck = total-told rows (has_letter letter.Stuck) (λ s. letter_s s ≡ true) (λ s r is. (λ h. h, λ h. h));
    not_serial = λ none. (
      total_by has_r ps rows,
      told serial of none,
      total-told rows has_r (LetterR tables run) r-is,
    );
    not_told = λ some. not-told serial of some;
  }
    where
      told : (o : Option (List Shows)) → IsSerialOf tables run o → run.lines ≡ [] → where_told (is_some o) (total_by has_r ps rows) ≡ Some (total_by has_r ps rows)
      told None is none = absurd (is none)
      told (Some answers) is none = refl

      not-told : (o : Option (List Shows)) → IsSerialOf tables run o → run.lines ≢ [] → where_told (is_some o) (total_by has_r ps rows) ≡ None
      not-told None is some = refl
      not-told (Some answers) is some = absurd (some is.0)

  pub all-told : (serial : Option (List Shows)) → IsSerialOf tables run serial → (keys : List Shows) (x : Classed) → IsNumberOf (λ rank. (s : Shows) × ShowsAt kind tables run rank s) x.orders
      → AreRowsOf kind tables run by ps keys x.rows.items → x.totals ≡ totals_by (is_some serial) ps x.rows.items → IsClassed kind tables run filters by x
  all-told serial of keys x orders rows totals = record {
    orders = orders;
    each = λ row m. (let at = among-at x.rows.items row m in row-told row (rows.each at.0 row at.1));
    all = λ rank s shown passes.
        (let p = passing-of rank s shown passes in
        let r = rows.all p.0 p.1 in
        (r.1, at-among x.rows.items r.0 r.1 r.2, ap (told_by by) (sym p.2) ∙ r.3));
    alone = added.alone;
    rise = rows-rise 0 x.rows.items (λ n row e. omega arith) rows.rise;
    totals = subst (AreTotals kind tables run filters x.rows.items) (sym totals) (totals-told serial of x.rows.items);
  }
