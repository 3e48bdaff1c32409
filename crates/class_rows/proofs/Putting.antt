-- Rows, a class put to them after another.
use Rattle.std.proofs.Common.{◌≡◌, ◌≢◌, ◌↔◌, refl, sym, ap, ◌∙◌, subst, ℕ, zero, suc, ◌+◌, ◌<◌, ◌≤◌, Bool, true, false, ◌||◌, List, [], ◌∷◌, ◌++◌, length, set, slice_get, Option, Some, None, ◌⊎◌, inl, inr, ⊎_elim, unwrap_or, arith}
use Rattle.std.proofs.lemmas.Bool.{or_cases, or_left, or_right}
use Rattle.lock_queues.specs.Reasons.{Among}
use Rattle.binding_model.specs.declared.tables.Table.{Table}
use Rattle.bound_specs.specs.Spec.{Spec}
use Rattle.spec_schedules.specs.declared.kind.Kind.{Kind}
use Rattle.spec_schedules.specs.Ranked.{IsOrderAt}
use Rattle.spec_classes.specs.Classes.{ShowsAt, IsClassOf}
use Rattle.spec_classes.proofs.Counts.{number-same, number-sum}
use Rattle.order_classes.specs.declared.shows.Shows.{Shows}
use Rattle.order_classes.specs.declared.rows.Letters.{Letters}
use Rattle.order_classes.specs.declared.rows.ClassRow.{ClassRow}
use Rattle.order_classes.specs.declared.rows.Grouping.{Grouping}
use Rattle.order_classes.specs.Numbers.{IsNumberOf, IsLeastOf}
use Rattle.order_classes.specs.Shows.{shows_of_line}
use Rattle.different_shows.specs.Different.{AreDifferent, HasNumber}
use Rattle.class_rows.specs.declared.letters.Letter.{Letter}
use Rattle.class_rows.specs.declared.letters.Letter.TheVariants as letter
use Rattle.class_rows.specs.declared.passing.Passing.{Passing}
use Rattle.class_rows.specs.Pages.{told_by}
use Rattle.class_rows.specs.Telling.{either, either_r, has_letter, count_of, AreRowsOf, IsFirst, IsInRow, IsOf, IsPut, IsRowOf, with_class}
use Rattle.class_rows.proofs.Lists.{one-at, inside-at, set-parts, set-here, set-there, set-long, push-parts, push-left, push-here, push-long}

-- ---- letters

either-has : (l : Letter) (a b : Letters) → has_letter l (either a b) ≡ (has_letter l a || has_letter l b)
either-has letter.All a b = refl
either-has letter.Waits a b = refl
either-has letter.Deadlock a b = refl
either-has letter.Error a b = refl
either-has letter.Unsent a b = refl
either-has letter.Stuck a b = refl
either-has letter.NotSerial a b = by a.not_serial b.not_serial
  where
    by : (p q : Option Bool) → unwrap_or (either_r p q) false ≡ (unwrap_or p false || unwrap_or q false)
    by None q = refl
    by (Some true) None = refl
    by (Some false) None = refl
    by (Some p) (Some q) = refl

-- R is told of both or of none
either-told : (Lines : Type 0) (a b : Option Bool) → (a ≡ None) ↔ Lines → (b ≡ None) ↔ Lines → (either_r a b ≡ None) ↔ Lines
either-told Lines None b p q = q
either-told Lines (Some x) None p q = (λ h. q.0 refl, λ h. absurd (let bad : Some x ≡ None = p.1 h in cc))
either-told Lines (Some x) (Some y) p q =
    (λ h. absurd (let bad : Some (x || y) ≡ None = h in cc), λ h. absurd (let bad : Some x ≡ None = p.1 h in cc))

-- ---- one class more

module _ (kind : Kind) (tables : List Table) (run : Spec) (by : Grouping) (p : Passing) (qs qs' : List Passing)
    (is-class : IsClassOf kind tables run p.class.now) (told : (p.letters.not_serial ≡ None) ↔ (run.lines ≢ []))
    (parts : (q : Passing) → Among q qs' → Among q qs ⊎ (q ≡ p)) (old : (q : Passing) → Among q qs → Among q qs') (new : Among p qs')
    (counts : count_of qs' ≡ count_of qs + p.class.now.count) (before : (q : Passing) → Among q qs → q.class.now.first < p.class.now.first)
    (apart : (q : Passing) → Among q qs → (rank : ℕ) → ShowsAt kind tables run rank q.class.now.shows → ShowsAt kind tables run rank p.class.now.shows → ⊥) where
  abbrev InOld : ClassRow → ℕ → Type 0
  InOld row rank = IsInRow kind tables run by qs row rank

  abbrev InNew : ClassRow → ℕ → Type 0
  InNew row rank = IsInRow kind tables run by qs' row rank

  -- a row that does not tell the class stays so
  kept-row : (row : ClassRow) → (IsOf kind tables run by row p → ⊥) → IsRowOf kind tables run by qs row → IsRowOf kind tables run by qs' row
  kept-row row not is = record {
    count = number-same (InOld row) (InNew row) row.count there back is.count;
    least = record { is_so = there row.least is.least.is_so; least = λ rank x. is.least.least rank (back rank x) };
    line = is.line;
    shows = is.shows;
    lettered = λ l. (
      λ h. (let x = (is.lettered l).0 h in (x.0, old x.0 x.1, x.2, x.3)),
      λ x. (is.lettered l).1 (⊎_elim (λ m. (x.0, m, x.2, x.3)) (λ e. absurd (not (subst (IsOf kind tables run by row) e x.2))) (parts x.0 x.1)),
    );
    told = is.told;
    few = (let le = is.few in omega (arith, le, counts));
  }
    where
      there : (rank : ℕ) → InOld row rank → InNew row rank
      there rank x = (x.0, old x.0 x.1, x.2, x.3)

      back : (rank : ℕ) → InNew row rank → InOld row rank
      back rank x = ⊎_elim (λ m. (x.0, m, x.2, x.3)) (λ e. absurd (not (subst (IsOf kind tables run by row) e x.2))) (parts x.0 x.1)

  -- a row of other classes, with this one
  joined-row : (row : ClassRow) → IsOf kind tables run by row p → IsRowOf kind tables run by qs row
      → (first : (q : Passing) × Among q qs × (row.least ≡ q.class.now.first)) → IsRowOf kind tables run by qs' (with_class p row)
  joined-row row of is first = record {
    count = number-same (λ rank. InOld row rank ⊎ ShowsAt kind tables run rank p.class.now.shows) (InNew row) (row.count + p.class.now.count) there back
        (number-sum (InOld row) (λ rank. ShowsAt kind tables run rank p.class.now.shows) row.count p.class.now.count is.count is-class.count
        (λ rank x y. apart x.0 x.1 rank x.3 y));
    least = record {
      is_so = there row.least (inl is.least.is_so);
      least = λ rank x. ⊎_elim (λ y. is.least.least rank y)
          (λ y. (let from : p.class.now.first ≤ rank = is-class.first.least rank y in
          let lt : first.0.class.now.first < p.class.now.first = before first.0 first.1 in
          let own = first.2 in
          omega (arith, from, lt, own))) (back rank x);
    };
    line = is.line;
    shows = is.shows;
    lettered = λ l. (
      λ h. ⊎_elim
          (λ g. (let x = (is.lettered l).0 g in (x.0, old x.0 x.1, x.2, x.3)))
          (λ g. (p, new, of, g))
          (or_cases (has_letter l row.letters) (has_letter l p.letters) (sym (either-has l row.letters p.letters) ∙ h)),
      λ x. either-has l row.letters p.letters
          ∙ ⊎_elim
          (λ m. or_left (has_letter l row.letters) (has_letter l p.letters) ((is.lettered l).1 (x.0, m, x.2, x.3)))
          (λ e. or_right (has_letter l row.letters) (has_letter l p.letters) (ap (λ (q : Passing). has_letter l q.letters) (sym e) ∙ x.3))
          (parts x.0 x.1),
    );
    told = either-told (run.lines ≢ []) row.letters.not_serial p.letters.not_serial is.told told;
    few = (let le = is.few in omega (arith, le, counts));
  }
    where
      there : (rank : ℕ) → InOld row rank ⊎ ShowsAt kind tables run rank p.class.now.shows → InNew row rank
      there rank (inl x) = (x.0, old x.0 x.1, x.2, x.3)
      there rank (inr y) = (p, new, of, y)

      back : (rank : ℕ) → InNew row rank → InOld row rank ⊎ ShowsAt kind tables run rank p.class.now.shows
      back rank x =
          ⊎_elim (λ m. inl (x.0, m, x.2, x.3)) (λ e. inr (subst (λ (q : Passing). ShowsAt kind tables run rank q.class.now.shows) e x.3)) (parts x.0 x.1)

  -- the row of this one alone
  first-row : (row : ClassRow) → IsFirst p row → ((q : Passing) → Among q qs → IsOf kind tables run by row q → ⊥) → IsRowOf kind tables run by qs' row
  first-row row is none = record {
    count = subst (IsNumberOf (InNew row)) (sym is.count)
        (number-same (λ rank. ShowsAt kind tables run rank p.class.now.shows) (InNew row) p.class.now.count there back is-class.count);
    least = subst (IsLeastOf (InNew row)) (sym is.least)
        (record { is_so = there p.class.now.first is-class.first.is_so; least = λ rank x. is-class.first.least rank (back rank x) });
    line = subst (λ n. IsOrderAt kind run n row.line.items) (sym is.least) (subst (IsOrderAt kind run p.class.now.first) (sym is.line) is-class.line);
    shows = ap (shows_of_line tables run) is.line ∙ is-class.shows ∙ ap Some (sym is.shows);
    lettered = λ l. (
      λ h. (p, new, own, ap (has_letter l) (sym is.letters) ∙ h),
      λ x. ap (has_letter l) is.letters ∙ ap (λ (q : Passing). has_letter l q.letters) (sym (alone x.0 x.1 x.2)) ∙ x.3,
    );
    told = subst (λ (l : Letters). (l.not_serial ≡ None) ↔ (run.lines ≢ [])) (sym is.letters) told;
    few = (let e = is.count in omega (arith, e, counts));
  }
    where
      own : IsOf kind tables run by row p
      own = ap (told_by by) (sym is.shows)

      alone : (q : Passing) → Among q qs' → IsOf kind tables run by row q → q ≡ p
      alone q m of = ⊎_elim (λ n. absurd (none q n of)) (λ e. e) (parts q m)

      there : (rank : ℕ) → ShowsAt kind tables run rank p.class.now.shows → InNew row rank
      there rank y = (p, new, own, y)

      back : (rank : ℕ) → InNew row rank → ShowsAt kind tables run rank p.class.now.shows
      back rank x = subst (λ (q : Passing). ShowsAt kind tables run rank q.class.now.shows) (alone x.0 x.1 x.2) x.3

  -- ---- all rows

  module _ (keys keys' : List Shows) (rows : List ClassRow) (are : AreRowsOf kind tables run by qs keys rows) (n : ℕ)
      (number : HasNumber keys keys' (told_by by p.class.now.shows) n) (differ : AreDifferent keys') where
    key-kept : (m : ℕ) (s : Shows) → slice_get keys m ≡ Some s → slice_get keys' m ≡ Some s
    key-kept m s e =
        ⊎_elim (λ same. subst (λ ks. slice_get ks m ≡ Some s) (sym same) e)
        (λ g. subst (λ ks. slice_get ks m ≡ Some s) (sym g.1) (push-left keys (told_by by p.class.now.shows ∷ []) m s e)) number.grown

    -- a row that tells the class is the one with the number
    of-number : (m : ℕ) (row : ClassRow) → slice_get rows m ≡ Some row → IsOf kind tables run by row p → m ≡ n
    of-number m row e of =
        let key : slice_get keys' m ≡ Some (told_by by p.class.now.shows) = key-kept m (told_by by row.shows) (are.keys_are m row e) ∙ ap Some (sym of) in
        differ m n (told_by by p.class.now.shows) key number.at

    -- and the row with the number tells it
    number-of : (row : ClassRow) → slice_get rows n ≡ Some row → IsOf kind tables run by row p
    number-of row e = one-at keys' n (told_by by p.class.now.shows) (told_by by row.shows) number.at (key-kept n (told_by by row.shows) (are.keys_are n row e))

    old-first : (m : ℕ) (row : ClassRow) → slice_get rows m ≡ Some row → (q : Passing) × Among q qs' × (row.least ≡ q.class.now.first)
    old-first m row e = let x = are.before m row e in (x.0, old x.0 x.1, x.2)

    module _ (row : ClassRow) (at : slice_get rows n ≡ Some row) where
      inside : n < length rows
      inside = inside-at rows n row at

      -- no key is new
      same-long : length keys' ≡ length keys
      same-long =
          ⊎_elim (λ same. ap (λ (ks : List Shows). length ks) same)
          (λ g. absurd (let e : n ≡ length keys = g.0 in let long = are.long in let lt = inside in omega (arith, e, long, lt))) number.grown

      put-known : AreRowsOf kind tables run by qs' keys' (set rows n (with_class p row))
      put-known = record {
        long = set-long rows n (with_class p row) ∙ are.long ∙ sym same-long;
        keys_are = λ m r e. ⊎_elim
            (λ h. (let shows : told_by by r.shows ≡ told_by by row.shows = ap (λ (x : ClassRow). told_by by x.shows) h.1 in
            ap (slice_get keys') h.0 ∙ key-kept n (told_by by row.shows) (are.keys_are n row at) ∙ ap Some (sym shows)))
            (λ h. key-kept m (told_by by r.shows) (are.keys_are m r h.1)) (set-parts rows n (with_class p row) m r e);
        each = λ m r e. ⊎_elim
            (λ h. subst (IsRowOf kind tables run by qs') (sym h.1) (joined-row row (number-of row at) (are.each n row at) (are.before n row at)))
            (λ h. kept-row r (λ of. h.0 (of-number m r h.1 of)) (are.each m r h.1)) (set-parts rows n (with_class p row) m r e);
        all = λ q m. ⊎_elim
            (λ h. (let x = are.all q h in by-place x.0 x.1 x.2 q x.3))
            (λ e. (n, with_class p row, set-here rows n (with_class p row) inside, subst (IsOf kind tables run by row) (sym e) (number-of row at))) (parts q m);
        rise = λ m k r other lt e f.
            (let a = least-at m r e in let b = least-at k other f in
            let rises : a.0.least < b.0.least = are.rise m k a.0 b.0 lt a.1 b.1 in
            let x = a.2 in let y = b.2 in omega (arith, rises, x, y));
        before = λ m r e. (let a = least-at m r e in let x = are.before m a.0 a.1 in (x.0, old x.0 x.1, a.2 ∙ x.2));
      }
        where
          least-at : (m : ℕ) (r : ClassRow) → slice_get (set rows n (with_class p row)) m ≡ Some r → (o : ClassRow) × (slice_get rows m ≡ Some o) × (r.least ≡ o.least)
          least-at m r e =
              ⊎_elim (λ h. (row, ap (slice_get rows) h.0 ∙ at, ap (λ (x : ClassRow). x.least) h.1)) (λ h. (r, h.1, refl))
              (set-parts rows n (with_class p row) m r e)

          by-place : (m : ℕ) (r : ClassRow) → slice_get rows m ≡ Some r → (q : Passing) → IsOf kind tables run by r q
              → (k : ℕ) × (o : ClassRow) × (slice_get (set rows n (with_class p row)) k ≡ Some o) × IsOf kind tables run by o q
          by-place m r e q of =
              let cases : (m ≡ n) ⊎ ((m ≡ n) → ⊥) = same-or-not m n in
              ⊎_elim
              (λ h. (let same : row ≡ r = one-at rows n row r at (ap (slice_get rows) (sym h) ∙ e) in
              (n, with_class p row, set-here rows n (with_class p row) inside, subst (λ (x : ClassRow). IsOf kind tables run by x q) (sym same) of)))
              (λ h. (m, r, set-there rows n (with_class p row) m r h e, of)) cases
            where
              same-or-not : (a b : ℕ) → (a ≡ b) ⊎ ((a ≡ b) → ⊥)
              same-or-not zero zero = inl refl
              same-or-not zero (suc b) = inr (λ e. omega (arith, e))
              same-or-not (suc a) zero = inr (λ e. omega (arith, e))
              same-or-not (suc a) (suc b) = ⊎_elim (λ e. inl (ap suc e)) (λ f. inr (λ e. f (omega (arith, e)))) (same-or-not a b)

    module _ (past : length rows ≤ n) (row : ClassRow) (first : IsFirst p row) where
      -- the key is new
      grown : (n ≡ length keys) × (keys' ≡ keys ++ told_by by p.class.now.shows ∷ [])
      grown =
          ⊎_elim
          (λ same. absurd (let lt = inside-at keys' n (told_by by p.class.now.shows) number.at in
          let long : length keys' ≡ length keys = ap (λ (ks : List Shows). length ks) same in
          let rows-long = are.long in
          omega (arith, lt, long, rows-long, past)))
          (λ g. g) number.grown

      none-of : (m : ℕ) (r : ClassRow) → slice_get rows m ≡ Some r → IsOf kind tables run by r p → ⊥
      none-of m r e of = let same = of-number m r e of in let lt = inside-at rows m r e in omega (arith, same, lt, past)

      -- no class before is told so
      none-before : (q : Passing) → Among q qs → IsOf kind tables run by row q → ⊥
      none-before q m of =
          let x = are.all q m in
          none-of x.0 x.1 x.2 (ap (told_by by) (sym first.shows) ∙ sym of ∙ x.3)

      put-new : AreRowsOf kind tables run by qs' keys' (rows ++ row ∷ [])
      put-new = record {
        long = push-long rows row ∙ ap suc are.long ∙ sym (ap (λ (ks : List Shows). length ks) grown.1 ∙ push-long keys (told_by by p.class.now.shows));
        keys_are = λ m r e. ⊎_elim (λ h. key-kept m (told_by by r.shows) (are.keys_are m r h))
            (λ h. (let shows : told_by by r.shows ≡ told_by by p.class.now.shows = ap (λ (x : ClassRow). told_by by x.shows) h.1 ∙ ap (told_by by) first.shows in
            ap (slice_get keys') (h.0 ∙ are.long ∙ sym grown.0) ∙ number.at ∙ ap Some (sym shows))) (push-parts rows row m r e);
        each = λ m r e. ⊎_elim (λ h. kept-row r (none-of m r h) (are.each m r h))
            (λ h. subst (IsRowOf kind tables run by qs') (sym h.1) (first-row row first none-before)) (push-parts rows row m r e);
        all = λ q m. ⊎_elim
            (λ h. (let x = are.all q h in (x.0, x.1, push-left rows (row ∷ []) x.0 x.1 x.2, x.3)))
            (λ e. (length rows, row, push-here rows row, ap (λ (x : Passing). told_by by x.class.now.shows) e ∙ ap (told_by by) (sym first.shows))) (parts q m);
        rise = λ m k r other lt e f. risen m k r other lt (push-parts rows row m r e) (push-parts rows row k other f);
        before = λ m r e. ⊎_elim (λ h. old-first m r h) (λ h. (p, new, ap (λ (x : ClassRow). x.least) h.1 ∙ first.least)) (push-parts rows row m r e);
      }
        where
          risen : (m k : ℕ) (r other : ClassRow) → m < k → (slice_get rows m ≡ Some r) ⊎ ((m ≡ length rows) × (r ≡ row))
              → (slice_get rows k ≡ Some other) ⊎ ((k ≡ length rows) × (other ≡ row)) → r.least < other.least
          risen m k r other lt (inl e) (inl f) = are.rise m k r other lt e f
          risen m k r other lt (inl e) (inr f) =
              let x = are.before m r e in
              let begins = before x.0 x.1 in
              let own = x.2 in
              let last : other.least ≡ p.class.now.first = ap (λ (y : ClassRow). y.least) f.1 ∙ first.least in
              omega (arith, begins, own, last)
          risen m k r other lt (inr e) (inl f) = absurd (let inner = inside-at rows k other f in let place = e.0 in omega (arith, lt, inner, place))
          risen m k r other lt (inr e) (inr f) = absurd (let a = e.0 in let b = f.0 in omega (arith, lt, a, b))

  -- a class is put to the rows
  pub put-rows : (keys keys' : List Shows) (rows rows' : List ClassRow) → AreRowsOf kind tables run by qs keys rows → AreDifferent keys'
      → IsPut by p keys keys' rows rows' → AreRowsOf kind tables run by qs' keys' rows'
  put-rows keys keys' rows rows' are differ put =
      ⊎_elim
      (λ x. subst (AreRowsOf kind tables run by qs' keys') (sym x.2) (put-known keys keys' rows are put.0 put.1 differ x.0 x.1))
      (λ x. subst (AreRowsOf kind tables run by qs' keys') (sym x.1.2) (put-new keys keys' rows are put.0 put.1 differ x.0 x.1.0 x.1.1)) put.2

pub no-rows : (kind : Kind) (tables : List Table) (run : Spec) (by : Grouping) → AreRowsOf kind tables run by [] [] []
no-rows kind tables run by = record {
  long = refl;
  keys_are = λ n row e. absurd (let h : None ≡ Some row = e in cc);
  each = λ n row e. absurd (let h : None ≡ Some row = e in cc);
  all = λ p m. absurd m;
  rise = λ n m row other lt e f. absurd (let h : None ≡ Some row = e in cc);
  before = λ n row e. absurd (let h : None ≡ Some row = e in cc);
}
