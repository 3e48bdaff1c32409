-- Classes as they are told.
use Rattle.std.specs.Prelude.{◌≡◌, ◌≢◌, ◌↔◌, ℕ, ◌+◌, Bool, true, false, cond, List, [], ◌∷◌, map, Option, Some, None, unwrap_or}
use Rattle.lock_queues.specs.Reasons.{Among}
use Rattle.binding_model.specs.declared.tables.Table.{Table}
use Rattle.bound_specs.specs.Spec.{Spec}
use Rattle.spec_schedules.specs.declared.kind.Kind.{Kind}
use Rattle.spec_schedules.specs.Ranked.{IsOrderAt}
use Rattle.spec_classes.specs.Classes.{ShowsAt}
use Rattle.order_classes.specs.declared.shows.Shows.{Shows}
use Rattle.order_classes.specs.declared.rows.Letters.{Letters}
use Rattle.order_classes.specs.declared.rows.Total.{Total}
use Rattle.order_classes.specs.declared.rows.Totals.{Totals}
use Rattle.order_classes.specs.declared.rows.ClassRow.{ClassRow}
use Rattle.order_classes.specs.declared.rows.Grouping.{Grouping}
use Rattle.order_classes.specs.declared.rows.Grouping.TheVariants as the
use Rattle.order_classes.specs.declared.letters.Filter.{Filter}
use Rattle.order_classes.specs.Asked.{Passes}
use Rattle.order_classes.specs.Letters.{answers_of, letter_w, letter_d, letter_e, letter_n, letter_s, IsR, LetterR}
use Rattle.order_classes.specs.Numbers.{IsNumberOf, IsLeastOf, RiseFrom}
use Rattle.order_classes.specs.Shows.{shows_of_line}
use Rattle.class_rows.specs.declared.rows.Classed.{Classed}

-- what an order is grouped by: all that it shows, or what it answers
abbrev pub told_by : Grouping → Shows → Shows
told_by the.Shows s = s
told_by the.Answers s = answers_of s

-- the letters of what is shown, by what is told of R
abbrev pub letters_of : Shows → Option Bool → Letters
letters_of s r = record { waits = letter_w s; deadlock = letter_d s; error = letter_e s; unsent = letter_n s; stuck = letter_s s; not_serial = r }

-- they are those of what is shown
abbrev pub AreLetters : List Table → Spec → Shows → Letters → Type 0
AreLetters tables run s l = (r : Option Bool) × IsR tables run s r × (l ≡ letters_of s r)

abbrev pub has_r : Letters → Bool
has_r l = unwrap_or l.not_serial false

-- how many rows have a letter
abbrev pub rows_with : (Letters → Bool) → List ClassRow → ℕ
rows_with has [] = 0
rows_with has (row ∷ rows) = cond (has row.letters) 1 0 + rows_with has rows

module _ (kind : Kind) (tables : List Table) (run : Spec) (filters : List Filter) where
  -- the order of the rank is asked for, as it passes all filters, and what it shows is so
  abbrev pub IsAskedWith : (Shows → Type 0) → ℕ → Type 0
  IsAskedWith IsSo rank = (s : Shows) × ShowsAt kind tables run rank s × Passes tables run filters s × IsSo s

  -- a letter is told of a class exactly where one of its orders has it
  abbrev pub IsJoined : Grouping → (Letters → Bool) → ClassRow → Type 0
  IsJoined by has row =
      (has row.letters ≡ true)
      ↔ ((rank : ℕ) × IsAskedWith (λ s. (told_by by s ≡ told_by by row.shows) × ((l : Letters) × AreLetters tables run s l × (has l ≡ true))) rank)

  -- a class has all orders that are asked for and show what its first one does, or answer so
  pub record IsRow (by : Grouping) (row : ClassRow) : Type 0 where
    pub count : IsNumberOf (IsAskedWith (λ s. told_by by s ≡ told_by by row.shows)) row.count
    pub least : IsLeastOf (IsAskedWith (λ s. told_by by s ≡ told_by by row.shows)) row.least
    pub line : IsOrderAt kind run row.least row.line.items
    pub shows : shows_of_line tables run row.line.items ≡ Some row.shows
    pub waits : IsJoined by (λ l. l.waits) row
    pub deadlock : IsJoined by (λ l. l.deadlock) row
    pub error : IsJoined by (λ l. l.error) row
    pub unsent : IsJoined by (λ l. l.unsent) row
    pub stuck : IsJoined by (λ l. l.stuck) row
    pub not_serial : IsJoined by has_r row
    pub told : (row.letters.not_serial ≡ None) ↔ (run.lines ≢ [])

  -- so many orders that are asked for are so, in so many classes
  abbrev pub IsTotal : (Shows → Type 0) → (Letters → Bool) → List ClassRow → Total → Type 0
  IsTotal IsSo has rows t = IsNumberOf (IsAskedWith IsSo) t.orders × (t.classes ≡ rows_with has rows)

  pub record AreTotals (rows : List ClassRow) (t : Totals) : Type 0 where
    pub all : IsTotal (λ s. Unit {0}) (λ l. true) rows t.all
    pub waits : IsTotal (λ s. letter_w s ≡ true) (λ l. l.waits) rows t.waits
    pub deadlock : IsTotal (λ s. letter_d s ≡ true) (λ l. l.deadlock) rows t.deadlock
    pub error : IsTotal (λ s. letter_e s ≡ true) (λ l. l.error) rows t.error
    pub unsent : IsTotal (λ s. letter_n s ≡ true) (λ l. l.unsent) rows t.unsent
    pub stuck : IsTotal (λ s. letter_s s ≡ true) (λ l. l.stuck) rows t.stuck
    -- R is told of a spec without permutation lines alone
    pub not_serial : run.lines ≡ [] → (r : Total) × (t.not_serial ≡ Some r) × IsTotal (LetterR tables run) has_r rows r
    pub not_told : run.lines ≢ [] → t.not_serial ≡ None

  -- how many orders there are; and those that pass the filters, grouped so: a row of each class, and the totals
  pub record IsClassed (by : Grouping) (x : Classed) : Type 0 where
    pub orders : IsNumberOf (λ rank. (s : Shows) × ShowsAt kind tables run rank s) x.orders
    pub each : (row : ClassRow) → Among row x.rows.items → IsRow by row
    pub all : (rank : ℕ) (s : Shows) → ShowsAt kind tables run rank s → Passes tables run filters s
        → (row : ClassRow) × Among row x.rows.items × (told_by by s ≡ told_by by row.shows)
    -- a rank shows one thing
    pub alone : (rank : ℕ) (s t : Shows) → ShowsAt kind tables run rank s → ShowsAt kind tables run rank t → s ≡ t
    -- the rows are in the order of their least ranks
    pub rise : RiseFrom 0 (map (λ (row : ClassRow). row.least) x.rows.items)
    pub totals : AreTotals x.rows.items x.totals
