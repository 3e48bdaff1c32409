-- How classes come to be told. No public clause cites this module but for what is given.
use Rattle.std.specs.Prelude.{◌≡◌, ◌≢◌, ◌↔◌, ℕ, ◌+◌, ◌<◌, ◌≤◌, ◌^◌, ◌⊎◌, Bool, true, false, ◌||◌, cond, List, [], ◌∷◌, ◌++◌, length, map, set, slice_get, Option, Some, None, option_map}
use Rattle.lock_queues.specs.Reasons.{Among}
use Rattle.binding_model.specs.declared.tables.Table.{Table}
use Rattle.bound_specs.specs.Spec.{Spec}
use Rattle.spec_schedules.specs.declared.kind.Kind.{Kind}
use Rattle.spec_schedules.specs.Ranked.{IsOrderAt}
use Rattle.spec_classes.specs.declared.classes.OrderClass.{OrderClass}
use Rattle.spec_classes.specs.Classes.{ShowsAt, IsClassOf, AreClassesOf, AreSerialAnswers}
use Rattle.order_classes.specs.declared.shows.Shows.{Shows}
use Rattle.order_classes.specs.declared.rows.Letters.{Letters}
use Rattle.order_classes.specs.declared.rows.Total.{Total}
use Rattle.order_classes.specs.declared.rows.Totals.{Totals}
use Rattle.order_classes.specs.declared.rows.ClassRow.{ClassRow}
use Rattle.order_classes.specs.declared.rows.Grouping.{Grouping}
use Rattle.order_classes.specs.declared.letters.Filter.{Filter}
use Rattle.order_classes.specs.Asked.{Passes}
use Rattle.order_classes.specs.Shows.{shows_of_line}
use Rattle.order_classes.specs.Numbers.{IsNumberOf, IsLeastOf, RiseFrom}
use Rattle.different_shows.specs.Different.{HasNumber}
use Rattle.class_rows.specs.declared.found.FoundOrders.{FoundOrders}
use Rattle.class_rows.specs.declared.letters.Letter.{Letter}
use Rattle.class_rows.specs.declared.letters.Letter.TheVariants as letter
use Rattle.class_rows.specs.declared.passing.Passing.{Passing}
use Rattle.class_rows.specs.Pages.{told_by, AreLetters, has_r, rows_with}

-- ---- what is given

-- of a spec without permutation lines these are the answers of its serial orders; of another one they are not told
abbrev pub IsSerialOf : List Table → Spec → Option (List Shows) → Type 0
IsSerialOf tables run None = run.lines ≢ []
IsSerialOf tables run (Some answers) = (run.lines ≡ []) × AreSerialAnswers tables run answers

-- the classes of the orders of a spec, and what its serial orders answer
pub record AreFound (kind : Kind) (tables : List Table) (run : Spec) (x : FoundOrders) : Type 0 where
  pub classes : AreClassesOf kind tables run x.classes.now
  pub serial : IsSerialOf tables run (option_map (λ s. s.now) x.serial)

-- ---- letters

-- what the one or the other shows
abbrev pub either_r : Option Bool → Option Bool → Option Bool
either_r None q = q
either_r (Some p) None = Some p
either_r (Some p) (Some q) = Some (p || q)

abbrev pub either : Letters → Letters → Letters
either a b = record {
  waits = a.waits || b.waits;
  deadlock = a.deadlock || b.deadlock;
  error = a.error || b.error;
  unsent = a.unsent || b.unsent;
  stuck = a.stuck || b.stuck;
  not_serial = either_r a.not_serial b.not_serial;
}

-- what is counted has the letter
abbrev pub has_letter : Letter → Letters → Bool
has_letter letter.All l = true
has_letter letter.Waits l = l.waits
has_letter letter.Deadlock l = l.deadlock
has_letter letter.Error l = l.error
has_letter letter.Unsent l = l.unsent
has_letter letter.Stuck l = l.stuck
has_letter letter.NotSerial l = has_r l

-- ---- the classes that pass

-- these are those of the classes that pass, each with its letters, in their order
abbrev pub ArePassing : List Table → Spec → List Filter → List OrderClass → List Passing → Type 0
ArePassing tables run filters [] ps = ps ≡ []
ArePassing tables run filters (c ∷ cs) ps =
    ((p : Passing) × (rest : List Passing) × (ps ≡ p ∷ rest) × (p.class.now ≡ c) × Passes tables run filters c.shows
    × AreLetters tables run c.shows p.letters × ArePassing tables run filters cs rest)
    ⊎ ((Passes tables run filters c.shows → ⊥) × ArePassing tables run filters cs ps)

-- all their counts
abbrev pub count_of : List Passing → ℕ
count_of [] = 0
count_of (p ∷ ps) = p.class.now.count + count_of ps

-- classes of the orders of a spec, each with its letters, in the order of their first ranks
pub record AreAdded (kind : Kind) (tables : List Table) (run : Spec) (ps : List Passing) : Type 0 where
  pub each : (p : Passing) → Among p ps → IsClassOf kind tables run p.class.now
  pub told : (p : Passing) → Among p ps → (p.letters.not_serial ≡ None) ↔ (run.lines ≢ [])
  pub rise : RiseFrom 0 (map (λ (p : Passing). p.class.now.first) ps)
  pub alone : (rank : ℕ) (s t : Shows) → ShowsAt kind tables run rank s → ShowsAt kind tables run rank t → s ≡ t
  pub few : count_of ps < 2 ^ 63

-- ---- rows

module _ (kind : Kind) (tables : List Table) (run : Spec) (by : Grouping) where
  -- the class is told by the row
  abbrev pub IsOf : ClassRow → Passing → Type 0
  IsOf row p = told_by by p.class.now.shows ≡ told_by by row.shows

  -- the rank's order is of one of these classes, and that is told by the row
  abbrev pub IsInRow : List Passing → ClassRow → ℕ → Type 0
  IsInRow ps row rank = (p : Passing) × Among p ps × IsOf row p × ShowsAt kind tables run rank p.class.now.shows

  -- a letter is told of the row exactly where one of its classes has it
  abbrev pub IsLettered : List Passing → ClassRow → (Letters → Bool) → Type 0
  IsLettered ps row has = (has row.letters ≡ true) ↔ ((p : Passing) × Among p ps × IsOf row p × (has p.letters ≡ true))

  -- the row tells those of these classes that are told alike
  pub record IsRowOf (ps : List Passing) (row : ClassRow) : Type 0 where
    pub count : IsNumberOf (IsInRow ps row) row.count
    pub least : IsLeastOf (IsInRow ps row) row.least
    pub line : IsOrderAt kind run row.least row.line.items
    pub shows : shows_of_line tables run row.line.items ≡ Some row.shows
    pub lettered : (l : Letter) → IsLettered ps row (has_letter l)
    pub told : (row.letters.not_serial ≡ None) ↔ (run.lines ≢ [])
    pub few : row.count ≤ count_of ps

  -- the rows of these classes, with what each tells, in the order of their first ranks, of which each is that of a class
  pub record AreRowsOf (ps : List Passing) (keys : List Shows) (rows : List ClassRow) : Type 0 where
    pub long : length rows ≡ length keys
    pub keys_are : (n : ℕ) (row : ClassRow) → slice_get rows n ≡ Some row → slice_get keys n ≡ Some (told_by by row.shows)
    pub each : (n : ℕ) (row : ClassRow) → slice_get rows n ≡ Some row → IsRowOf ps row
    pub all : (p : Passing) → Among p ps → (n : ℕ) × (row : ClassRow) × (slice_get rows n ≡ Some row) × IsOf row p
    pub rise : (n m : ℕ) (row other : ClassRow) → n < m → slice_get rows n ≡ Some row → slice_get rows m ≡ Some other → row.least < other.least
    pub before : (n : ℕ) (row : ClassRow) → slice_get rows n ≡ Some row → (p : Passing) × Among p ps × (row.least ≡ p.class.now.first)

-- the row of the first class that is told so
pub record IsFirst (p : Passing) (row : ClassRow) : Type 0 where
  pub least : row.least ≡ p.class.now.first
  pub count : row.count ≡ p.class.now.count
  pub letters : row.letters ≡ p.letters
  pub line : row.line.items ≡ p.class.now.line.items
  pub shows : row.shows ≡ p.class.now.shows

-- the row with a class more
abbrev pub with_class : Passing → ClassRow → ClassRow
with_class p row = record { least = row.least; count = row.count + p.class.now.count; letters = either row.letters p.letters; line = row.line; shows = row.shows }

-- a class is put to the row of what it tells, or has a new one behind the others
abbrev pub IsPut : Grouping → Passing → List Shows → List Shows → List ClassRow → List ClassRow → Type 0
IsPut by p keys keys' rows rows' =
    (n : ℕ) × HasNumber keys keys' (told_by by p.class.now.shows) n
    × (((row : ClassRow) × (slice_get rows n ≡ Some row) × (rows' ≡ set rows n (with_class p row)))
    ⊎ ((length rows ≤ n) × ((row : ClassRow) × IsFirst p row × (rows' ≡ rows ++ row ∷ []))))

-- ---- totals

-- the orders of the classes that have a letter, and how many rows do
abbrev pub orders_with : (Letters → Bool) → List Passing → ℕ
orders_with has [] = 0
orders_with has (p ∷ ps) = cond (has p.letters) p.class.now.count 0 + orders_with has ps

abbrev pub total_by : (Letters → Bool) → List Passing → List ClassRow → Total
total_by has ps rows = record { orders = orders_with has ps; classes = rows_with has rows }

abbrev pub where_told : {X : Type 0} → Bool → X → Option X
where_told true x = Some x
where_told false x = None

abbrev pub totals_by : Bool → List Passing → List ClassRow → Totals
totals_by is_told ps rows = record {
  all = total_by (has_letter letter.All) ps rows;
  waits = total_by (has_letter letter.Waits) ps rows;
  deadlock = total_by (has_letter letter.Deadlock) ps rows;
  error = total_by (has_letter letter.Error) ps rows;
  unsent = total_by (has_letter letter.Unsent) ps rows;
  stuck = total_by (has_letter letter.Stuck) ps rows;
  not_serial = where_told is_told (total_by (has_letter letter.NotSerial) ps rows);
}
