-- What is written of the classes of a spec, and what is found of them.
use Rattle.std.proofs.Common.{◌≡◌, refl, sym, ap, ◌∙◌, subst, ℕ, Bool, true, false, List, [], ◌∷◌, map, All, Option, None, Result, Ok, Err, cond}
use Rattle.std.proofs.lemmas.Bool.{and_from, and_parts}
use Rattle.std.proofs.lemmas.List.Elements.{All-cons, All-head, All-nil, All-tail}
use Rattle.std.specs.List.{list_all}
use Rattle.bound_statements.specs.declared.statement.Bound.{Bound}
use Rattle.lock_modes.specs.declared.value.Value.{Value}
use Rattle.machine_model.specs.Start.{Started, start}
use Rattle.machine_model.specs.World.{World}
use Rattle.session_machine.specs.Running.{IsNotRunBy}
use Rattle.session_machine.specs.declared.error.RunError.{RunError}
use Rattle.transcripts.specs.declared.counted.Counted.{Counted}
use Rattle.order_classes.specs.Looks.{one_row}
use Rattle.order_classes.specs.declared.rows.ClassRow.{ClassRow}
use Rattle.spec_levels.specs.Levels.{AreLevels}
use Rattle.spec_texts.specs.Texts.{Declares}
use Rattle.class_looks.specs.Seeing.{told_by}
use Rattle.class_rows.specs.declared.rows.Classed.{Classed}
use Rattle.class_texts.specs.Expected.{is_met, meets}
use Rattle.class_texts.specs.Laws.{OneRowIsMet}
use Rattle.wanted_classes.specs.declared.wanted.WantedClasses.{WantedClasses}
use Rattle.asked_classes.specs.declared.expectations.AskedExpectation.{AskedExpectation}
use Rattle.book_commands.specs.declared.finding.Finding.{Finding}
use Rattle.book_commands.specs.declared.finding.Finding.TheVariants.{Good, Bad}
use Rattle.class_commands.specs.declared.asking.AskedSpec.{AskedSpec}
use Rattle.class_commands.specs.declared.classing.ClassesFault.{ClassesFault}
use Rattle.class_commands.specs.declared.classing.ClassesFault.TheVariants.{Spec, Level, Asked, Run, TooMany, NoMemory, Write}
use Rattle.class_commands.specs.Classing.{AreCounted, MayHaveManyStates, IsClassesRun, IsFinding, IsMet, IsNotTold, IsTellingOf, expectation_over, grouping, kind_by, page_of, seen_of}
use Rattle.class_commands.specs.Opened.{IsWrittenAs}
use Rattle.class_commands.specs.Parts.{IsAskedSpec, IsNotAskedSpec, IsNotFound, IsTextOf, Writes, finding_by}

module _ {W : Type 0} (contents : W → Option (List ℕ)) (old new : Counted W) (bytes path : List ℕ) (wanted : WantedClasses) (a : AskedSpec)
    (is : IsAskedSpec bytes wanted a) (classed : Classed) (are : AreCounted wanted.sample (kind_by wanted.all_orders) a.tables.items a.spec.run a.asked.filters.items (grouping wanted.by_result) classed)
    (world : World) (starts : start a.spec.run ≡ Started world) where
  abbrev telling : (text : List ℕ) → IsTextOf path a.spec a.tables.items a.levels wanted a.asked classed text → IsTellingOf bytes path wanted text
  telling text is-text =
      let same = is.text in record {
        file = a.spec;
        is_file = is.is_file;
        tables = a.tables.items;
        declares = subst (λ t. Declares t a.spec a.tables.items) same is.declares;
        asked = a.asked;
        is_asked = is.is_asked;
        world = world;
        starts = starts;
        classed = classed;
        are = are;
        levels = a.levels;
        are_levels = subst (λ t. AreLevels t a.spec a.levels) same is.are_levels;
        written = subst (λ t. IsWrittenAs wanted.form t a.spec (page_of path a.spec a.tables.items a.levels wanted a.asked classed) text) same is-text;
      }

  -- what is written of them is the run's
  pub classes-run : (result : Result Finding ClassesFault)
      → Writes contents old new (IsTextOf path a.spec a.tables.items a.levels wanted a.asked classed) (IsFinding classed.rows.items a.asked.expectations.items) result
      → IsClassesRun contents old new bytes path wanted result
  classes-run (Ok finding) done = (done.0.0, (telling done.0.0 done.0.1, done.1), done.0.2)
  classes-run (Err (Spec fault)) never = absurd never
  classes-run (Err (Level fault)) never = absurd never
  classes-run (Err (Asked fault)) never = absurd never
  classes-run (Err (Run error)) never = absurd never
  classes-run (Err (TooMany noted)) never = absurd never
  classes-run (Err NoMemory) kept = kept
  classes-run (Err (Write fault)) stopped = (stopped.0, telling stopped.0 stopped.1, stopped.2)

module _ {W : Type 0} (contents : W → Option (List ℕ)) (old : Counted W) (bytes path : List ℕ) (wanted : WantedClasses) where
  -- why nothing is asked is why nothing is written
  pub not-asked : (fault : ClassesFault) → IsNotAskedSpec bytes wanted fault → IsNotTold contents old old bytes path wanted fault
  not-asked (Spec fault) is = (refl, is)
  not-asked (Level fault) is = (refl, is)
  not-asked (Asked fault) is = (refl, is)
  not-asked (Run error) never = absurd never
  not-asked (TooMany noted) never = absurd never
  not-asked NoMemory any = refl
  not-asked (Write fault) never = absurd never

  -- nor is anything where the orders are not run
  pub not-run : (a : AskedSpec) → IsAskedSpec bytes wanted a → (error : RunError) → IsNotRunBy error (start a.spec.run) → IsNotTold contents old old bytes path wanted (Run error)
  not-run a is error is-not =
      let declares = subst (λ t. Declares t a.spec a.tables.items) is.text is.declares in
      (refl, (a.spec, is.is_file, (a.tables.items, declares, ((a.asked, is.is_asked), is-not))))

  -- nor where there are too many states
  not-explored : (a : AskedSpec) → IsAskedSpec bytes wanted a → (noted : ℕ) → MayHaveManyStates wanted.sample a.spec → IsNotTold contents old old bytes path wanted (TooMany noted)
  not-explored a is noted many =
      let declares = subst (λ t. Declares t a.spec a.tables.items) is.text is.declares in
      (refl, (a.spec, is.is_file, (a.tables.items, declares, ((a.asked, is.is_asked), many))))

  -- nor where nothing is found of them
  pub not-found : (a : AskedSpec) → IsAskedSpec bytes wanted a → (fault : ClassesFault) → IsNotFound wanted.sample a.spec fault → IsNotTold contents old old bytes path wanted fault
  not-found a is (Spec fault) never = absurd never
  not-found a is (Level fault) never = absurd never
  not-found a is (Asked fault) never = absurd never
  not-found a is (Run error) is-not = not-run a is error is-not
  not-found a is (TooMany noted) many = not-explored a is noted many
  not-found a is NoMemory any = refl
  not-found a is (Write fault) never = absurd never

-- ---- what is found

module _ (law : OneRowIsMet) (st : Bound) (values : List Value) where
  abbrev IsSo : ClassRow → Type 0
  IsSo row = seen_of st row ≡ told_by (one_row values)

  abbrev so : List ClassRow → Bool
  so rows = list_all (meets values) (map (seen_of st) rows)

  all-there : (rows : List ClassRow) → so rows ≡ true → All IsSo rows
  all-there [] is = All-nil IsSo
  all-there (row ∷ rows) is =
      let p = and_parts (meets values (seen_of st row)) (so rows) is in
      All-cons IsSo row rows ((law values (seen_of st row)).0 p.0) (all-there rows p.1)

  all-back : (rows : List ClassRow) → All IsSo rows → so rows ≡ true
  all-back [] is = refl
  all-back (row ∷ rows) is =
      and_from (meets values (seen_of st row)) (so rows) ((law values (seen_of st row)).1 (All-head IsSo row rows is))
      (all-back rows (All-tail IsSo row rows is))

module _ (law : OneRowIsMet) (rows : List ClassRow) where
  abbrev met : List AskedExpectation → Bool
  met es = list_all is_met (map (expectation_over rows) es)

  each-there : (es : List AskedExpectation) → met es ≡ true → All (IsMet rows) es
  each-there [] is = All-nil (IsMet rows)
  each-there (e ∷ es) is =
      let p = and_parts (is_met (expectation_over rows e)) (met es) is in
      All-cons (IsMet rows) e es (all-there law e.look e.values.items rows p.0) (each-there es p.1)

  each-back : (es : List AskedExpectation) → All (IsMet rows) es → met es ≡ true
  each-back [] is = refl
  each-back (e ∷ es) is =
      and_from (is_met (expectation_over rows e)) (met es) (all-back law e.look e.values.items rows (All-head (IsMet rows) e es is))
      (each-back es (All-tail (IsMet rows) e es is))

  good-if : (b : Bool) → cond b Good Bad ≡ Good → b ≡ true
  good-if true is = refl
  good-if false is = absurd (let e : Bad ≡ Good = is in cc)

  -- the finding by what is seen is that of the classes
  pub finding-is : (es : List AskedExpectation) → IsFinding rows es (finding_by (map (expectation_over rows) es))
  finding-is es = (λ is. each-there es (good-if (met es) is), λ all. ap (λ b. cond b Good Bad) (each-back es all))
