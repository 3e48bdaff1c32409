-- Both levels: the results that one of them alone has, and what is written.
use Rattle.std.specs.Prelude.{⊤}
use Rattle.std.proofs.Common.{◌≡◌, ◌↔◌, ◌⊎◌, refl, sym, ap, ◌∙◌, subst, ℕ, zero, suc, Bool, true, false, cond, List, [], ◌∷◌, ◌++◌, take, drop, length, slice_get, Option, Some, None, Result, Ok, Err, IfOk, inl, inr, ⊎_elim}
use Rattle.std.specs.Option.{is_some}
use Rattle.std.specs.Prelude.{MatchOption}
use Rattle.binding_model.specs.declared.tables.Table.{Table}
use Rattle.bound_statements.specs.declared.statement.Level.{Level}
use Rattle.bound_statements.specs.declared.statement.Level.TheVariants.{Serializable, Committed}
use Rattle.bound_specs.specs.Spec.{Spec, SpecFile}
use Rattle.lock_queues.specs.Reasons.{Among}
use Rattle.lock_queues.proofs.Edges.{among-left, among-parts}
use Rattle.machine_model.specs.Start.{Started, start}
use Rattle.machine_model.specs.World.{World}
use Rattle.spec_levels.specs.Levelled.{IsLevelledSpec}
use Rattle.spec_levels.specs.Levels.{AreLevels}
use Rattle.spec_texts.specs.Texts.{Declares}
use Rattle.transcripts.specs.declared.counted.Counted.{Counted}
use Rattle.order_classes.specs.Letters.{answers_of}
use Rattle.order_classes.specs.declared.rows.ClassRow.{ClassRow}
use Rattle.order_classes.specs.declared.shows.Shows.{Shows}
use Rattle.different_shows.specs.Different.{HasNumber}
use Rattle.different_shows.proofs.Places.{at-among}
use Rattle.class_rows.proofs.Lists.{take-parts, take-old, take-new}
use Rattle.wanted_classes.specs.declared.wanted.WantedLevels.{WantedLevels}
use Rattle.class_commands.specs.declared.asking.ReadSpec.{ReadSpec}
use Rattle.class_commands.specs.declared.classing.ClassesFault.{ClassesFault}
use Rattle.class_commands.specs.declared.classing.ClassesFault.TheVariants.{Spec as NoSpec, Level as WrongLevel, Asked, Run, TooMany, NoMemory, Write}
use Rattle.class_commands.specs.declared.levels.FoundAt.{FoundAt}
use Rattle.class_commands.specs.declared.levels.Kept.{Kept}
use Rattle.class_commands.specs.Parts.{IsNotFound, IsNotReadSpec, IsReadSpec}
use Rattle.class_commands.specs.Levels.{AreOnly, HasResult, IsFoundAt, IsLevelsRun, IsNotFoundAt, IsTellingOfLevels}
use Rattle.class_commands.specs.LevelParts.{AreCountedTwice, AreResultsOf, IsKeptAt, IsKeptOf, IsLevelsText, WritesLevels}

-- ---- the results of rows

module _ (rows : List ClassRow) (i : ℕ) (row : ClassRow) (at : slice_get rows i ≡ Some row) (old new : List Shows) (are : AreResultsOf (take i rows) old)
    (n : ℕ) (has : HasNumber old new (answers_of row.shows) n) where
  abbrev HasRow : Shows → Type 0
  HasRow a = (r : ClassRow) × Among r (take (suc i) rows) × (answers_of r.shows ≡ a)

  old-row : (a : Shows) → Among a old → HasRow a
  old-row a m = let r = (are a).0 m in (r.0, take-old rows i r.0 r.1, r.2)

  new-row : (a : Shows) → a ≡ answers_of row.shows → HasRow a
  new-row a e = (row, take-new rows i row at, sym e)

  last-row : (a : Shows) → Among a old ⊎ Among a (answers_of row.shows ∷ []) → HasRow a
  last-row a (inl m) = old-row a m
  last-row a (inr (inl e)) = new-row a e
  last-row a (inr (inr none)) = absurd none

  there : (a : Shows) → Among a new → HasRow a
  there a m =
      ⊎_elim (λ same. old-row a (subst (Among a) same m))
      (λ grown. last-row a (among-parts a old (answers_of row.shows ∷ []) (subst (Among a) grown.1 m))) has.grown

  kept : (a : Shows) → Among a old → Among a new
  kept a m =
      ⊎_elim (λ same. subst (Among a) (sym same) m) (λ grown. subst (Among a) (sym grown.1) (among-left a old (answers_of row.shows ∷ []) m)) has.grown

  back : (a : Shows) → HasRow a → Among a new
  back a r =
      ⊎_elim (λ m. kept a ((are a).1 (r.0, m, r.2)))
      (λ e. subst (λ b. Among b new) (ap (λ (x : ClassRow). answers_of x.shows) (sym e) ∙ r.2) (at-among new n (answers_of row.shows) has.at))
      (take-parts rows i row r.0 at r.1)

  -- the results of one row more
  pub one-more : AreResultsOf (take (suc i) rows) new
  one-more a = (there a, back a)

-- a result is found exactly where it is among those that are known
pub found-among : (known : List Shows) (a : Shows) (o : Option ℕ) → MatchOption o (Among a known → ⊥) (λ n. slice_get known n ≡ Some a)
    → (is_some o ≡ true) ↔ Among a known
found-among known a None none = (λ h. (let bad : false ≡ true = h in cc), λ m. absurd (none m))
found-among known a (Some n) at = (λ h. at-among known n a at, λ m. refl)

-- ---- the results that others do not have

module _ (others : List ClassRow) where
  -- what the others do not have of the rows from a place on, put behind these, is what they do not have of all
  abbrev pub GoesOn : List ClassRow → ℕ → List ClassRow → Type 0
  GoesOn rows i only = (rest : List ClassRow) → AreOnly others (drop i rows) rest → AreOnly others rows (only ++ rest)

  drop-at : (rows : List ClassRow) (i : ℕ) (row : ClassRow) → slice_get rows i ≡ Some row → drop i rows ≡ row ∷ drop (suc i) rows
  drop-at [] i row e = absurd (let h : None ≡ Some row = e in cc)
  drop-at (r ∷ rows) zero row e = let h : Some r ≡ Some row = e in let same : r ≡ row = cc in ap (λ x. x ∷ rows) same
  drop-at (r ∷ rows) (suc i) row e = drop-at rows i row e

  push-on : (only : List ClassRow) (row : ClassRow) (rest : List ClassRow) → (only ++ row ∷ []) ++ rest ≡ only ++ row ∷ rest
  push-on [] row rest = refl
  push-on (r ∷ only) row rest = ap (λ xs. r ∷ xs) (push-on only row rest)

  one-only : (rows : List ClassRow) (i : ℕ) (row : ClassRow) (only items : List ClassRow) → items ≡ only ++ row ∷ [] → slice_get rows i ≡ Some row
      → GoesOn rows i only → (HasResult others row → ⊥) → GoesOn rows (suc i) items
  one-only rows i row only items is at on none rest are =
      subst (λ xs. AreOnly others rows (xs ++ rest)) (sym is)
      (subst (AreOnly others rows) (sym (push-on only row rest))
      (on (row ∷ rest) (subst (λ rs. AreOnly others rs (row ∷ rest)) (sym (drop-at rows i row at)) (inr (none, (rest, refl, are))))))

  one-known : (rows : List ClassRow) (i : ℕ) (row : ClassRow) (only : List ClassRow) → slice_get rows i ≡ Some row → GoesOn rows i only
      → HasResult others row → GoesOn rows (suc i) only
  one-known rows i row only at on has rest are =
      on rest (subst (λ rs. AreOnly others rs rest) (sym (drop-at rows i row at)) (inl (has, are)))

  pub all-only : (rows : List ClassRow) (i : ℕ) (only : List ClassRow) → GoesOn rows i only → drop i rows ≡ [] → AreOnly others rows only
  all-only rows i only on none =
      subst (AreOnly others rows) (nothing only) (on [] (subst (λ rs. AreOnly others rs []) (sym none) refl))
    where
      nothing : (xs : List ClassRow) → xs ++ [] ≡ xs
      nothing [] = refl
      nothing (x ∷ xs) = ap (λ ys. x ∷ ys) (nothing xs)

  -- one row more, which is pushed unless its result is known
  pub one-row : (results : List Shows) → AreResultsOf others results → (rows : List ClassRow) (i : ℕ) (row : ClassRow) (only items : List ClassRow) (b : Bool)
      → items ≡ cond b only (only ++ row ∷ []) → slice_get rows i ≡ Some row → GoesOn rows i only → (b ≡ true) ↔ Among (answers_of row.shows) results
      → GoesOn rows (suc i) items
  one-row results are rows i row only items true is at on known =
      subst (GoesOn rows (suc i)) (sym is) (one-known rows i row only at on ((are (answers_of row.shows)).0 (known.0 refl)))
  one-row results are rows i row only items false is at on known =
      one-only rows i row only items is at on (λ has. let bad : false ≡ true = known.1 ((are (answers_of row.shows)).1 has) in cc)

-- ---- what is found at a level

module _ (bytes : List ℕ) (level : Level) where
  pub found-at : (r : ReadSpec) → IsReadSpec bytes (Some level) r → (x : FoundAt) → x.spec ≡ r.spec → x.tables.items ≡ r.tables.items → x.levels ≡ r.levels
      → AreCountedTwice x.tables.items x.spec.run x.totals x.results → (w : World) × (start x.spec.run ≡ Started w) → IsFoundAt bytes level x
  found-at r is x spec tables levels twice starts =
      let text = r.spec.text in
      let declares = subst (λ t. Declares t r.spec r.tables.items) is.text is.declares in
      let of-spec = subst (λ (s : SpecFile). Declares bytes s r.tables.items) (sym spec) declares in
      let are-levels = subst (λ t. AreLevels t r.spec r.levels) is.text is.are_levels in
      let levels-of-spec = subst (λ (s : SpecFile). AreLevels bytes s r.levels) (sym spec) are-levels in record {
        is_file = subst (λ (s : SpecFile). IsLevelledSpec bytes (Some level) s) (sym spec) is.is_file;
        declares = subst (Declares bytes x.spec) (sym tables) of-spec;
        are_levels = subst (AreLevels bytes x.spec) (sym levels) levels-of-spec;
        world = starts.0;
        starts = starts.1;
        classes = twice.0.0;
        are_classes = twice.0.1;
        totals = twice.0.2;
        are_results = twice.1;
      }

  -- what is not counted is not found
  pub uncounted : (r : ReadSpec) → IsReadSpec bytes (Some level) r → (fault : ClassesFault) → IsNotFound None r.spec fault → IsNotFoundAt bytes fault
  uncounted r is (NoSpec fault) never = absurd never
  uncounted r is (WrongLevel fault) never = absurd never
  uncounted r is (Asked fault) never = never
  uncounted r is (Run error) why = (level, r.spec, is.is_file, why)
  uncounted r is (TooMany noted) many = (level, r.spec, is.is_file, many)
  uncounted r is NoMemory any = tt
  uncounted r is (Write fault) never = never

-- ---- the run

module _ {W : Type 0} (contents : W → Option (List ℕ)) (old : Counted W) (bytes path : List ℕ) (wanted : WantedLevels) where
  module _ (k : Kept) (kept : IsKeptAt bytes Serializable k) (y : FoundAt) (found : IsFoundAt bytes Committed y) (new : Counted W) where
    abbrev telling : (text : List ℕ) → IsLevelsText path wanted k y text → IsTellingOfLevels bytes path wanted text
    telling text is =
        let told = is kept.0 kept.2 in
        record { serializable = kept.0; is_serializable = kept.1; committed = y; is_committed = found; only = told.0; are_only = told.1; text_is = told.2 }

    pub levels-run : (result : Result ⊤ ClassesFault) → WritesLevels contents old new (IsLevelsText path wanted k y) result
        → IsLevelsRun contents old new bytes path wanted result
    levels-run (Ok done) w = (w.0, telling w.0 w.1, w.2)
    levels-run (Err (NoSpec fault)) never = absurd never
    levels-run (Err (WrongLevel fault)) never = absurd never
    levels-run (Err (Asked fault)) never = absurd never
    levels-run (Err (Run error)) never = absurd never
    levels-run (Err (TooMany noted)) never = absurd never
    levels-run (Err NoMemory) same = (same, tt)
    levels-run (Err (Write fault)) w = (w.0, telling w.0 w.1, w.2)
