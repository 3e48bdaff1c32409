-- What is reported, value by value.
use Rattle.std.proofs.Common.{◌≡◌, ◌∙◌, ap, refl, sym, subst, ℕ, zero, suc, ◌+◌, ◌-◌, ◌<◌, ◌≤◌, ◌++◌, List, [], length, get_or, Option}
use Rattle.std.proofs.Common.{arith}
use Rattle.std.proofs.lemmas.List.{get_or-map, length-map}
use Rattle.bound_specs.specs.Spec.{Spec, SpecFile, ranks}
use Rattle.transcripts.specs.Counted.{Wrote, Stopped}
use Rattle.transcripts.specs.Text.{rank_text, outcome_text}
use Rattle.transcripts.specs.declared.counted.Counted.{Counted}
use Rattle.transcripts.proofs.Writing.{wrote-append, stopped-append, stopped-after}
use Rattle.rank_facts.specs.Swap.{leads_in}
use Rattle.fact_books.specs.declared.error.TheConstants.{MAX_REPORTED}
use Rattle.fact_books.specs.Entries.{Told, FactSet}
use Rattle.fact_books.specs.Books.{Contents, AllRecordable}
use Rattle.fact_books.specs.Sweep.{values_of}
use Rattle.fact_books.specs.Values.{AreValues}
use Rattle.fact_books.proofs.Recordable.{value-own}
use Rattle.book_commands.specs.Reporting.{values_text, IsReportText, AllOwn}

-- ---- values are the spec's own

pub values-own : (spec : Spec) (s : FactSet) (leads : ℕ → ℕ → Option ℕ) (count : ℕ) (values : List Told) → AllRecordable spec s
    → AreValues s leads count values → AllOwn spec values
values-own spec s leads count values all are r lt =
    let same = are.count_is in
    value-own spec s leads all r _ (are.each r (omega (arith, same, lt))).value

-- ---- reading values

-- the value of a rank is the outcome with its number
pub value-at : (table : List Told) (numbers : List ℕ) (r : ℕ) → r < length numbers → get_or (values_of table numbers) r [] ≡ get_or table (get_or numbers r 0) []
value-at table numbers r lt = get_or-map (λ n. get_or table n []) numbers r 0 [] lt

pub value-counted : (table : List Told) (numbers : List ℕ) → length (values_of table numbers) ≡ length numbers
value-counted table numbers = length-map numbers (λ n. get_or table n [])

-- ---- texts that stop

module _ {W : Type 0} (contents : W → Option (List ℕ)) (old new : Counted W) (file : SpecFile) (values : List Told) where
  stopped-within : (n more m : ℕ) → m ≡ more + n → Stopped contents old new (values_text file values n) → Stopped contents old new (values_text file values m)
  stopped-within n zero m e h = let same : n ≡ m = omega (arith, e) in subst (λ k. Stopped contents old new (values_text file values k)) same h
  stopped-within n (suc more) zero e h = absurd (omega (arith, e))
  stopped-within n (suc more) (suc m) e h = stopped-append contents old new _ _ (stopped-within n more m (omega (arith, e)) h)

  -- one value more
  pub value-written : (mid : Counted W) (r : ℕ) (o : Told) → o ≡ get_or values r [] → Wrote contents old mid (values_text file values r)
      → Wrote contents mid new (rank_text r ++ outcome_text file.session_names file.step_names o) → Wrote contents old new (values_text file values (r + 1))
  value-written mid r o is before more =
      let e : suc r ≡ r + 1 = omega arith in
      subst (λ n. Wrote contents old new (values_text file values n)) e
      (subst (λ v. Wrote contents old new (values_text file values r ++ (rank_text r ++ outcome_text file.session_names file.step_names v)))
      is (wrote-append contents old mid new _ _ before more))

  -- it stops in the next value
  pub value-stopped : (mid : Counted W) (r count : ℕ) (o : Told) → r < count → o ≡ get_or values r []
      → Wrote contents old mid (values_text file values r) → Stopped contents mid new (rank_text r ++ outcome_text file.session_names file.step_names o)
      → Stopped contents old new (values_text file values count)
  value-stopped mid r count o lt is before stop =
      let within : Stopped contents old new (values_text file values (suc r)) =
      subst (λ v. Stopped contents old new (values_text file values r ++ (rank_text r ++ outcome_text file.session_names file.step_names v)))
      is (stopped-after contents old mid new _ _ before stop) in
      let e : count ≡ count - suc r + suc r = omega (arith, lt) in
      stopped-within (suc r) (count - suc r) count e within

-- ---- the text of a report

-- of the book's own file
pub report-text : (book : Contents) (spec : SpecFile) (table : List Told) (numbers : List ℕ) (values : List Told) (P : List ℕ → Type 0) → ranks book.file.run ≤ MAX_REPORTED
    → AreValues book.facts (leads_in book.file.run) (ranks book.file.run) values → book.file ≡ spec → values_of table numbers ≡ values
    → P (values_text spec (values_of table numbers) (length numbers)) → (text : List ℕ) × IsReportText book text × P text
report-text book spec table numbers values P few are same told h =
    let count : length numbers ≡ ranks book.file.run = sym (value-counted table numbers) ∙ ap length told ∙ are.count_is in (
      values_text book.file values (ranks book.file.run),
      record { few = few; values = values; are = are; text_is = refl },
      subst (λ f. P (values_text f values (ranks book.file.run))) (sym same)
          (subst (λ v. P (values_text spec v (ranks book.file.run))) told
          (subst (λ n. P (values_text spec (values_of table numbers) n)) count h)),
    )
