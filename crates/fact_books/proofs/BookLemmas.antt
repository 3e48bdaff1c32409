-- What a book keeps, when it is made and when two are joined.
use Rattle.std.proofs.Common.{◌≡◌, sym, ◌∙◌, subst, ⊎_elim, true, false, ℕ, ◌<◌, ◌≤◌, List, [], Some, None, arith}
use Rattle.std.proofs.lemmas.Bool.{or_cases}
use Rattle.std.proofs.Math.Logic.{∥∥₁_elim}
use Rattle.std.specs.Prelude.{string_bytes}
use Rattle.std.specs.Coded.{Coded-set}
use Rattle.std.specs.FinSet.{union}
use Rattle.bound_specs.specs.Spec.{Spec, SpecFile, ranks}
use Rattle.bound_specs.specs.Binding.{IsFileOf}
use Rattle.bound_specs.specs.contracts.spec.Spec as file_row
use Rattle.bound_specs.proofs.FileLemmas.{one-file}
use Rattle.fact_books.specs.declared.about.About.{About}
use Rattle.fact_books.specs.declared.run.Run.{Run}
use Rattle.fact_books.specs.About.{FileOf, IsShapeOf}
use Rattle.fact_books.specs.Entries.{FactSet}
use Rattle.fact_books.specs.Runs.{Table, first_gap}
use Rattle.fact_books.specs.Books.{AllRecordable, IsLeastMissing, facts_in, IsKept, file_of, IsAbout, IsAboutOf, IsBook}
use Rattle.fact_books.proofs.SetLemmas.{in_union, contains-runs}
use Rattle.fact_books.proofs.GapLemmas.{is-missing, none-missing}

-- the file that is known of a text is the file of the text
pub file-is : (text : List ℕ) (known : FileOf text) (file : SpecFile) → IsFileOf text file → known.0 ≡ file
file-is text known file is = ∥∥₁_elim known.1 (Coded-set file_row.the_row.coded _ _) (λ other. one-file text known.0 file other is)

pub about-is : (about : About) (file : SpecFile) → IsFileOf (string_bytes about.text) file → about.ranks ≡ ranks file.run → IsShapeOf file.run about.shape
    → IsAboutOf file about
about-is about file is count shape =
    let same : file ≡ file_of about = sym (file-is (string_bytes about.text) about.known file is) in
    record {
      file_is = sym same;
      is_about = record {
        is_file = subst (IsFileOf (string_bytes about.text)) same is;
        ranks_are = subst (λ (f : SpecFile). about.ranks ≡ ranks f.run) same count;
        shape_is = subst (λ (f : SpecFile). IsShapeOf f.run about.shape) same shape;
      };
    }

-- files of one text are one
pub of-one-text : (a b : SpecFile) (t u : List ℕ) → IsFileOf a.text a → IsFileOf b.text b → t ≡ a.text → u ≡ b.text → t ≡ u → a ≡ b
of-one-text a b t u is_a is_b of_a of_b same = one-file a.text a b is_a (subst (λ w. IsFileOf w b) (sym of_b ∙ sym same ∙ of_a) is_b)

-- the gap between the runs is the least rank that is missing
pub missing-is : (about : About) (t : Table) (runs : List Run) (gap : ℕ) → IsBook about t runs → gap ≡ first_gap 0 runs → gap < about.ranks
    → IsLeastMissing (facts_in t runs) (ranks (file_of about).run) (Some gap)
missing-is about t runs gap is e lt =
    let count = is.about_is.ranks_are in
    subst (λ (n : ℕ). IsLeastMissing (facts_in t runs) (ranks (file_of about).run) (Some n)) (sym e)
    (is-missing t runs (ranks (file_of about).run) is.kept.rising (omega (arith, e, count, lt)))

pub none-is-missing : (about : About) (t : Table) (runs : List Run) (gap : ℕ) → IsBook about t runs → gap ≡ first_gap 0 runs → about.ranks ≤ gap
    → IsLeastMissing (facts_in t runs) (ranks (file_of about).run) None
none-is-missing about t runs gap is e le =
    let count = is.about_is.ranks_are in
    none-missing t runs (ranks (file_of about).run) is.kept.rising (omega (arith, e, count, le))

-- nothing is said by no runs
pub none-recordable : (spec : Spec) (t : Table) → AllRecordable spec (facts_in t [])
none-recordable spec t r fact h = absurd (let f : false ≡ true = sym (contains-runs t [] (r, fact)) ∙ h in cc)

pub empty-book : (about : About) (t : Table) (runs : List Run) → IsAbout about → runs ≡ [] → IsBook about t runs
empty-book about t runs is none =
    subst (IsBook about t) (sym none) (record { about_is = is; kept = record { rising = tt; sound = tt }; recordable = none-recordable (file_of about).run t })

-- facts of both
pub union-recordable : (spec : Spec) (s t : FactSet) → AllRecordable spec s → AllRecordable spec t → AllRecordable spec (union s t)
union-recordable spec s t a b r fact h = ⊎_elim (a r fact) (b r fact) (or_cases _ _ (sym (in_union s t (r, fact)) ∙ h))

pub joined-book : (about a b : About) (ta tb t : Table) (ra rb runs : List Run) → about ≡ a → IsBook a ta ra → IsBook b tb rb → file_of a ≡ file_of b
    → IsKept t runs
    → facts_in t runs ≡ union (facts_in ta ra) (facts_in tb rb) → IsBook about t runs
joined-book about a b ta tb t ra rb runs is left right same kept facts = subst (λ x. IsBook x t runs) (sym is) (record {
  about_is = left.about_is;
  kept = kept;
  recordable = subst (AllRecordable (file_of a).run) (sym facts)
      (union-recordable (file_of a).run (facts_in ta ra) (facts_in tb rb) left.recordable
      (subst (λ (f : SpecFile). AllRecordable f.run (facts_in tb rb)) (sym same) right.recordable));
})
