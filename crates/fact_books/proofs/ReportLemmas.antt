-- The report of a book.
use Rattle.std.proofs.Common.{◌≡◌, ◌≢◌, refl, sym, ap, subst, ◌∙◌, ℕ, zero, suc, ◌<◌, ◌≤◌, List, [], ◌∷◌, length, get_or, Option, Some, None, Result, Ok, Err}
use Rattle.std.proofs.Common.{slice_get, ◌⊎◌, ⊎_elim, arith}
use Rattle.std.specs.Result.{IfOk, IfErr}
use Rattle.bound_specs.specs.Spec.{Spec, ranks, queues_of, IsBound}
use Rattle.rank_facts.specs.Swap.{leads_by, leads_in}
use Rattle.rank_facts.specs.Values.{AllTrue, TellTheMachine}
use Rattle.rank_facts.proofs.TrueValues.{tell-the-machine}
use Rattle.fact_books.specs.declared.about.About.{About}
use Rattle.fact_books.specs.declared.error.ReportError.{ReportError}
use Rattle.fact_books.specs.declared.error.ReportError.TheVariants.{TooMany, Missing, Clash, NoMemory}
use Rattle.fact_books.specs.declared.error.TheConstants.{MAX_REPORTED}
use Rattle.fact_books.specs.declared.run.Run.{Run}
use Rattle.fact_books.specs.About.{IsShapeOf}
use Rattle.fact_books.specs.Entries.{Told, recorded}
use Rattle.fact_books.specs.Runs.{Table, first_gap}
use Rattle.fact_books.specs.Books.{contents_of, HasFact, facts_in, file_of, IsBook}
use Rattle.fact_books.specs.Values.{AreValues, IsMissing, IsNotReported, IsCovering}
use Rattle.fact_books.specs.Sweep.{leads_of, IsStop, values_of}
use Rattle.fact_books.proofs.GapLemmas.{has-below, none-at}
use Rattle.fact_books.proofs.Recordable.{whichever}
use Rattle.bound_specs.proofs.FileLemmas.{file-is-bound}

-- a shape leads where its spec does
pub same-leads : (run : Spec) (shape : Option (List ℕ)) → IsShapeOf run shape → (r k : ℕ) → leads_of shape r k ≡ leads_in run r k
same-leads run None h r k = on run.lines h
  where
    on : (lines : List (List ℕ)) → lines ≢ [] → leads_of None r k ≡ leads_by lines (queues_of run) r k
    on [] h = absurd (h refl)
    on (l ∷ ls) h = refl
same-leads run (Some counts) h r k =
    subst (λ lines. leads_of (Some counts) r k ≡ leads_by lines (queues_of run) r k) (sym h.0)
    (subst (λ c. leads_of (Some counts) r k ≡ leads_of (Some c) r k) h.1 refl)

module _ (about : About) (t : Table) (runs : List Run) (is : IsBook about t runs) where
  leads-are : leads_of about.shape ≡ leads_in (file_of about).run
  leads-are = λ i r k. same-leads (file_of about).run about.shape is.about_is.shape_is r k i

  pub values-told : (values : List Told) → AreValues (facts_in t runs) (leads_of about.shape) about.ranks values
      → AreValues (facts_in t runs) (leads_in (file_of about).run) (ranks (file_of about).run) values
  values-told values h =
      subst (λ l. AreValues (facts_in t runs) l (ranks (file_of about).run) values) leads-are
      (subst (λ n. AreValues (facts_in t runs) (leads_of about.shape) n values) is.about_is.ranks_are h)

  pub stop-told : (e : ReportError) → about.ranks ≤ MAX_REPORTED → IsStop (facts_in t runs) (leads_of about.shape) about.ranks e
      → IsNotReported (contents_of about t runs) e
  stop-told e few h = by e
      (subst (λ l. IsStop (facts_in t runs) l (ranks (file_of about).run) e) leads-are
      (subst (λ n. IsStop (facts_in t runs) (leads_of about.shape) n e) is.about_is.ranks_are h))
    where
      fits : ranks (file_of about).run ≤ MAX_REPORTED
      fits = let count = is.about_is.ranks_are in omega (arith, count, few)

      by : (e : ReportError) → IsStop (facts_in t runs) (leads_in (file_of about).run) (ranks (file_of about).run) e
          → IsNotReported (contents_of about t runs) e
      by TooMany g = absurd g
      by (Missing r) g = (fits, g)
      by (Clash r) g = (fits, g)
      by NoMemory g = fits

  module _ (bound : IsBound (file_of about).run) (all : AllTrue (file_of about).run (recorded (facts_in t runs))) where
    tells : TellTheMachine (file_of about).run (recorded (facts_in t runs))
    tells = tell-the-machine (file_of about).run bound (recorded (facts_in t runs)) all

    pub covering-values : (values : List Told) → AreValues (facts_in t runs) (leads_in (file_of about).run) (ranks (file_of about).run) values
        → IsCovering (contents_of about t runs) (Ok values)
    covering-values values h r lt = tells.never_another r (get_or values r []) (h.each r lt).value

    -- the gap between the runs is a rank of the spec, else every rank had a value
    covering-missing : (r : ℕ) → IsMissing (facts_in t runs) (leads_in (file_of about).run) (ranks (file_of about).run) r
        → (m : ℕ) × (m < ranks (file_of about).run) × (HasFact (facts_in t runs) m → ⊥)
    covering-missing r h = ⊎_elim
        (λ lt. (first_gap 0 runs, lt, none-at t runs is.kept.rising))
        (λ le. absurd (let v = tells.each_has_one (λ m lt. has-below t runs is.kept.rising m (omega (arith, le, lt))) r h.inside in h.none v.0 v.1))
        cases
      where
        cases : (first_gap 0 runs < ranks (file_of about).run) ⊎ (ranks (file_of about).run ≤ first_gap 0 runs)
        cases = grind arith

    some-same : (a b : Told) → Some a ≡ Some b → a ≡ b
    some-same a b e = cc

    pub covering-stop : (e : ReportError) → IsNotReported (contents_of about t runs) e → IsCovering (contents_of about t runs) (Err e)
    covering-stop TooMany h = tt
    covering-stop (Missing r) h = covering-missing r h.1
    covering-stop (Clash r) h =
        let two = h.1.two in
        two.4 (some-same two.0 two.1 (sym (tells.never_another r two.0 two.2) ∙ tells.never_another r two.1 two.3))
    covering-stop NoMemory h = tt

-- ---- what is answered

module _ (about : About) (t : Table) (runs : List Run) (is : IsBook about t runs) (given : Table) (told : List Run) (shape : Option (List ℕ)) (count : ℕ)
    (same : given ≡ t) (runs_same : told ≡ runs) (shape_same : shape ≡ about.shape) (count_same : count ≡ about.ranks)
    (result : Result (List Told) ReportError) where
  pub values-answered : IfOk result (AreValues (facts_in given told) (leads_of shape) count)
      → IfOk result (AreValues (facts_in t runs) (leads_in (file_of about).run) (ranks (file_of about).run))
  values-answered h = by result
      (subst (λ (T : Type 0). T) (λ i. IfOk result (AreValues (facts_in (same i) (runs_same i)) (leads_of (shape_same i)) (count_same i))) h)
    where
      by : (r : Result (List Told) ReportError) → IfOk r (AreValues (facts_in t runs) (leads_of about.shape) about.ranks)
          → IfOk r (AreValues (facts_in t runs) (leads_in (file_of about).run) (ranks (file_of about).run))
      by (Ok values) h = values-told about t runs is values h
      by (Err e) h = h

  pub stop-answered : about.ranks ≤ MAX_REPORTED → IfErr result (IsStop (facts_in given told) (leads_of shape) count)
      → IfErr result (IsNotReported (contents_of about t runs))
  stop-answered few h =
      by result (subst (λ (T : Type 0). T) (λ i. IfErr result (IsStop (facts_in (same i) (runs_same i)) (leads_of (shape_same i)) (count_same i))) h)
    where
      by : (r : Result (List Told) ReportError) → IfErr r (IsStop (facts_in t runs) (leads_of about.shape) about.ranks)
          → IfErr r (IsNotReported (contents_of about t runs))
      by (Ok values) h = h
      by (Err e) h = stop-told about t runs is e few h

pub covering-answered : (about : About) (t : Table) (runs : List Run) (is : IsBook about t runs) (result : Result (List Told) ReportError)
    → IfOk result (AreValues (facts_in t runs) (leads_in (file_of about).run) (ranks (file_of about).run))
    → IfErr result (IsNotReported (contents_of about t runs))
    → AllTrue (file_of about).run (recorded (facts_in t runs)) → IsCovering (contents_of about t runs) result
covering-answered about t runs is (Ok values) h k all = covering-values about t runs is (file-is-bound _ _ is.about_is.is_file) all values h
covering-answered about t runs is (Err e) h k all = covering-stop about t runs is (file-is-bound _ _ is.about_is.is_file) all e k

-- ---- reading a report
pub outcome-at : (t : Table) (done : List ℕ) (values : List Told) (rank n : ℕ) (o d : Told) → values_of t done ≡ values → rank < length done
    → n ≡ get_or done rank n → o ≡ get_or t n d → n < length t → Some o ≡ slice_get values rank
outcome-at t done values rank n o d is lt at got below = ap Some (got ∙ default t n below d) ∙ at-rank t done rank lt n at ∙ ap (λ l. slice_get l rank) is
  where
    default : (xs : List Told) (i : ℕ) → i < length xs → (c : Told) → get_or xs i c ≡ get_or xs i []
    default [] i h c = absurd (omega (arith, h))
    default (x ∷ xs) zero h c = refl
    default (x ∷ xs) (suc i) h c = default xs i (omega (arith, h)) c

    at-rank : (t : Table) (done : List ℕ) (rank : ℕ) → rank < length done → (n : ℕ) → n ≡ get_or done rank n
        → Some (get_or t n []) ≡ slice_get (values_of t done) rank
    at-rank t [] rank h n e = absurd (omega (arith, h))
    at-rank t (x ∷ xs) zero h n e = ap (λ m. Some (get_or t m [])) e
    at-rank t (x ∷ xs) (suc rank) h n e = at-rank t xs rank (omega (arith, h)) n e

pub default-at : (given numbers : List ℕ) (rank : ℕ) → given ≡ numbers → rank < length numbers → get_or given rank 0 ≡ get_or numbers rank (get_or given rank 0)
default-at given numbers rank is lt = ap (λ l. get_or l rank 0) is ∙ whichever numbers rank 0 (get_or given rank 0) lt
