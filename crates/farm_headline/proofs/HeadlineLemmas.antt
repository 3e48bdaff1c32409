-- A job and plans of a spec: their facts, and what is told of them.
use Rattle.std.proofs.Common.{◌≡◌, ◌↔◌, ◌⊎◌, inl, inr, ⊎_elim, sym, ap, subst, ◌∙◌, ℕ, ◌+◌, ◌<◌, true, List, ◌∷◌}
use Rattle.std.proofs.Common.{length, Option, Result, Ok, Err, IsErrAnd, arith}
use Rattle.std.proofs.lemmas.Bool.{or_cases, or_left, or_right}
use Rattle.std.specs.FinSet.{union}
use mathlib.Core.Option.{some, some-injective}
use lib.ListN.{get_elem?}
use Rattle.bound_specs.specs.Spec.{Spec, SpecFile, ranks}
use Rattle.bound_specs.specs.Binding.{IsFileOf}
use Rattle.bound_specs.proofs.FileLemmas.{file-always, file-is-bound}
use Rattle.rank_facts.specs.Swap.{leads_in}
use Rattle.rank_facts.specs.Values.{AllTrue}
use Rattle.rank_facts.specs.declared.fact.Fact.{Fact}
use Rattle.step_reducer.specs.Walking.{Starts}
use Rattle.transcripts.specs.declared.counted.Counted.{Counted}
use Rattle.fact_books.specs.declared.error.ReportError.{ReportError}
use Rattle.fact_books.specs.declared.error.ReportError.TheVariants.{TooMany, Missing, Clash, NoMemory}
use Rattle.fact_books.specs.Entries.{FactSet, recorded}
use Rattle.fact_books.specs.Books.{Contents, joined, AllRecordable}
use Rattle.fact_books.specs.Values.{IsMissing, IsNotReported}
use Rattle.fact_books.proofs.SetLemmas.{in_union}
use Rattle.book_jobs.specs.declared.job.Job.{Job}
use Rattle.book_jobs.specs.JobTrees.{leaves}
use Rattle.book_jobs.specs.Jobs.{InLeaves, AreJobFacts, IsJobOf}
use Rattle.shard_board.specs.Changes.{IsPlanOf}
use Rattle.shard_farm.specs.Farming.{InShards, AreShardFacts}
use Rattle.shard_farm.proofs.CrewLemmas.{inside}
use Rattle.book_commands.specs.declared.reporting.ReportFault.{ReportFault}
use Rattle.book_commands.specs.declared.reporting.ReportFault.TheVariants.{Report, Write}
use Rattle.book_commands.specs.Reporting.{IsReportText, IsReported}
use Rattle.farm_headline.specs.declared.headline.Plan.{Plan}
use Rattle.farm_headline.specs.declared.headline.HeadlineFault.{HeadlineFault}
use Rattle.farm_headline.specs.declared.headline.HeadlineFault.TheVariants as fault_of
use Rattle.farm_headline.specs.Laws.{AreAnswers}
use Rattle.farm_headline.specs.Runs.{IsRun, ArePlansOf, IsNotRun, of_job, farms_of}
use Rattle.farm_headline.specs.Headline.{WasRun, HoldsTheRuns, IsReportOfRuns, MayRefuse, AreRunsReported}
use Rattle.farm_headline.specs.Gathering.{AreRun, HaveFactBelow, HoldsTheFirst, IsNextRun, IsJoinedWith}
use Rattle.farm_headline.proofs.RunLemmas.{has-fact, job-fact}
use Rattle.farm_headline.proofs.JoinLemmas.{runs-hold, runs-are-true}
use Rattle.farm_headline.proofs.SerialOutcomes.{lines-serial}
use Rattle.farm_headline.proofs.TrueReports.{report-answers, none-clash, told-none-missing}

-- a rank of a job and plans has a fact
run-fact : (spec : Spec) (job : Job) (plans : List Plan) (r : ℕ) → Starts spec → r < ranks spec → IsRun job plans r
    → (fact : Fact) × WasRun spec job plans r fact
run-fact spec job plans r s lt (inl h) = let f = job-fact spec job r s lt h in (f.0, inl f.1)
run-fact spec job plans r s lt (inr (k, (plan, (is, (n, (shard, (at, has))))))) =
    let f = has-fact plan.reduce spec r s lt in (f.0, inr (k, (plan, (is, (n, (shard, (at, (has.0, has.1, f.1))))))))

-- ---- one plan after another

-- the job alone
pub job-first : (file : SpecFile) (job : Job) (plans : List Plan) (book : Contents) → IsJobOf file.run job → Starts file.run → book.file ≡ file
    → AreJobFacts file.run job book.facts → HoldsTheFirst file job plans 0 book
job-first file job plans book lawful starts same all = record {
  job_lawful = lawful;
  plans_lawful = λ k plan lt at. absurd (omega (arith, lt));
  started = starts;
  file_is = same;
  facts = λ r fact.
      (λ e. inl ((all r fact).0 e), λ x. ⊎_elim (λ l. (all r fact).1 l) (λ p. let lt = p.1.1.0 in absurd (omega (arith, lt))) x);
}

module _ (file : SpecFile) (job : Job) (plans : List Plan) (n : ℕ) (plan : Plan) (here : get_elem? plans n ≡ some plan) where
  -- a plan up to here is this one, or one before
  same-plan : (k : ℕ) (other : Plan) → get_elem? plans k ≡ some other → k ≡ n → plan ≡ other
  same-plan k other at e = some-injective _ _ (sym here ∙ ap (get_elem? plans) (sym e) ∙ at)

  upto : (k : ℕ) → k < n + 1 → (k ≡ n) ⊎ (k < n)
  upto k lt = grind arith

  lawful-more : ArePlansOf file.run plans n → IsPlanOf file.run plan.shards.items plan.workers → ArePlansOf file.run plans (n + 1)
  lawful-more before one k other lt at =
      ⊎_elim (λ e. subst (λ (p : Plan). IsPlanOf file.run p.shards.items p.workers) (same-plan k other at e) one) (λ less. before k other less at) (upto k lt)

  facts-more : (r : ℕ) (fact : Fact) (a b : FactSet)
      → (recorded a r fact ≡ true) ↔ (InLeaves file.run (leaves job) r fact ⊎ HaveFactBelow file.run plans n r fact)
      → (recorded b r fact ≡ true) ↔ InShards plan.reduce file.run plan.shards.items r fact
      → (recorded (union a b) r fact ≡ true) ↔ (InLeaves file.run (leaves job) r fact ⊎ HaveFactBelow file.run plans (n + 1) r fact)
  facts-more r fact a b x y = (there, back)
    where
      there : recorded (union a b) r fact ≡ true → InLeaves file.run (leaves job) r fact ⊎ HaveFactBelow file.run plans (n + 1) r fact
      there e =
          ⊎_elim (λ h. ⊎_elim (λ l. inl l) (λ p. let lt = p.1.1.0 in inr (p.0, (p.1.0, (omega (arith, lt), p.1.1.1)))) (x.0 h))
          (λ h. inr (n, (plan, (omega arith, (here, y.0 h)))))
          (or_cases (recorded a r fact) (recorded b r fact) (sym (in_union a b (r, fact)) ∙ e))

      from-plan : HaveFactBelow file.run plans (n + 1) r fact → recorded (union a b) r fact ≡ true
      from-plan p =
          ⊎_elim (λ e. in_union a b (r, fact) ∙ or_right (recorded a r fact) (recorded b r fact)
          (y.1 (subst (λ (q : Plan). InShards q.reduce file.run q.shards.items r fact) (sym (same-plan p.0 p.1.0 p.1.1.1.0 e)) p.1.1.1.1)))
          (λ less. in_union a b (r, fact) ∙ or_left (recorded a r fact) (recorded b r fact) (x.1 (inr (p.0, (p.1.0, (less, p.1.1.1))))))
          (upto p.0 p.1.1.0)

      back : InLeaves file.run (leaves job) r fact ⊎ HaveFactBelow file.run plans (n + 1) r fact → recorded (union a b) r fact ≡ true
      back h = ⊎_elim (λ l. in_union a b (r, fact) ∙ or_left (recorded a r fact) (recorded b r fact) (x.1 (inl l))) from-plan h

  -- one plan more
  pub plan-more : (book all : Contents) → HoldsTheFirst file job plans n book → IsNextRun file plan n book (Ok all) → HoldsTheFirst file job plans (n + 1) all
  plan-more book all h m =
      let same : all ≡ joined book m.0 = m.4 in
      subst (HoldsTheFirst file job plans (n + 1)) (sym same) (record {
        job_lawful = h.job_lawful;
        plans_lawful = lawful-more h.plans_lawful m.1;
        started = h.started;
        file_is = h.file_is;
        facts = λ r fact. facts-more r fact book.facts m.0.facts (h.facts r fact) (m.2 r fact);
      })

-- what is joined to a book
pub next-joined : (file : SpecFile) (plan : Plan) (place : ℕ) (book next : Contents) (result : Result Contents HeadlineFault)
    → IsPlanOf file.run plan.shards.items plan.workers → AreShardFacts plan.reduce file.run plan.shards.items next.facts → IsJoinedWith book next result
    → IsNextRun file plan place book result
next-joined file plan place book next (Ok all) of facts h = (next, of, facts, h.0, h.1)
next-joined file plan place book next (Err fault) of facts h = subst (λ f. IsNextRun file plan place book (Err f)) (sym h) tt

module _ (file : SpecFile) (job : Job) (plans : List Plan) (place : ℕ) (plan : Plan) (here : get_elem? plans place ≡ some plan) (book : Contents)
    (h : HoldsTheFirst file job plans place book) where
  plan-refused : (fault : HeadlineFault) → IsNextRun file plan place book (Err fault) → IsNotRun file job plans fault
  plan-refused (fault_of.Plan at error) n =
      subst (λ k. IsNotRun file job plans (fault_of.Plan k error)) (sym n.0) (h.job_lawful, h.started, h.plans_lawful, (plan, (here, n.1)))
  plan-refused fault_of.NoMemory n = tt
  plan-refused (fault_of.Spec fault) n = absurd n
  plan-refused (fault_of.Job error) n = absurd n
  plan-refused (fault_of.Report fault) n = absurd n

  -- none more
  pub refused-by : (fault : HeadlineFault) (result : Result Contents HeadlineFault) → IsNextRun file plan place book (Err fault)
      → IsErrAnd result (λ f. f ≡ fault) → AreRun file job plans result
  refused-by fault (Ok all) n e = absurd e
  refused-by fault (Err f) n e = subst (IsNotRun file job plans) (sym e) (plan-refused fault n)

-- all plans
pub plans-all : (file : SpecFile) (job : Job) (plans : List Plan) (n : ℕ) (book : Contents) → n ≡ length plans → HoldsTheFirst file job plans n book
    → HoldsTheRuns file job plans book
plans-all file job plans n book e h = record {
  job_lawful = h.job_lawful;
  plans_lawful = subst (ArePlansOf file.run plans) e h.plans_lawful;
  started = h.started;
  file_is = h.file_is;
  facts = λ r fact. (λ t. there r fact ((h.facts r fact).0 t), λ t. (h.facts r fact).1 (back r fact t));
}
  where
    there : (r : ℕ) (fact : Fact) → InLeaves file.run (leaves job) r fact ⊎ HaveFactBelow file.run plans n r fact → WasRun file.run job plans r fact
    there r fact (inl l) = inl l
    there r fact (inr p) = inr (p.0, (p.1.0, p.1.1.1))

    back : (r : ℕ) (fact : Fact) → WasRun file.run job plans r fact → InLeaves file.run (leaves job) r fact ⊎ HaveFactBelow file.run plans n r fact
    back r fact (inl l) = inl l
    back r fact (inr p) = let lt = inside plans p.0 p.1.0 p.1.1.0 in inr (p.0, (p.1.0, (omega (arith, e, lt), p.1.1)))

-- ---- the report

module _ (bytes : List ℕ) (file : SpecFile) (is : IsFileOf bytes file) (job : Job) (plans : List Plan) (book : Contents)
    (own : IsFileOf book.file.text book.file) (lawful : AllRecordable book.file.run book.facts) (h : HoldsTheRuns file job plans book) where
  true-there : AllTrue book.file.run (recorded book.facts)
  true-there = runs-are-true file (of_job job ∷ farms_of plans) book (runs-hold file job plans book h)

  pub runs-reported : (text : List ℕ) → IsReportText book text → IsReportOfRuns file job plans text
  runs-reported text t = record {
    book = book;
    holds = h;
    reports = t;
    answers = subst (λ (f : SpecFile). AreAnswers f (ranks f.run) text) h.file_is (report-answers book own true-there text t);
    serial = lines-serial file.run (file-is-bound bytes file is) (file-always bytes file is);
  }

  -- a rank that was run is not told as missing
  run-told : (r : ℕ) → IsMissing book.facts (leads_in book.file.run) (ranks book.file.run) r → IsRun job plans r → ⊥
  run-told r m run =
      let inside : r < ranks file.run = subst (λ (s : SpecFile). r < ranks s.run) h.file_is m.inside in
      let f = run-fact file.run job plans r h.started inside run in
      told-none-missing book lawful r m f.0 ((h.facts r f.0).1 f.1)

  pub runs-refused : (error : ReportError) → IsNotReported book error → MayRefuse (IsRun job plans) error
  runs-refused TooMany n = tt
  runs-refused (Missing r) n = run-told r n.1
  runs-refused (Clash r) n = none-clash book own true-there r n
  runs-refused NoMemory n = tt

  -- a report that is not written
  pub report-refused : {W : Type 0} (contents : W → Option (List ℕ)) (old new : Counted W) (fault : ReportFault) → IsReported contents old new book (Err fault)
      → AreRunsReported contents old new bytes job plans (Err (fault_of.Report fault))
  report-refused contents old new (Report error) r = (r.0, (file, is, (book, h, r.1, runs-refused error r.1)))
  report-refused contents old new (Write fault) r = (file, is, (r.0, runs-reported r.0 r.1, r.2))
