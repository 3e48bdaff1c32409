-- Two farms whose books a caller joins: what the laws give, which are taken as premises here.
use Rattle.std.proofs.Common.{sym, subst, ℕ, List, [], ◌∷◌, Option, Result, Ok, Err}
use Rattle.bound_specs.specs.Spec.{SpecFile, ranks}
use Rattle.bound_specs.specs.Binding.{IsFileOf}
use Rattle.transcripts.specs.declared.counted.Counted.{Counted}
use Rattle.fact_books.specs.declared.error.ReportError.{ReportError}
use Rattle.fact_books.specs.declared.error.ReportError.TheVariants.{TooMany, Missing, Clash, NoMemory}
use Rattle.fact_books.specs.Books.{Contents, AllRecordable}
use Rattle.fact_books.specs.Values.{IsNotReported}
use Rattle.book_commands.specs.declared.reporting.ReportFault.{ReportFault}
use Rattle.book_commands.specs.declared.reporting.ReportFault.TheVariants.{Report, Write}
use Rattle.book_commands.specs.Reporting.{IsReportText, IsReported}
use Rattle.farm_headline.specs.declared.headline.Plan.{Plan}
use Rattle.farm_headline.specs.declared.headline.HeadlineFault.{HeadlineFault}
use Rattle.farm_headline.specs.declared.headline.HeadlineFault.TheVariants as fault_of
use Rattle.farm_headline.specs.Laws.{AreAnswers, AreSerial, ReportsAreTheMachines, CoveringReports, OutcomesAreSerial}
use Rattle.farm_headline.specs.Runs.{farms_of, IsRunByOne}
use Rattle.farm_headline.specs.Headline.{MayRefuse, HoldsAllRuns, RunsAreTrue, NoRunIsMissing}
use Rattle.farm_headline.specs.Joins.{FarmsHold, JoinsHold}
use Rattle.farm_headline.specs.Gathering.{IsFarmed, IsJoinedWith}
use Rattle.farm_headline.specs.TwoFarms.{HoldsBoth, IsReportOfBoth, IsOneRefused, AreFarmed, AreFarmsReported}

module _ (file : SpecFile) (a b : Plan) where
  pub both-joined : FarmsHold → JoinsHold → (one other : Contents) (result : Result Contents HeadlineFault) → IsFarmed file a 0 (Ok one)
      → IsFarmed file b 1 (Ok other) → IsJoinedWith one other result → AreFarmed file a b result
  both-joined farm join one other (Ok all) x y j =
      let of_a = farm file a.reduce a.shards.items one x.2 x.3 in
      let of_b = farm file b.reduce b.shards.items other y.2 y.3 in
      record {
        first_lawful = x.0;
        second_lawful = y.0;
        started = x.1;
        holds =
            subst (HoldsAllRuns file (farms_of (a ∷ b ∷ []))) (sym j.1) (join file (farms_of (a ∷ [])) (farms_of (b ∷ [])) one other of_a of_b);
      }
  both-joined farm join one other (Err fault) x y j = subst (IsOneRefused file a b) (sym j) tt

module _ (file : SpecFile) (a b : Plan) (book : Contents) (own : IsFileOf book.file.text book.file) (h : HoldsBoth file a b book) (all_true : RunsAreTrue) where
  pub told-of-both : ReportsAreTheMachines → OutcomesAreSerial → (text : List ℕ) → IsReportText book text → IsReportOfBoth file a b text
  told-of-both tell serial text t =
      let facts_true = all_true file (farms_of (a ∷ b ∷ [])) book h.holds in
      record {
        book = book;
        both = h;
        reports = t;
        answers = subst (λ (s : SpecFile). AreAnswers s (ranks s.run) text) h.holds.file_is (tell book text own facts_true t);
        serial = subst (λ (s : SpecFile). AreSerial s.run) h.holds.file_is (serial book.file own);
      }

  module _ (lawful : AllRecordable book.file.run book.facts) (missing : NoRunIsMissing) (covering : CoveringReports) where
    told-refused : (error : ReportError) → IsNotReported book error → MayRefuse (IsRunByOne (farms_of (a ∷ b ∷ []))) error
    told-refused TooMany n = tt
    told-refused (Missing r) n = missing file (farms_of (a ∷ b ∷ [])) book r h.holds h.started lawful n
    told-refused (Clash r) n = (covering book r own (all_true file (farms_of (a ∷ b ∷ [])) book h.holds)).0 n
    told-refused NoMemory n = tt

    pub not-reported : {W : Type 0} (contents : W → Option (List ℕ)) (old new : Counted W) (fault : ReportFault) → ReportsAreTheMachines → OutcomesAreSerial
        → IsReported contents old new book (Err fault) → AreFarmsReported contents old new file a b (Err (fault_of.Report fault))
    not-reported contents old new (Report error) tell serial r = (r.0, (book, h, r.1, told-refused error r.1))
    not-reported contents old new (Write fault) tell serial r = (r.0, told-of-both tell serial r.0 r.1, r.2)
