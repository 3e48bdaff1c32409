use Rattle.std.proofs.Common.{rules}
use Rattle.bound_specs.proofs.FileLemmas.{file-none}
use Rattle.farm_headline.proofs.HeadlineLemmas.{runs-reported, report-refused}
use Rattle.farm_headline.proofs.headline.report_of_runs.Goals as goal

-- the spec is bound without levels
pub book_of_runs-requires : goal.book_of_runs-requires
book_of_runs-requires g c = (search rules, (search rules, file-none c.args.bytes.now c.in-Ok.spec c.in-Ok.ensures.file))

-- the report is written
pub returns-in-Ok-write_report-clause-reported : goal.returns-in-Ok-write_report-clause-reported
returns-in-Ok-write_report-clause-reported g c =
    let told = c.in-Ok-write_report.ensures in (
      c.in-Ok.spec,
      c.in-Ok.ensures.file,
      (
        told.0,
        runs-reported c.args.bytes.now c.in-Ok.spec c.in-Ok.ensures.file c.args.job.now c.args.plans.now c.in-Ok-book_of_runs.book c.known.ensures.file
            c.known.ensures.facts
            c.in-Ok-book_of_runs.ensures told.0 told.1,
        told.2,
      ),
    )

-- it is not
pub returns-clause-reported : goal.returns-clause-reported
returns-clause-reported g c =
    report-refused c.args.bytes.now c.in-Ok.spec c.in-Ok.ensures.file c.args.job.now c.args.plans.now c.in-Ok-book_of_runs.book c.known.ensures.file
    c.known.ensures.facts
    c.in-Ok-book_of_runs.ensures g.W.Write.contents c.args.out.now c.write_report.new.out c.in-Err-write_report.fault c.in-Err-write_report.ensures
