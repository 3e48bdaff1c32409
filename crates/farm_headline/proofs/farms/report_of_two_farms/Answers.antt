use Rattle.farm_headline.proofs.FarmLemmas.{told-of-both, not-reported}
use Rattle.farm_headline.proofs.farms.report_of_two_farms.Goals as goal

-- the report is written: by the laws on what is run, and on reports of true facts
pub returns-in-Ok-write_report : goal.returns-in-Ok-write_report
returns-in-Ok-write_report g c =
    let told = c.in-Ok-write_report.ensures in
    let laws = c.reports_are_the_machines.ensures in (
      told.0,
      told-of-both c.args.spec.now c.args.first.now c.args.second.now c.in-Ok.book c.known.ensures.file c.in-Ok.ensures c.runs_are_true.ensures.truth
          laws.reports laws.serial told.0 told.1,
      told.2,
    )

-- it is not
pub returns : goal.returns
returns g c =
    let runs = c.runs_are_true.ensures in
    let laws = c.reports_are_the_machines.ensures in
    not-reported c.args.spec.now c.args.first.now c.args.second.now c.in-Ok.book c.known.ensures.file c.in-Ok.ensures runs.truth c.known.ensures.facts
    runs.missing laws.covering g.W.Write.contents c.args.out.now c.write_report.new.out c.in-Err-write_report.fault laws.reports laws.serial
    c.in-Err-write_report.ensures
