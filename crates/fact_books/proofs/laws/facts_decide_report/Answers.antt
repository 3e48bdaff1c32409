use Rattle.fact_books.proofs.OneReport.{one-report, one-pass}
use Rattle.fact_books.proofs.laws.facts_decide_report.Goals as goal

pub returns : goal.returns
returns c = record { one = one-report; by_one_pass = one-pass }
