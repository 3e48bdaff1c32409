use Rattle.farm_headline.proofs.RangeLemmas.{ranges-true, joins-true}
use Rattle.farm_headline.proofs.TrueReports.{reports-are, covering}
use Rattle.farm_headline.proofs.SerialOutcomes.{outcomes-serial}
use Rattle.farm_headline.proofs.laws.reports_are_the_machines.Goals as goal

pub returns : goal.returns
returns c = record { ranges = ranges-true; joins = joins-true; reports = reports-are; covering = covering; serial = outcomes-serial }
