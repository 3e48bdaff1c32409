use Rattle.spec_schedules.proofs.Few.{never-back}
use Rattle.spec_schedules.proofs.laws.no_order_leads_back.Goals as goal

pub returns : goal.returns
returns c = never-back
