use Rattle.spec_schedules.specs.Points.{start_point}
use Rattle.spec_schedules.proofs.Few.{point-few}
use Rattle.spec_schedules.proofs.laws.orders_are_few.Goals as goal

pub returns : goal.returns
returns c = λ kind run start few. point-few (start_point kind run start) few
