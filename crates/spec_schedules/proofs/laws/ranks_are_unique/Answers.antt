use Rattle.bound_specs.specs.Spec.{queues_of}
use Rattle.spec_schedules.proofs.Few.{one-rank}
use Rattle.spec_schedules.proofs.Unique.{same-order, orders-alone}
use Rattle.spec_schedules.proofs.laws.ranks_are_unique.Goals as goal

pub returns-clause-orders : goal.returns-clause-orders
returns-clause-orders c = λ kind run start ks ls rank h k r s. same-order run.steps kind (queues_of run) start ks ls rank h k r s

pub returns-clause-alone : goal.returns-clause-alone
returns-clause-alone c = orders-alone

pub returns-clause-ranks : goal.returns-clause-ranks
returns-clause-ranks c = one-rank
