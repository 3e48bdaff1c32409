use Rattle.spec_schedules.proofs.Finals.{order-rank}
use Rattle.spec_schedules.proofs.laws.each_order_has_a_rank.Goals as goal

pub returns : goal.returns
returns c = λ kind run start ks few h. order-rank kind run start few ks h
