use Rattle.spec_schedules.proofs.Finals.{finals-counted}
use Rattle.spec_schedules.proofs.laws.orders_are_words.Goals as goal

pub returns : goal.returns
returns c = λ kind run start seen finals few is. finals-counted kind run start few seen finals is
