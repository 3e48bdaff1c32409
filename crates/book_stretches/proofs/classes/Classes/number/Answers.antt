use Rattle.std.proofs.lemmas.Result.{IfOk-weaker}
use Rattle.book_stretches.specs.Classes.{HasNumber}
use Rattle.book_stretches.proofs.Numbered.{number-known, number-new}
use Rattle.book_stretches.proofs.classes.Classes.number.Goals as goal

pub returns-in-Some-clause-ok : goal.returns-in-Some-clause-ok
returns-in-Some-clause-ok c = number-known c.args.self.now c.args.outcome.now c.in-Some.number c.in-Some.ensures.number c.find.ensures.few

pub returns-clause-ok : goal.returns-clause-ok
returns-clause-ok c =
    IfOk-weaker c.add.result _ (HasNumber c.args.self.now c.add.new.self c.args.outcome.now)
    (λ n h. number-new c.args.self.now c.add.new.self c.args.outcome.now n h) c.add.ensures.ok
