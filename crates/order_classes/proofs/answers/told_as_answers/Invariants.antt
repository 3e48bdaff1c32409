use Rattle.std.proofs.Common.{◌≡◌, map, take}
use Rattle.order_classes.specs.Letters.{answers_in}
use Rattle.order_classes.proofs.answers.told_as_answers.Given as goal

abbrev pub invariant-loop-session : goal.invariant-loop-session
invariant-loop-session l = l.all.items ≡ map answers_in (take l.session-index l.sessions)
