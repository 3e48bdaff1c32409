use Rattle.std.proofs.Common.{◌≤◌, ◌+◌, ◌-◌, arith}
use Rattle.bound_specs.specs.Spec.{ranks}
use Rattle.book_format.specs.declared.pieces.TheConstants.{MAX_FACTS}
use Rattle.book_format.proofs.FormsBack.{next-past}
use Rattle.book_format.proofs.reading.lists.is_next_run.Goals as goal

pub returns-then-is_led : goal.returns-then-is_led
returns-then-is_led c = λ h.
    let run = c.args.run.now in
    let some = c.if-run.false in
    let within = c.if-run-ranks.false in
    let all = c.ranks.ensures in
    let facts = c.requires.few in
    let count = c.if-run-facts.false in
    let few : c.args.facts + (run.end - run.first) ≤ MAX_FACTS = omega (arith, facts, count) in
    let below : run.end ≤ ranks c.args.spec.now.run = omega (arith, within, all) in
    next-past c.args.spec.now.run c.args.outcomes c.args.before.now c.args.facts run (c.is_past.ensures.0 h)
    (record { tag = c.is_tag_of.ensures c.if-not-is_tag_of.false; some = some; few = below; led = c.is_led.ensures.0 c.if-is_led.true }) few
