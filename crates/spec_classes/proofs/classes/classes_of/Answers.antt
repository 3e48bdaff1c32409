use Rattle.std.proofs.Common.{Result, Ok, Err, IfOk}
use Rattle.spec_classes.proofs.LineTold.{no-lines-left}
use Rattle.spec_classes.proofs.classes.classes_of.Goals as goal

-- what is so of whatever came
if-ok : {A E : Type 0} (P : Type 0) → P → (r : Result A E) → IfOk r (λ a. P)
if-ok P p (Ok a) = p
if-ok P p (Err e) = tt

pub final_states-requires : goal.final_states-requires
final_states-requires g c = no-lines-left c.args.spec.now.run.lines c.has_lines.result c.if-has_lines.false c.has_lines.ensures

pub word_classes-requires-clause-words : goal.word_classes-requires-clause-words
word_classes-requires-clause-words g c = no-lines-left c.args.spec.now.run.lines c.has_lines.result c.if-has_lines.false c.has_lines.ensures

pub returns-then-has_lines-clause-starts : goal.returns-then-has_lines-clause-starts
returns-then-has_lines-clause-starts g c = if-ok _ (_, c.in-Ok.ensures.at.starts) c.match-line_classes.result

pub returns-in-Err-final_states-clause-many : goal.returns-in-Err-final_states-clause-many
returns-in-Err-final_states-clause-many g c noted is =
    (no-lines-left c.args.spec.now.run.lines c.has_lines.result c.if-has_lines.false c.has_lines.ensures, (_, c.in-Ok.ensures.at.starts))
