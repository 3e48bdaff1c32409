use Rattle.std.proofs.Common.{List, ℕ, ◌++◌, codes, decimal}
use Rattle.transcripts.proofs.Writing.{prints-after, prints-stopped, stopped-append, stopped-after}
use Rattle.transcripts.specs.Lines.{number_line}
use Rattle.book_commands.proofs.judging.write_difference.Goals as goal

abbrev front : ℕ → List ℕ
front index = decimal index ++ codes " differs at rank "

abbrev middle : ℕ → List ℕ
middle rank = decimal rank ++ codes " session "

-- the front is not written
pub returns-in_err-write_before : goal.returns-in_err-write_before
returns-in_err-write_before g c =
    let d = c.args.difference in
    prints-stopped g.W.Write.contents c.args.out.now c.write_before.new.out c.from_residual.result (front c.args.index ++ (middle d.0 ++ number_line d.1))
    (stopped-append g.W.Write.contents c.args.out.now c.write_before.new.out (front c.args.index) (middle d.0 ++ number_line d.1) c.in_err-write_before.ensures)
    c.from_residual.ensures.0

-- the middle is not
pub returns-in_err-write_before-2 : goal.returns-in_err-write_before-2
returns-in_err-write_before-2 g c =
    let d = c.args.difference in
    let contents = g.W.Write.contents in
    prints-stopped contents c.args.out.now c.write_before-2.new.out c.from_residual-in_err-write_before-2.result
    (front c.args.index ++ (middle d.0 ++ number_line d.1))
    (stopped-after contents c.args.out.now c.write_before.new.out c.write_before-2.new.out (front c.args.index) (middle d.0 ++ number_line d.1)
    c.in_ok-write_before.ensures
    (stopped-append contents c.write_before.new.out c.write_before-2.new.out (middle d.0) (number_line d.1) c.in_err-write_before-2.ensures))
    c.from_residual-in_err-write_before-2.ensures.0

-- both are, and then the session or a front of it
pub returns : goal.returns
returns g c =
    let d = c.args.difference in
    let contents = g.W.Write.contents in
    prints-after contents c.args.out.now c.write_before.new.out c.write_number.new.out c.write_number.result (front c.args.index)
    (middle d.0 ++ number_line d.1)
    c.in_ok-write_before.ensures
    (prints-after contents c.write_before.new.out c.write_before-2.new.out c.write_number.new.out c.write_number.result (middle d.0) (number_line d.1)
    c.in_ok-write_before-2.ensures c.write_number.ensures)
