use Rattle.std.proofs.Common.{List, ℕ, ◌++◌, codes}
use Rattle.transcripts.proofs.Writing.{prints-after, prints-stopped, stopped-append, stopped-after}
use Rattle.transcripts.specs.Lines.{number_line}
use Rattle.spec_commands.proofs.counting.write_counts.Goals as goal

abbrev sessions : ℕ → List ℕ
sessions n = codes "sessions " ++ number_line n

abbrev steps : ℕ → List ℕ
steps n = codes "steps " ++ number_line n

abbrev ranks : ℕ → List ℕ
ranks n = codes "ranks " ++ number_line n

-- the first line is not written
pub returns-in_err-write_count : goal.returns-in_err-write_count
returns-in_err-write_count g c =
    let n = c.args.counts in
    prints-stopped g.W.Write.contents c.args.out.now c.write_count.new.out c.from_residual.result (sessions n.sessions ++ (steps n.steps ++ ranks n.ranks))
    (stopped-append g.W.Write.contents c.args.out.now c.write_count.new.out (sessions n.sessions) (steps n.steps ++ ranks n.ranks) c.in_err-write_count.ensures)
    c.from_residual.ensures.0

-- the second one is not
pub returns-in_err-write_count-2 : goal.returns-in_err-write_count-2
returns-in_err-write_count-2 g c =
    let n = c.args.counts in
    let contents = g.W.Write.contents in
    prints-stopped contents c.args.out.now c.write_count-2.new.out c.from_residual-in_err-write_count-2.result
    (sessions n.sessions ++ (steps n.steps ++ ranks n.ranks))
    (stopped-after contents c.args.out.now c.write_count.new.out c.write_count-2.new.out (sessions n.sessions) (steps n.steps ++ ranks n.ranks)
    c.in_ok-write_count.ensures
    (stopped-append contents c.write_count.new.out c.write_count-2.new.out (steps n.steps) (ranks n.ranks) c.in_err-write_count-2.ensures))
    c.from_residual-in_err-write_count-2.ensures.0

-- both are, and then the third one or a front of it
pub returns : goal.returns
returns g c =
    let n = c.args.counts in
    let contents = g.W.Write.contents in
    prints-after contents c.args.out.now c.write_count.new.out c.write_count-3.new.out c.write_count-3.result (sessions n.sessions)
    (steps n.steps ++ ranks n.ranks)
    c.in_ok-write_count.ensures
    (prints-after contents c.write_count.new.out c.write_count-2.new.out c.write_count-3.new.out c.write_count-3.result (steps n.steps) (ranks n.ranks)
    c.in_ok-write_count-2.ensures c.write_count-3.ensures)
