use Rattle.std.specs.Prelude.{◌-◌, ◌++◌, codes, decimal}
use Rattle.transcripts.proofs.Writing.{prints-after, prints-stopped, stopped-after, stopped-append, wrote-append}
use Rattle.book_format.specs.Forms.{tag_number}
use Rattle.book_format.specs.Pieces.{tag_front}
use Rattle.book_format.proofs.printing.print_run.Goals as goal

-- the first rank
pub returns-in_err-print_number : goal.returns-in_err-print_number
returns-in_err-print_number g c =
    let run = c.args.run.now in
    let first = codes "[" ++ decimal run.first in
    let ranks = codes "," ++ decimal (run.end - run.first) in
    let tag = tag_front run.tag ++ decimal (tag_number run.tag) in
    prints-stopped _ _ _ _ _
    (stopped-append _ _ _ (first ++ ranks ++ tag) (codes "]") (stopped-append _ _ _ (first ++ ranks) tag
    (stopped-append _ _ _ first ranks c.in_err-print_number.ensures)))
    c.from_residual.ensures.0

-- how many ranks
pub returns-in_err-print_number-2 : goal.returns-in_err-print_number-2
returns-in_err-print_number-2 g c =
    let run = c.args.run.now in
    let first = codes "[" ++ decimal run.first in
    let ranks = codes "," ++ decimal c.ranks_in.result in
    let tag = tag_front run.tag ++ decimal (tag_number run.tag) in
    rw (← c.ranks_in.ensures)
    (prints-stopped _ _ _ _ _
    (stopped-append _ _ _ (first ++ ranks ++ tag) (codes "]")
    (stopped-append _ _ _ (first ++ ranks) tag (stopped-after _ _ _ _ first ranks c.in_ok-print_number.ensures c.in_err-print_number-2.ensures)))
    c.from_residual-in_err-print_number-2.ensures.0)

-- what is said of them
pub returns-in_err-print_number-3 : goal.returns-in_err-print_number-3
returns-in_err-print_number-3 g c =
    let run = c.args.run.now in
    let first = codes "[" ++ decimal run.first in
    let ranks = codes "," ++ decimal c.ranks_in.result in
    let tag = c.front.result.now ++ decimal c.number.result in
    rw (← c.ranks_in.ensures, ← c.front.ensures, ← c.number.ensures)
    (prints-stopped _ _ _ _ _
    (stopped-append _ _ _ (first ++ ranks ++ tag) (codes "]")
    (stopped-after _ _ _ _ (first ++ ranks) tag (wrote-append _ _ _ _ first ranks c.in_ok-print_number.ensures c.in_ok-print_number-2.ensures)
    c.in_err-print_number-3.ensures))
    c.from_residual-in_err-print_number-3.ensures.0)

-- the end
pub returns : goal.returns
returns g c =
    let run = c.args.run.now in
    let first = codes "[" ++ decimal run.first in
    let ranks = codes "," ++ decimal c.ranks_in.result in
    let tag = c.front.result.now ++ decimal c.number.result in
    rw (← c.ranks_in.ensures, ← c.front.ensures, ← c.number.ensures)
    (prints-after _ _ _ _ _ (first ++ ranks ++ tag) (codes "]")
    (wrote-append _ _ _ _ (first ++ ranks) tag (wrote-append _ _ _ _ first ranks c.in_ok-print_number.ensures c.in_ok-print_number-2.ensures)
    c.in_ok-print_number-3.ensures) c.write_str.ensures)
