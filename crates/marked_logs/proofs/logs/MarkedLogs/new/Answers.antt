use Rattle.std.proofs.Common.{◌≡◌, ◌∙◌, ap, arith, [], replicate}
use Rattle.marked_logs.specs.Logs.{Logs}
use Rattle.marked_logs.specs.Kept.{logs_of}
use Rattle.marked_logs.proofs.LogLemmas.{silent-logs}
use Rattle.marked_logs.proofs.logs.MarkedLogs.new.Goals as goal

pub returns : goal.returns
returns g c =
    let lists = c.new-tree.result in
    let n = c.loop-session._session in
    let end = c.loop-session.auto._session-end in
    let test = c.loop-session-test.false in
    let all : n ≡ c.args.count = omega (arith, end, test) in
    let now = silent-logs lists n c.root-nothing.result c.root-nothing.ensures.list ∙ ap (λ k. replicate k []) all in
    ap (logs_of lists) c.loop-session.invariant
    ∙ (λ i. let l : Logs g.row.E.Denot = record { lists = c.new-tree.ensures i; now = now i; marked = [] } in l)
