use Rattle.std.proofs.Common.{◌≡◌, ◌≤◌, ◌++◌, ◌∷◌, [], arith, length, subst}
use Rattle.marked_lists.specs.Versions.{Versions}
use Rattle.marked_rows.specs.declared.cell.Cell.{Cell}
use Rattle.marked_rows.proofs.KeptLemmas.{blank-push}
use Rattle.marked_rows.proofs.cells.reach.Goals as goal

pub loop-cells-preserved : goal.loop-cells-preserved
loop-cells-preserved c =
    let now : Versions Cell = c.loop-cells.cells in
    let room : length now.list ≤ c.args.number = omega (arith, c.loop-cells-test.true, c.len.ensures) in
    blank-push c.args.number c.args.cells.now now c.push.new.self c.loop-cells.invariant room
    (subst (λ x. c.push.new.self ≡ record now { list = now.list ++ x ∷ [] }) c.new.ensures c.in_ok-push.ensures.pushed)
