use Rattle.std.proofs.Common.{subst}
use Rattle.std.specs.Prelude.{IfOk}
use Rattle.class_looks.specs.Seeing.{SeesLines}
use Rattle.class_looks.proofs.SeeingLemmas.{lines-told}
use Rattle.class_looks.proofs.look.Look.seen.Goals as goal

pub returns-clause-lines : goal.returns-clause-lines
returns-clause-lines c =
    subst (λ st. IfOk c.seen_by.result (λ v. SeesLines st c.args.left.now v.items)) c.self.view_is
    (lines-told (λ v. v.items) c.self.inside.statement c.args.left.now c.seen_by.result c.seen_by.ensures)
