use Rattle.book_audit.specs.Pieces.{runs_in}
use Rattle.book_audit.proofs.PieceLemmas.{OnOk-then, adds-last, sound-last}
use Rattle.book_audit.proofs.pieces.Pieces.add.Goals as goal

pub returns-in-Swap-clause-says : goal.returns-in-Swap-clause-says
returns-in-Swap-clause-says c =
    OnOk-then c.put.result _ _ c.put.ensures (λ is. adds-last (runs_in c.args.self.now) (runs_in c.put.new.self) c.args.run is)

pub returns-in-Swap-clause-sound : goal.returns-in-Swap-clause-sound
returns-in-Swap-clause-sound c =
    OnOk-then c.put.result _ _ c.put.ensures (λ is. sound-last (runs_in c.args.self.now) (runs_in c.put.new.self) c.args.run is)
