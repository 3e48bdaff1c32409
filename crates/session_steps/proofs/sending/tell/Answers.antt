use Rattle.std.proofs.Common.{◌≡◌}
use Rattle.session_steps.specs.Going.{told}
use Rattle.session_steps.specs.Stage.{HasTold, others, standing_at}
use Rattle.session_steps.proofs.Acted.{told-there}
use Rattle.session_steps.proofs.Answered.{on_both}
use Rattle.session_steps.proofs.sending.tell.Goals as goal

pub returns-clause-told : goal.returns-clause-told
returns-clause-told g c =
    let i = c.args.session in
    let x = g.S.Stage.staged c.args.stage.now in
    let y = g.S.Stage.staged c.tell.new.self in
    on_both c.tell.result (standing_at i y ≡ told (standing_at i x) c.args.event) (others i y ≡ others i x) (HasTold i c.args.event x y)
    c.tell.ensures.told c.tell.ensures.others (told-there i c.args.event x y c.requires)
