use Rattle.std.proofs.Common.{sym, ap, ◌∙◌, ◌==◌, is_some}
use Rattle.lock_queues.specs.declared.wait.Wait.{Wait}
use Rattle.rank_facts.proofs.Lines.{is_some-map}
use Rattle.step_reducer.proofs.Quiets.{wait-whole, found-any}
use Rattle.step_reducer.proofs.pairs.waits.Goals as goal

pub returns : goal.returns
returns c =
    let r = c.args.world.now in
    c.is_some.ensures ∙ sym (is_some-map _ c.wait_of.result) ∙ ap is_some (c.wait_of.ensures ∙ wait-whole r c.args.session c.requires)
    ∙ found-any (λ (v : Wait). v.session == c.args.session) r.world r.world.waits
