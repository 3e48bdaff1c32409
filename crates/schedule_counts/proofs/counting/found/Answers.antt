use Rattle.std.proofs.Common.{ap, subst, sym}
use Rattle.schedule_counts.specs.Searching.{Searched}
use Rattle.schedule_counts.specs.States.{AreStatesOf}
use Rattle.schedule_counts.proofs.counting.found.Goals as goal

pub returns : goal.returns
returns c =
    subst (λ ss. AreStatesOf c.args.search.tables c.args.search.seen ss c.args.finals.now c.in_ok-states.states.items) (ap (λ (v : Searched). v.shown) (sym c.search.view_is)) c.in_ok-states.ensures
