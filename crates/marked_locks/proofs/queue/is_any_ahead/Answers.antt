use Rattle.std.proofs.Common.{◌∙◌, ◌||◌, ap, sym, true}
use Rattle.std.specs.List.{list_any}
use Rattle.std.proofs.lemmas.List.{take_rest}
use Rattle.std.specs.Prelude.{drop, get_or, ◌+◌}
use Rattle.lock_queues.specs.LockTable.{look_at}
use Rattle.marked_locks.specs.Places.{no_wait, stands}
use Rattle.marked_locks.proofs.SeenLemmas.{ahead-any, ahead-of, known-at}
use Rattle.marked_locks.proofs.queue.is_any_ahead.Goals as goal

pub returns-then-converts : goal.returns-then-converts
returns-then-converts c =
    let look = look_at c.args.modes.now.now in
    let rs = c.args.modes.now.resources in
    let ws = c.args.waits.now in
    let k = c.args.place in
    c.is_any_there.ensures ∙ ap (ahead-of look rs ws k c.args.whose) (sym c.if-converts.true ∙ c.converts.ensures)
    ∙ sym (ahead-any look rs ws k c.args.whose c.requires.known (known-at rs ws k c.requires.known c.requires.place).number)

pub returns-then-is_any_there : goal.returns-then-is_any_there
returns-then-is_any_there c =
    let look = look_at c.args.modes.now.now in
    let rs = c.args.modes.now.resources in
    let ws = c.args.waits.now in
    let k = c.args.place in
    c.if-is_any_there.true
    ∙ ap (λ b. b || list_any (stands look rs (get_or ws k no_wait).resource true c.args.whose) (drop (k + 1) ws))
    (sym c.if-is_any_there.true ∙ c.is_any_there-else-converts.ensures)
    ∙ ap (ahead-of look rs ws k c.args.whose) (sym c.if-converts.false ∙ c.converts.ensures)
    ∙ sym (ahead-any look rs ws k c.args.whose c.requires.known (known-at rs ws k c.requires.known c.requires.place).number)

pub returns-else-is_any_there : goal.returns-else-is_any_there
returns-else-is_any_there c =
    let look = look_at c.args.modes.now.now in
    let rs = c.args.modes.now.resources in
    let ws = c.args.waits.now in
    let k = c.args.place in
    c.is_any_there-else-is_any_there.ensures
    ∙ ap (list_any (stands look rs (get_or ws k no_wait).resource true c.args.whose)) (take_rest ws (k + 1))
    ∙ ap (λ b. b || list_any (stands look rs (get_or ws k no_wait).resource true c.args.whose) (drop (k + 1) ws))
    (sym c.if-is_any_there.false ∙ c.is_any_there-else-converts.ensures)
    ∙ ap (ahead-of look rs ws k c.args.whose) (sym c.if-converts.false ∙ c.converts.ensures)
    ∙ sym (ahead-any look rs ws k c.args.whose c.requires.known (known-at rs ws k c.requires.known c.requires.place).number)
