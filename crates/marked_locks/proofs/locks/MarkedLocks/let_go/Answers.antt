use Rattle.std.proofs.Common.{◌≡◌, ◌∙◌, ◌==◌, OnErr, OnOk, ap, subst, sym}
use Rattle.std.specs.List.{position}
use Rattle.lock_queues.specs.LockTable.{let_go}
use Rattle.marked_locks.specs.Queued.{LosesSome, MarkedTable, table_of}
use Rattle.marked_locks.specs.declared.wait.NumberedWait.{NumberedWait}
use Rattle.marked_locks.proofs.KeepLemmas.{gone-kept, gone-none-kept, refused-kept}
use Rattle.marked_locks.proofs.TableLemmas.{gone-none, gone-refused, gone-waiting}
use Rattle.marked_locks.proofs.locks.MarkedLocks.let_go.Goals as goal

pub invariant_of-self : goal.invariant_of-self
invariant_of-self c =
    refused-kept c.self.inside.modes c.let_go.new.self c.self.inside.waits c.truncate.new.self c.args.session c.self.invariant c.let_go.ensures.resources
    c.let_go.ensures.marked c.truncate.ensures c.in-Err.ensures.refused

pub invariant_of-self-in-None : goal.invariant_of-self-in-None
invariant_of-self-in-None c =
    let i = c.args.session in
    let found = ap (position (λ (w : NumberedWait). w.session == i)) (sym c.as_slice.ensures) ∙ sym c.place_of_wait.ensures ∙ c.in-None.is in
    gone-none-kept c.tables_stay_sound.ensures c.self.inside.modes c.let_go.new.self c.self.inside.waits c.self.invariant i c.in_default.ensures.gone found

pub invariant_of-self-in-Some : goal.invariant_of-self-in-Some
invariant_of-self-in-Some c =
    let i = c.args.session in
    let found = ap (position (λ (w : NumberedWait). w.session == i)) (sym c.as_slice.ensures) ∙ sym c.place_of_wait.ensures ∙ c.in-Some.is in
    gone-kept c.tables_stay_sound.ensures c.self.inside.modes c.let_go.new.self c.self.inside.waits c.self.invariant i c.in_default.ensures.gone
    c.remove_wait.new.waits c.in-Some.place c.remove_wait.result found c.remove_wait.ensures.removed c.remove_wait.ensures.refused

pub returns-in-None-clause-gone : goal.returns-in-None-clause-gone
returns-in-None-clause-gone c =
    let i = c.args.session in
    let found = ap (position (λ (w : NumberedWait). w.session == i)) (sym c.as_slice.ensures) ∙ sym c.place_of_wait.ensures ∙ c.in-None.is in
    subst (λ (t : MarkedTable). table_of c.let_go.new.self c.self.inside.waits ≡ record t { now = let_go t.now i }) c.self.view_is
    (gone-none c.self.inside.modes c.let_go.new.self c.self.inside.waits i c.in_default.ensures.gone found)

pub returns-in-Some-clause-gone : goal.returns-in-Some-clause-gone
returns-in-Some-clause-gone c =
    let i = c.args.session in
    let found = ap (position (λ (w : NumberedWait). w.session == i)) (sym c.as_slice.ensures) ∙ sym c.place_of_wait.ensures ∙ c.in-Some.is in
    subst (λ (t : MarkedTable). OnOk c.remove_wait.result (table_of c.let_go.new.self c.remove_wait.new.waits ≡ record t { now = let_go t.now i })) c.self.view_is
    (gone-waiting c.self.inside.modes c.let_go.new.self c.self.inside.waits i c.in_default.ensures.gone c.remove_wait.new.waits c.in-Some.place
    c.remove_wait.result c.self.invariant found c.remove_wait.ensures.removed)

pub returns-in-Some-clause-refused : goal.returns-in-Some-clause-refused
returns-in-Some-clause-refused c =
    let i = c.args.session in
    subst (λ (t : MarkedTable). OnErr c.remove_wait.result (LosesSome i t.now (table_of c.let_go.new.self c.remove_wait.new.waits).now)) c.self.view_is
    (gone-refused c.self.inside.modes c.let_go.new.self c.self.inside.waits i c.in_default.ensures.gone c.remove_wait.new.waits c.remove_wait.result
    c.remove_wait.ensures.refused)
