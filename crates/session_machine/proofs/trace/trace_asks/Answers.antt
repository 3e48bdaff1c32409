use Rattle.std.proofs.lemmas.List.{drop_all}
use Rattle.std.proofs.Common.{◌≡◌, ◌≤◌, sym, ap, ◌∙◌, subst, drop, [], length, arith}
use Rattle.bound_statements.specs.Levels.{is_unlocked, asked}
use Rattle.bound_statements.specs.Plan.{nowait}
use Rattle.bound_statements.proofs.LevelLemmas.{asked-unlocked}
use Rattle.machine_model.specs.Session.{asks, in_status}
use Rattle.session_steps.specs.Going.{standing}
use Rattle.session_machine.specs.Tracing.{TracesOn}
use Rattle.session_steps.proofs.Requests.{nothing-asked}
use Rattle.session_machine.proofs.trace.trace_asks.Goals as goal

-- a select that asks for no lock
pub returns-then-is_unlocked_in : goal.returns-then-is_unlocked_in
returns-then-is_unlocked_in c = λ s e.
    let i = c.args.session in
    let t = c.args.locks.now in
    let q = in_status c.args.status c.args.statement.now in
    let n = c.args.first in
    let cs = c.args.trace.now.changes in
    let is : is_unlocked q ≡ Rattle.std.proofs.Common.true = sym c.if-is_unlocked_in.ensures in
    let nothing = nothing-asked i t s q n is in
    let least : length (asked q) ≤ n = subst (λ qs. length qs ≤ n) (sym (asked-unlocked q is)) (let z : 0 ≤ n = omega arith in z) in
    let none : drop n (asked q) ≡ [] = drop_all n (asked q) least in
    record {
      goes = nothing.asks;
      traces = λ l ts. subst (λ qs. TracesOn c.args.count i cs (standing l t s) (asks (nowait q) qs ts) cs (standing l t s) ts) (sym none) (λ v scene. Rattle.std.proofs.Common.refl);
      holds = nothing.holds;
      below = c.requires.below;
      whole = c.requires.whole;
    }
