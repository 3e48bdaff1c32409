use Rattle.std.proofs.Common.{◌≡◌, ◌<◌, sym, ap, ◌∙◌, subst, [], ◌∷◌, List, length, length-set, lt-length-set}
use Rattle.std.specs.Vec.Iter.{into_iter_deque, into_iter_items}
use Rattle.std.proofs.lemmas.List.{nil_from_length}
use Rattle.events.specs.declared.event.Event.{Event}
use Rattle.marked_logs.specs.Logs.{telling}
use Rattle.marked_execution.proofs.LogLemmas.{telling_each, telling_each-nil, telling_each-cons}
use Rattle.marked_execution.proofs.run.tell_items.Goals as goal

-- the event that is told was the first of those left
pub loop-event-preserved : goal.loop-event-preserved
loop-event-preserved c =
    let session = c.args.session in
    let logs = c.loop-event.logs.now in
    let e = c.in-Some.event in
    let rest = into_iter_items c.next.new.self in
    let before = c.loop-event.invariant in
    let all : into_iter_items c.loop-event.event-iterator ≡ e ∷ rest = c.in-Some.ensures.steps.0 in
    let after : c.tell.new.self.now ≡ telling logs session e = c.in_ok-tell.ensures.told in
    record {
      inside = subst (λ (l : List (List Event)). session < length l) (sym after) (lt-length-set logs session _ before.inside);
      told = ap (λ l. telling_each l session rest) after ∙ telling_each-cons logs session e rest before.inside
          ∙ ap (telling_each logs session) (sym all) ∙ before.told;
      marked = c.in_ok-tell.ensures.marked ∙ before.marked;
      sessions = ap length after ∙ length-set logs session _ ∙ before.sessions;
      lists = λ id has. let one = before.lists id has in let two = c.in_ok-tell.ensures.lists id one.0 in (two.0, two.1 ∙ one.1);
    }

-- none is left
pub returns-clause-told : goal.returns-clause-told
returns-clause-told c =
    let logs = c.loop-event.logs.now in
    let left = c.loop-event.event-iterator in
    let none : into_iter_items left ≡ [] = nil_from_length (into_iter_items left) (sym (into_iter_deque left).ok.0 ∙ c.in-None.ensures.steps.0) in
    sym (telling_each-nil logs c.args.session) ∙ ap (telling_each logs c.args.session) (sym none) ∙ c.loop-event.invariant.told
