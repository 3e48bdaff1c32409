use Rattle.std.proofs.Common.{◌≡◌, ◌<◌, ◌++◌, ◌∷◌, [], length, map, sym, subst, OnErr, OnOk}
use Rattle.event_tree.specs.Lists.{Grows}
use Rattle.marked_logs.specs.Logs.{Logs, telling, told_to}
use Rattle.marked_logs.specs.Kept.{lists_at}
use Rattle.marked_logs.proofs.LogLemmas.{inside-of, tell-grows, tell-kept, tell-marked, tell-told}
use Rattle.marked_logs.proofs.logs.MarkedLogs.tell.Goals as goal

pub returns-clause-told : goal.returns-clause-told
returns-clause-told g c =
    let s = c.args.session in
    let tree = c.self.inside.tree in
    let logs = c.self.inside.logs in
    let lt = inside-of tree logs.list s (subst (λ (l : Logs g.row.E.Denot). s < length l.now) (sym c.self.view_is) c.requires) in
    subst (λ (l : Logs g.row.E.Denot). OnOk c.set.result (lists_at c.child.new.self c.set.new.self.list ≡ telling l.now s c.args.event)) c.self.view_is
    (tell-told c.set.result tree c.child.new.self logs c.set.new.self s c.get-before.result c.in_ok-after.after c.args.event c.child.ensures.keeps
    c.self.invariant lt c.get-before.ensures c.in_ok-after.ensures.list c.set.ensures.set)

pub returns-clause-kept : goal.returns-clause-kept
returns-clause-kept g c =
    subst (λ (l : Logs g.row.E.Denot). OnErr c.set.result (lists_at c.child.new.self c.set.new.self.list ≡ l.now)) c.self.view_is
    (tell-kept c.set.result c.self.inside.tree c.child.new.self c.self.inside.logs c.set.new.self c.child.ensures.keeps c.self.invariant
    c.set.ensures.refused)

pub returns-clause-marked : goal.returns-clause-marked
returns-clause-marked g c =
    subst (λ (l : Logs g.row.E.Denot). map (lists_at c.child.new.self) c.set.new.self.marked ≡ l.marked) c.self.view_is
    (tell-marked c.set.result c.self.inside.tree c.child.new.self c.self.inside.logs c.set.new.self c.args.session c.in_ok-after.after
    c.child.ensures.keeps c.self.invariant c.set.ensures.set c.set.ensures.refused)

pub returns-clause-grows : goal.returns-clause-grows
returns-clause-grows g c =
    let s = c.args.session in
    let tree = c.self.inside.tree in
    let logs = c.self.inside.logs in
    let lt = inside-of tree logs.list s (subst (λ (l : Logs g.row.E.Denot). s < length l.now) (sym c.self.view_is) c.requires) in
    subst (λ (l : Logs g.row.E.Denot). Grows l.lists (told_to l.now s ++ c.args.event ∷ []) c.child.new.self) c.self.view_is
    (tell-grows tree c.child.new.self logs s c.get-before.result c.args.event lt c.get-before.ensures c.in_ok-after.ensures.grows)
