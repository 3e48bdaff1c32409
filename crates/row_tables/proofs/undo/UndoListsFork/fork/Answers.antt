use Rattle.std.proofs.Common.{sym, ap, ◌∙◌, ◌++◌, rules}
use Rattle.row_tables.proofs.ListLemmas.{copied-more}
use Rattle.row_tables.proofs.undo.UndoListsFork.fork.Goals as goal

-- the next of those left comes after those copied
pub loop-session-preserved : goal.loop-session-preserved
loop-session-preserved c =
    copied-more c.self.inside.lists.entries c.loop-session.lists.entries c.copy_into.new.lists.entries c.in-Some.session.now c.in-Some.list.now c.next.new.self
    c.iter-session-items.ensures.ordered
    (ap (λ rest. c.loop-session.lists.entries ++ rest) (sym c.in-Some.ensures.steps) ∙ c.loop-session.invariant)
    c.in_ok-copy_into.ensures

-- all lists are copied
pub returns : goal.returns
returns c = search rules
