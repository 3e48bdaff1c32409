use Rattle.std.proofs.Common.{◌≡◌}
use Rattle.row_tables.proofs.OnlyLemmas.{undone_others}
use Rattle.row_tables.proofs.store.Store.only.Given as goal

-- with those that are left undone it is what undoing all comes to
abbrev pub invariant-loop-other : goal.invariant-loop-other
invariant-loop-other l = undone_others l.session l.other-iterator l.store ≡ undone_others l.session l.initial.other-iterator l.self
