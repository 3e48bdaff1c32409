use Rattle.std.proofs.Common.{◌≡◌, ◌++◌, drop}
use Rattle.session_machine.specs.Showing.{lefts_from}
use Rattle.session_machine.proofs.leaving.lefts_of.Given as goal

-- with those that are left they are all
abbrev pub invariant-loop-number : goal.invariant-loop-number
invariant-loop-number l = l.all ++ lefts_from l.number (drop l.number l.tables) l.store.committed ≡ lefts_from 0 l.tables l.store.committed
