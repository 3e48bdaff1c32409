use Rattle.order_names.proofs.Sending.{Sending}
use Rattle.order_names.proofs.words.rank_of_word.Given as goal

-- the steps before this place are sent in turn
abbrev pub invariant-loop-place : goal.invariant-loop-place
invariant-loop-place l = Sending l.spec.run l.line l.place l.next l.block
