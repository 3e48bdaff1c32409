use Rattle.std.proofs.Common.{◌≡◌, drop, false}
use Rattle.statement_evaluation.proofs.ListLemmas.{onto}
use Rattle.class_looks.specs.Values.{undoubled}
use Rattle.class_looks.proofs.values.undoubled.Given as goal

-- with what is left it is the text
abbrev pub invariant-loop-byte : goal.invariant-loop-byte
invariant-loop-byte l = onto l.text.items (undoubled l.behind_quote (drop l.byte-index l.bytes)) ≡ undoubled false l.bytes
