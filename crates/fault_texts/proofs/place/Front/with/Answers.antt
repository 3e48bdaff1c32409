use Rattle.fault_texts.proofs.PlaceLemmas.{front-ends, front-goes-on, is-line-end, no-line-end}
use Rattle.fault_texts.proofs.place.Front.with.Goals as goal

pub returns-then-byte-eq10-clause-told : goal.returns-then-byte-eq10-clause-told
returns-then-byte-eq10-clause-told c = λ before e. front-ends before c.args.self c.args.byte (is-line-end c.args.byte c.if-byte-eq10.true) e

pub returns-clause-told : goal.returns-clause-told
returns-clause-told c = λ before e. front-goes-on before c.args.self c.args.byte (no-line-end c.args.byte c.if-byte-eq10.false) e
