use Rattle.std.proofs.Common.{◌≡◌, sym, ◌∙◌, subst, drop, ◌+◌}
use Rattle.fault_texts.specs.Cutting.{bytes_of}
use Rattle.fault_texts.proofs.CutLemmas.{bytes-next, bytes-ended, boundary-before}
use Rattle.fault_texts.proofs.cut.bytes_of.Goals as goal

pub loop-n-preserved : goal.loop-n-preserved
loop-n-preserved c =
    subst (λ k. (c.loop-n.n + 1) + bytes_of k (drop (c.loop-n.n + 1) c.args.text.now) ≡ bytes_of c.args.characters c.args.text.now)
    (sym c.left_behind-left.ensures)
    (bytes-next c.loop-n.n c.loop-n.left (bytes_of c.args.characters c.args.text.now) c.args.text.now c.loop-n-test.true
    (sym c.ends.ensures ∙ c.if-ends.false) c.loop-n.invariant)

pub returns-then-ends-clause-bytes : goal.returns-then-ends-clause-bytes
returns-then-ends-clause-bytes c =
    bytes-ended c.loop-n.n c.loop-n.left (bytes_of c.args.characters c.args.text.now) c.args.text.now c.loop-n-test.true
    (sym c.ends.ensures ∙ c.if-ends.true) c.loop-n.invariant

pub returns-then-ends-clause-boundary : goal.returns-then-ends-clause-boundary
returns-then-ends-clause-boundary c = boundary-before c.loop-n.n c.loop-n.left c.args.text.now c.loop-n-test.true (sym c.ends.ensures ∙ c.if-ends.true)
