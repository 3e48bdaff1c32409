use Rattle.std.proofs.Common.{arith}
use Rattle.std.proofs.lemmas.Str.{IsCharBoundary-after_ascii}
use Rattle.spec_findings.proofs.pieces.semicolon_len.Goals as goal

pub returns-then-byte-eq59-clause-boundary : goal.returns-then-byte-eq59-clause-boundary
returns-then-byte-eq59-clause-boundary c =
    IsCharBoundary-after_ascii c.args.text.now c.loop-n.n c.requires c.loop-n-test.true (omega (arith, c.if-byte-eq59.true))
