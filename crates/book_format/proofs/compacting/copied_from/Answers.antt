use Rattle.std.proofs.Common.{refl}
use Rattle.json.specs.Reads.{token_of}
use Rattle.book_format.proofs.CopyLemmas.{copied-none, copied-next, copied-whole}
use Rattle.book_format.proofs.compacting.copied_from.Goals as goal

pub loop-token-init : goal.loop-token-init
loop-token-init c = copied-none c.args.tokens c.args.tokens c.args.writer c.requires.before c.requires.none refl

pub loop-token-preserved : goal.loop-token-preserved
loop-token-preserved c =
    copied-next c.args.tokens c.loop-token.tokens c.next.new.self c.loop-token.writer c.takes.new.writer (token_of c.in-Some.token)
    c.loop-token.invariant c.in-Some.ensures.value (c.takes.ensures c.if-not-takes.false)

pub returns : goal.returns
returns c = copied-whole c.args.tokens c.loop-token.tokens c.loop-token.writer c.loop-token.invariant c.in_default.ensures.value.0
