use Rattle.std.proofs.Common.{ap, sym, ◌∙◌, arith, ◌+◌, drop}
use Rattle.std.proofs.lemmas.List.{at_drop_more, at_drop_all}
use Rattle.book_audit.specs.declared.finding.Finding.TheVariants as found
use Rattle.book_audit.specs.Pieces.{all_of}
use Rattle.book_audit.proofs.sharing.all_of.Goals as goal

pub loop-i-preserved : goal.loop-i-preserved
loop-i-preserved c =
    let findings = c.args.findings.now in
    let i = c.loop-i.i in
    let all = c.loop-i.all in
    ap (λ f. all_of f (drop (i + 1) findings)) c.both-all.ensures ∙ sym (at_drop_more (all_of all) findings i found.AllTrue c.loop-i-test.true)
    ∙ c.loop-i.invariant

pub returns : goal.returns
returns c =
    sym (at_drop_all (all_of c.loop-i.all) c.args.findings.now c.loop-i.i (omega (arith, c.loop-i-test.false, c.loop-i.auto.i-end))) ∙ c.loop-i.invariant
