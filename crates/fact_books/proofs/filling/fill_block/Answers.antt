use Rattle.std.proofs.Common.{◌≡◌, sym, ap, ◌∙◌, subst, arith, length, ◌≤◌, ◌-◌, Err}
use Rattle.fact_books.specs.Sweep.{IsVerdict, tag_vote, values_of, IsOneOf, leads_of, FillsStretch, AllBelow, GoesTo, copies}
use Rattle.fact_books.proofs.BlockLeads.{leads-down}
use Rattle.fact_books.proofs.FillLemmas.{fill-stops, fill-step, length-to, one-of-ok, below-append, below-copies}
use Rattle.fact_books.proofs.filling.fill_block.Goals as goal

pub returns-in-Err-clause-stop : goal.returns-in-Err-clause-stop
returns-in-Err-clause-stop c =
    let t = c.args.outcomes.now in
    let leads = leads_of c.args.shape.now in
    let done = c.loop-done.done.items in
    let rank : c.len-rank.result ≡ length done = omega (arith, c.len-rank.ensures) in
    let verdict = subst (λ d. IsVerdict t
    (tag_vote t leads (values_of t d) (length d)) c.args.active.now c.judged-verdict.result) c.as_slice.ensures.value c.judged-verdict.ensures in
    let one : IsOneOf c.judged-verdict.result (length done) (Err c.in-Err.error) =
    subst (λ r. IsOneOf c.judged-verdict.result r (Err c.in-Err.error)) rank c.in-Err.ensures in
    fill-stops t leads (leads-down c.args.shape.now) c.args.active.now c.args.last c.args.done.now.items done c.judged-verdict.result c.in-Err.error
    c.loop-done.invariant.3
    c.loop-done.invariant.1 (omega (arith, c.len.ensures, c.loop-done-test.true)) verdict one

pub loop-done-smaller : goal.loop-done-smaller
loop-done-smaller c =
    let done = c.loop-done.done.items in
    let rank : c.len-rank.result ≡ length done = omega (arith, c.len-rank.ensures) in
    let to = c.last_of-end.ensures in
    let a = to.0 in
    let b = to.1 in
    let long : length c.extend.new.done.items ≡ c.last_of-end.result = ap length c.in_ok-extend.ensures
    ∙ length-to done c.in-Ok.n c.last_of-end.result (omega (arith, a, rank)) in
    omega (arith, long, a, b, rank)

pub loop-done-preserved : goal.loop-done-preserved
loop-done-preserved c =
    let t = c.args.outcomes.now in
    let leads = leads_of c.args.shape.now in
    let done = c.loop-done.done.items in
    let rank : c.len-rank.result ≡ length done = omega (arith, c.len-rank.ensures) in
    let to = subst (λ r. GoesTo c.args.active.now r c.args.last c.last_of-end.result) rank c.last_of-end.ensures in
    let a = to.0 in
    let b = to.1 in
    let le : length done ≤ c.last_of-end.result = omega (arith, a) in
    let is = c.in_ok-extend.ensures in
    let long : length c.extend.new.done.items ≡ c.last_of-end.result = ap length is ∙ length-to done c.in-Ok.n c.last_of-end.result le in
    let low = c.loop-done.invariant.1 in
    let one = one-of-ok c.judged-verdict.result c.len-rank.result c.in-Ok.n c.in-Ok.ensures in
    let verdict = subst (λ v. IsVerdict t (tag_vote t leads (values_of t done) (length done)) c.args.active.now v) one
    (subst (λ d. IsVerdict t
    (tag_vote t leads (values_of t d) (length d)) c.args.active.now c.judged-verdict.result) c.as_slice.ensures.value c.judged-verdict.ensures) in (
      subst (AllBelow (length t)) (sym is)
          (below-append (length t) done (copies c.in-Ok.n (c.last_of-end.result - length done)) c.loop-done.invariant.0
          (below-copies (length t) c.in-Ok.n (c.last_of-end.result - length done) verdict.0)),
      omega (arith, long, a, low),
      omega (arith, long, b),
      subst (FillsStretch t leads c.args.active.now c.args.last c.args.done.now.items) (sym is)
          (fill-step t leads (leads-down c.args.shape.now) c.args.active.now c.args.last c.args.done.now.items done c.in-Ok.n c.last_of-end.result
          c.loop-done.invariant.3 low verdict to),
    )
