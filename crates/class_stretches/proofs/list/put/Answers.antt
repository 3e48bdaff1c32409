use Rattle.std.proofs.Common.{◌≡◌, ◌∙◌, sym, ap, true, false, ◌-◌, arith}
use Rattle.class_stretches.specs.Growing.{goes_on}
use Rattle.class_stretches.proofs.Lists.{last-goes-on, not-empty, next-begins}
use Rattle.class_stretches.proofs.list.put.Goals as goal

pub returns-then-is_last-clause-ok : goal.returns-then-is_last-clause-ok
returns-then-is_last-clause-ok c =
    let list = c.args.list.now in
    let on : goes_on list.items c.args.class ≡ true = ap (λ ss. goes_on ss c.args.class) (sym c.deref.ensures.value) ∙ sym c.is_last.ensures ∙ c.if-is_last.true in
    last-goes-on list.items (c.len-last.result - 1) c.args.end c.args.class on
    (omega (arith, c.len-last.ensures, list.ok.0, not-empty list.items c.args.class on))

pub returns-clause-ok : goal.returns-clause-ok
returns-clause-ok c =
    let list = c.args.list.now in
    let off : goes_on list.items c.args.class ≡ false = ap (λ ss. goes_on ss c.args.class) (sym c.deref.ensures.value) ∙ sym c.is_last.ensures ∙ c.if-is_last.false in
    c.in_ok-push.ensures.items ∙ next-begins list.items c.args.end c.args.class off
