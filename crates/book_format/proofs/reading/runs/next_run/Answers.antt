use Rattle.std.proofs.Common.{◌≡◌, ◌+◌, ◌≤◌, refl, sym, ◌∙◌, true, false, inl, inr, arith}
use Rattle.bound_specs.specs.Spec.{ranks}
use Rattle.book_format.specs.declared.pieces.TheConstants.{MAX_FACTS}
use Rattle.book_format.proofs.reading.runs.next_run.Goals as goal

pub returns-then-not-is_led : goal.returns-then-not-is_led
returns-then-not-is_led c =
    let few = c.requires.few in
    let count = c.if-span-facts.false in
    let fits : c.args.facts + c.in-Some.span.count ≤ MAX_FACTS = omega (arith, few, count) in
    let within = c.is_within.ensures.0 c.if-not-is_within.false in
    let all = c.ranks.ensures in
    let below : c.in-Some.span.first + c.in-Some.span.count ≤ ranks c.args.spec.now.run = omega (arith, within, all) in
    inl (inl (
      c.in-Some.span,
      sym c.in-Some.ensures,
      inl (
        fits,
        inl (
          below,
          inr
              (λ led. (let f : true ≡ false = sym (c.is_led.ensures.1 led) ∙ c.if-not-is_led.true in absurd (cc)), refl),
        ),
      ),
    ))
