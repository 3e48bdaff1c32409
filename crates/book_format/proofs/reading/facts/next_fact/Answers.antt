use Rattle.std.proofs.Common.{◌≡◌, ◌<◌, refl, sym, ◌∙◌, true, false, inl, inr, arith}
use Rattle.bound_specs.specs.Spec.{ranks}
use Rattle.book_format.specs.ReadingFacts.{entry_of}
use Rattle.book_format.proofs.reading.facts.next_fact.Goals as goal

pub returns-then-not-is_led : goal.returns-then-not-is_led
returns-then-not-is_led c =
    let lt = c.if-fact-ranks.false in
    let all = c.ranks.ensures in
    let below : c.in-Ok.fact.rank < ranks c.args.spec.now.run = omega (arith, lt, all) in
    inl (inl (
      entry_of c.in-Ok.fact,
      c.in-Ok.ensures,
      inl (
        below,
        inr (
          λ led.
              (let f : true ≡ false = sym (c.is_led.ensures.1 led) ∙ c.if-not-is_led.true in absurd (cc)),
          refl,
        ),
      ),
    ))

pub returns-then-not-stands_after : goal.returns-then-not-stands_after
returns-then-not-stands_after c =
    let lt = c.if-fact-ranks.false in
    let all = c.ranks.ensures in
    let below : c.in-Ok.fact.rank < ranks c.args.spec.now.run = omega (arith, lt, all) in
    inl (inl (
      entry_of c.in-Ok.fact,
      c.in-Ok.ensures,
      inl (
        below,
        inl (
          c.is_led.ensures.0 c.if-not-is_led.false,
          inr (
            λ after.
                (let f : true ≡ false = sym (c.stands_after.ensures.1 after) ∙ c.if-not-stands_after.true in absurd (cc)),
            refl,
          ),
        ),
      ),
    ))
