use Rattle.std.proofs.Common.{◌+◌, sym, ◌∙◌, ap, take, List, ℕ}
use Rattle.std.proofs.lemmas.List.{take_more}
use Rattle.fault_texts.specs.Places.{front}
use Rattle.fault_texts.proofs.place.front_of.Goals as goal

pub loop-byte-preserved : goal.loop-byte-preserved
loop-byte-preserved c =
    let small = c.with-front.ensures.small (c.loop-byte.byte-index + 1) c.loop-byte.invariant.1 c.loop-byte.invariant.2 in (
      c.with-front.ensures.told (take c.loop-byte.byte-index c.args.before.now) c.loop-byte.invariant.0
          ∙ ap (λ (bs : List ℕ). front bs) (sym (take_more c.args.before.now c.loop-byte.byte-index 0 c.loop-byte-test.true)),
      small.0,
      small.1,
    )
