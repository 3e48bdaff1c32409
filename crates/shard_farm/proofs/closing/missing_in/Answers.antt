use Rattle.std.proofs.Common.{◌++◌, ◌∷◌, [], ℕ, List, ◌∙◌, ap, sym, arith}
use Rattle.shard_farm.proofs.MissingLemmas.{missing_more, missing_same}
use Rattle.shard_farm.proofs.closing.missing_in.Goals as goal

pub overflow_cast-number : goal.overflow_cast-number
overflow_cast-number c = let few = c.requires.2 in let end = c.loop-number-test.true in omega arith

-- the number is not marked
pub loop-number-preserved-then-not-is_missed : goal.loop-number-preserved-then-not-is_missed
loop-number-preserved-then-not-is_missed c =
    let i = c.loop-number.invariant in
    let none = sym c.is_missed.ensures ∙ c.if-not-is_missed.true in
    record { all = i.all ∙ sym (missing_same c.args.workers.now c.loop-number.number none); few = (let f = i.few in omega arith); room = i.room }

pub loop-number-preserved : goal.loop-number-preserved
loop-number-preserved c =
    let i = c.loop-number.invariant in
    let some = sym c.is_missed.ensures ∙ c.if-not-is_missed.false in
    let n : ℕ = c.loop-number.number in
    record {
      all = c.push_reserved.ensures.items ∙ (ap (λ (l : List ℕ). l ++ n ∷ []) i.all ∙ sym (missing_more c.args.workers.now n some));
      few = (let f = i.few in let l = c.push_reserved.ensures.len in omega arith);
      room = (let r = i.room in let k = c.push_reserved.ensures.capacity in omega arith);
    }
