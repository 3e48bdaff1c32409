use Rattle.std.proofs.Common.{subst}
use Rattle.std.specs.Prelude.{option_map}
use Rattle.serde_json.specs.View.{view}
use Rattle.book_format.specs.Tokens.{IsItemAt}
use Rattle.book_format.proofs.ArrayLemmas.{outcomes-start, outcomes-more, outcomes-whole}
use Rattle.book_format.proofs.reading.arrays.read_outcomes.Goals as goal

pub loop-next-init : goal.loop-next-init
loop-next-init c =
    outcomes-start c.args.spec.now.run c.args.reader.now c.begins_array.new.reader c.args.outcomes.now
    (c.begins_array.ensures c.if-not-begins_array.false) c.requires

pub returns-in-None : goal.returns-in-None
returns-in-None c = λ t.
    outcomes-whole c.args.spec.now.run c.args.reader.now c.loop-next.reader c.next_item.new.reader c.loop-next.outcomes
    (subst (λ o. IsItemAt c.loop-next.reader (option_map view o) c.next_item.new.reader) c.in-None.is c.in-Some.ensures.item) c.loop-next.invariant

pub loop-next-preserved : goal.loop-next-preserved
loop-next-preserved c =
    outcomes-more c.args.spec.now.run c.args.reader.now c.loop-next.reader c.next_item.new.reader c.loop-next.outcomes c.takes_outcome.new.outcomes
    (view c.in-Some-next.value)
    (subst (λ o. IsItemAt c.loop-next.reader (option_map view o) c.next_item.new.reader) c.in-Some-next.is c.in-Some.ensures.item)
    (c.takes_outcome.ensures c.if-not-takes_outcome.false) c.loop-next.invariant

pub loop-next-preserved-else-not-takes_outcome-2 : goal.loop-next-preserved-else-not-takes_outcome-2
loop-next-preserved-else-not-takes_outcome-2 c =
    outcomes-more c.args.spec.now.run c.args.reader.now c.loop-next.reader c.next_item.new.reader c.loop-next.outcomes c.takes_outcome.new.outcomes
    (view c.in-Some-next.value)
    (subst (λ o. IsItemAt c.loop-next.reader (option_map view o) c.next_item.new.reader) c.in-Some-next.is c.in-Some.ensures.item)
    (c.takes_outcome.ensures c.if-not-takes_outcome.false) c.loop-next.invariant
