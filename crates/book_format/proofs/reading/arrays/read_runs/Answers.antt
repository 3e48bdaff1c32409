use Rattle.std.proofs.Common.{subst, Ok}
use Rattle.std.specs.Prelude.{option_map}
use Rattle.serde_json.specs.View.{view}
use Rattle.book_format.specs.ReadingRuns.{IsNextRun}
use Rattle.book_format.specs.Tokens.{IsItemAt}
use Rattle.book_format.proofs.ArrayLemmas.{runs-start, runs-more, runs-whole}
use Rattle.book_format.proofs.EndLemmas.{named-told}
use Rattle.book_format.proofs.reading.arrays.read_runs.Goals as goal

pub loop-next-init : goal.loop-next-init
loop-next-init c =
    runs-start c.args.spec.now.run c.args.outcomes c.args.reader.now c.begins_array.new.reader c.args.runs.now.items c.args.ends.now
    (c.begins_array.ensures c.if-not-begins_array.false) c.requires.none c.requires.ends

pub returns-in-None : goal.returns-in-None
returns-in-None c = λ named.
    runs-whole c.args.spec.now.run c.args.outcomes c.args.reader.now c.loop-next.reader c.next_item.new.reader c.loop-next.runs.items c.loop-next.facts
    c.loop-next.ends (subst (λ o. IsItemAt c.loop-next.reader (option_map view o) c.next_item.new.reader) c.in-None.is c.in-Some.ensures.item)
    c.loop-next.invariant
    (named-told c.args.outcomes c.loop-next.ends c.loop-next.runs.items c.loop-next.invariant.ends_are (c.all_named.ensures.0 named))

pub loop-next-preserved : goal.loop-next-preserved
loop-next-preserved c =
    runs-more c.args.spec.now.run c.args.outcomes c.args.reader.now c.loop-next.reader c.next_item.new.reader c.loop-next.runs.items _ c.loop-next.facts
    c.loop-next.ends _ (view c.in-Some-next.value) c.in-Ok.run'
    (subst (λ o. IsItemAt c.loop-next.reader (option_map view o) c.next_item.new.reader) c.in-Some-next.is c.in-Some.ensures.item)
    (subst (λ rs. IsNextRun c.args.spec.now.run c.args.outcomes rs c.loop-next.facts (view c.in-Some-next.value) (Ok c.in-Ok.run')) c.as_slice.ensures.value
    c.in-Ok.ensures)
    (c.pushes.ensures c.if-not-pushes.false) (c.note.ensures c.args.outcomes c.loop-next.runs.items) c.loop-next.invariant

pub loop-next-preserved-else-not-pushes-2 : goal.loop-next-preserved-else-not-pushes-2
loop-next-preserved-else-not-pushes-2 c =
    runs-more c.args.spec.now.run c.args.outcomes c.args.reader.now c.loop-next.reader c.next_item.new.reader c.loop-next.runs.items _ c.loop-next.facts
    c.loop-next.ends _ (view c.in-Some-next.value) c.in-Ok.run'
    (subst (λ o. IsItemAt c.loop-next.reader (option_map view o) c.next_item.new.reader) c.in-Some-next.is c.in-Some.ensures.item)
    (subst (λ rs. IsNextRun c.args.spec.now.run c.args.outcomes rs c.loop-next.facts (view c.in-Some-next.value) (Ok c.in-Ok.run')) c.as_slice.ensures.value
    c.in-Ok.ensures)
    (c.pushes.ensures c.if-not-pushes.false) (c.note.ensures c.args.outcomes c.loop-next.runs.items) c.loop-next.invariant
