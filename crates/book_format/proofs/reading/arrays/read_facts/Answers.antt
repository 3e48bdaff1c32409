use Rattle.std.proofs.Common.{subst, Ok}
use Rattle.std.specs.Prelude.{option_map}
use Rattle.serde_json.specs.View.{view}
use Rattle.book_format.specs.ReadingFacts.{IsNextEntry, entries_of, entry_of}
use Rattle.book_format.specs.Tokens.{IsItemAt}
use Rattle.book_format.proofs.ArrayLemmas.{facts-start, facts-more, facts-whole, fact-follows}
use Rattle.book_format.proofs.reading.arrays.read_facts.Goals as goal

pub loop-next-init : goal.loop-next-init
loop-next-init c =
    facts-start c.args.spec.now.run c.args.reader.now c.begins_array.new.reader _ c.args.builder.now
    (c.begins_array.ensures c.if-not-begins_array.false) c.new-last.ensures.items c.requires.none c.requires.first

pub returns-in-None : goal.returns-in-None
returns-in-None c = λ t.
    facts-whole c.args.spec.now.run c.args.reader.now c.loop-next.reader c.next_item.new.reader c.loop-next.last.items c.loop-next.builder
    (subst (λ o. IsItemAt c.loop-next.reader (option_map view o) c.next_item.new.reader) c.in-None.is c.in-Some.ensures.item) c.loop-next.invariant

pub adds-requires : goal.adds-requires
adds-requires c =
    (fact-follows c.args.spec.now.run c.args.reader.now c.loop-next.reader c.loop-next.last.items c.loop-next.builder (view c.in-Some-next.value)
    c.in-Ok.fact
    (subst (λ fs. IsNextEntry c.args.spec.now.run (entries_of fs) (view c.in-Some-next.value) (Ok (entry_of c.in-Ok.fact))) c.as_slice.ensures.value
    c.in-Ok.ensures) c.loop-next.invariant).0

pub loop-next-preserved : goal.loop-next-preserved
loop-next-preserved c =
    facts-more c.args.spec.now.run c.args.reader.now c.loop-next.reader c.next_item.new.reader c.loop-next.last.items c.adds.new.last.items
    c.loop-next.builder c.adds.new.builder (view c.in-Some-next.value) c.in-Ok.fact
    (subst (λ o. IsItemAt c.loop-next.reader (option_map view o) c.next_item.new.reader) c.in-Some-next.is c.in-Some.ensures.item)
    (subst (λ fs. IsNextEntry c.args.spec.now.run (entries_of fs) (view c.in-Some-next.value) (Ok (entry_of c.in-Ok.fact))) c.as_slice.ensures.value
    c.in-Ok.ensures) (c.adds.ensures.last c.if-not-adds.false) (c.adds.ensures.added c.if-not-adds.false) c.loop-next.invariant

pub loop-next-preserved-else-not-adds-2 : goal.loop-next-preserved-else-not-adds-2
loop-next-preserved-else-not-adds-2 c =
    facts-more c.args.spec.now.run c.args.reader.now c.loop-next.reader c.next_item.new.reader c.loop-next.last.items c.adds.new.last.items
    c.loop-next.builder c.adds.new.builder (view c.in-Some-next.value) c.in-Ok.fact
    (subst (λ o. IsItemAt c.loop-next.reader (option_map view o) c.next_item.new.reader) c.in-Some-next.is c.in-Some.ensures.item)
    (subst (λ fs. IsNextEntry c.args.spec.now.run (entries_of fs) (view c.in-Some-next.value) (Ok (entry_of c.in-Ok.fact))) c.as_slice.ensures.value
    c.in-Ok.ensures) (c.adds.ensures.last c.if-not-adds.false) (c.adds.ensures.added c.if-not-adds.false) c.loop-next.invariant
