use Rattle.std.proofs.Common.{◌≡◌, List, ℕ, Some, Bor, subst}
use Rattle.std.specs.Prelude.{option_map}
use Rattle.json.specs.Json.{read_key}
use Rattle.book_files.proofs.PartLaws.{parts-end, parts-more, parts-shorter, parts-start}
use Rattle.book_files.proofs.parts.takes_all.Goals as goal

pub loop-next-init : goal.loop-next-init
loop-next-init c =
    parts-start c.args.guess.now c.args.reader.now c.begins_object.new.reader c.args.parts.now (c.begins_object.ensures c.if-not-begins_object.false)
    c.requires

pub returns-in-None : goal.returns-in-None
returns-in-None c = λ none.
    parts-end c.args.guess.now c.args.reader.now c.loop-next.reader c.next_key.new.self c.loop-next.parts
    (subst (λ o. read_key c.loop-next.reader ≡ Some (option_map (λ (s : Bor (List ℕ)). s.now) o, c.next_key.new.self)) c.in-None.is c.in-Ok.ensures.value)
    (c.ends.ensures none) c.loop-next.invariant

pub loop-next-smaller : goal.loop-next-smaller
loop-next-smaller c =
    parts-shorter c.args.guess.now c.loop-next.reader c.next_key.new.self c.takes.new.reader c.in-Some.name.now c.loop-next.parts c.takes.new.parts
    (subst (λ o. read_key c.loop-next.reader ≡ Some (option_map (λ (s : Bor (List ℕ)). s.now) o, c.next_key.new.self)) c.in-Some.is c.in-Ok.ensures.value)
    (c.takes.ensures c.if-not-takes.false)

pub loop-next-preserved : goal.loop-next-preserved
loop-next-preserved c =
    parts-more c.args.guess.now c.args.reader.now c.loop-next.reader c.next_key.new.self c.takes.new.reader c.in-Some.name.now c.loop-next.parts
    c.takes.new.parts
    (subst (λ o. read_key c.loop-next.reader ≡ Some (option_map (λ (s : Bor (List ℕ)). s.now) o, c.next_key.new.self)) c.in-Some.is c.in-Ok.ensures.value)
    (c.takes.ensures c.if-not-takes.false) c.loop-next.invariant
