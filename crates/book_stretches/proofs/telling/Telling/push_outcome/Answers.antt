use Rattle.std.proofs.Common.{◌≡◌, refl, sym, ap, ◌∙◌, subst, ◌<◌, Some, get_or, [], arith}
use Rattle.std.proofs.lemmas.Option.{get_or_from_slice_get, slice_get_within}
use Rattle.std.proofs.lemmas.Result.{on_ok_weaker}
use Rattle.class_stretches.specs.Stretches.{Stretched, MayCome, end_of, with_class}
use Rattle.book_stretches.specs.declared.telling.Telling.{Telling}
use Rattle.book_stretches.proofs.Going.{pushed-told}
use Rattle.book_stretches.proofs.telling.Telling.push_outcome.Goals as goal

pub class_of-requires-clause-known : goal.class_of-requires-clause-known
class_of-requires-clause-known c = slice_get_within c.args.self.now.outcomes.now c.args.n c.requires.one.outcome c.requires.one.is

pub push-requires-clause-some : goal.push-requires-clause-some
push-requires-clause-some c = subst (λ (t : Stretched). end_of t.list < c.args.until) (sym c.in_ok-class.ensures.room.stretches) c.requires.one.some

pub push-requires-clause-class : goal.push-requires-clause-class
push-requires-clause-class c =
    subst (λ (t : Stretched). MayCome t.classes (Some c.in_ok-class.class)) (sym c.in_ok-class.ensures.room.stretches) c.in_ok-class.ensures.room.may

pub push-requires-clause-room : goal.push-requires-clause-room
push-requires-clause-room c =
    let room = c.in_ok-class.ensures.room in
    let many = room.many in
    let few = room.few in
    let same = ap (λ (t : Stretched). with_class t.classes (Some c.in_ok-class.class)) room.stretches in
    omega (arith, many, few, same)

pub returns : goal.returns
returns c =
    let x = c.args.self.now in
    let y = c.class_of.new.self in
    let z : Telling = record y { stretches = c.push.new.self } in
    let one = c.requires.one in
    let has = c.in_ok-class.ensures in
    let is : get_or x.outcomes.now c.args.n [] ≡ one.outcome = get_or_from_slice_get x.outcomes.now c.args.n one.outcome [] one.is in
    on_ok_weaker c.push.result
    (λ pushed. pushed-told x y z (Some c.in_ok-class.class) c.args.until c.requires.telling has.room
    (λ r le lt. (one.outcome, has.at ∙ ap (λ o. Some o) is, one.each r le lt)) pushed
    (record { same = record { file = refl; outcomes = refl; runs = refl }; classes = refl; told = refl })) c.push.ensures.ok
