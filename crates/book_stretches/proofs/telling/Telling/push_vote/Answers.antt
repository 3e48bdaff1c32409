use Rattle.std.proofs.Common.{◌≡◌, refl, subst, ℕ, Some, arith}
use Rattle.std.proofs.lemmas.Result.{on_ok_weaker}
use Rattle.book_stretches.specs.declared.judging.Vote.{Vote}
use Rattle.book_stretches.specs.declared.judging.Vote.TheVariants.{Class}
use Rattle.book_stretches.specs.declared.telling.Telling.{Telling}
use Rattle.book_stretches.specs.Sweep.{said, HaveOne, HasRoom, IsTelling}
use Rattle.book_stretches.proofs.Going.{pushed-told, room-known}
use Rattle.book_stretches.proofs.telling.Telling.push_vote.Goals as goal

-- there is room for the class of the vote
room : (x : Telling) (c : ℕ) (vote : Vote) (to : ℕ) → vote ≡ Class c → IsTelling x → HaveOne x vote to → HasRoom x x (Some c)
room x c vote to is telling one = room-known x c one.outcome telling (subst (λ v. said x v ≡ Some one.outcome) is one.is)

pub push_outcome-requires-clause-one : goal.push_outcome-requires-clause-one
push_outcome-requires-clause-one c = subst (λ v. HaveOne c.args.self.now v c.args.until) c.in-Table.is c.requires.one

pub push-requires-clause-class : goal.push-requires-clause-class
push-requires-clause-class c = (room c.args.self.now c.in-Class.class c.args.vote c.args.until c.in-Class.is c.requires.telling c.requires.one).may

pub push-requires-clause-room : goal.push-requires-clause-room
push-requires-clause-room c =
    let r = room c.args.self.now c.in-Class.class c.args.vote c.args.until c.in-Class.is c.requires.telling c.requires.one in
    let many = r.many in
    let few = r.few in
    omega (arith, many, few)

pub returns-in-Class : goal.returns-in-Class
returns-in-Class c =
    let x = c.args.self.now in
    let z : Telling = record x { stretches = c.push.new.self } in
    let one = c.requires.one in
    let at = subst (λ v. said x v ≡ Some one.outcome) c.in-Class.is one.is in
    on_ok_weaker c.push.result
    (λ pushed. pushed-told x x z (Some c.in-Class.class) c.args.until c.requires.telling (room-known x c.in-Class.class one.outcome c.requires.telling at)
    (λ r le lt. (one.outcome, at, one.each r le lt)) pushed
    (record { same = record { file = refl; outcomes = refl; runs = refl }; classes = refl; told = refl })) c.push.ensures.ok
