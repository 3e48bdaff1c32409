use Rattle.std.proofs.Common.{refl, None}
use Rattle.std.proofs.lemmas.Result.{on_ok_weaker}
use Rattle.book_stretches.specs.declared.telling.Telling.{Telling}
use Rattle.book_stretches.proofs.Going.{pushed-told, room-none}
use Rattle.book_stretches.proofs.telling.Telling.push_none.Goals as goal

pub returns : goal.returns
returns c =
    let x = c.args.self.now in
    let z : Telling = record x { stretches = c.push.new.self } in
    on_ok_weaker c.push.result
    (λ pushed. pushed-told x x z None c.args.until c.requires.telling (room-none x c.requires.telling) c.requires.nothing.each pushed
    (record { same = record { file = refl; outcomes = refl; runs = refl }; classes = refl; told = refl })) c.push.ensures.ok
