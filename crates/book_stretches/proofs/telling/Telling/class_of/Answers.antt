use Rattle.std.proofs.Common.{refl, sym, ap, ◌∙◌, ◌<◌, [], Some, length, arith}
use Rattle.std.proofs.lemmas.Option.{slice_get-get_or}
use Rattle.book_stretches.specs.declared.telling.Telling.{Telling}
use Rattle.book_stretches.proofs.Going.{class-known, class-found}
use Rattle.book_stretches.proofs.telling.Telling.class_of.Goals as goal

pub returns-in-Some : goal.returns-in-Some
returns-in-Some c =
    let x = c.args.self.now in
    let inside : c.args.n < length x.classes.items = omega (arith, c.requires.known, c.requires.telling.count) in
    let read = slice_get-get_or x.classes.items c.args.n c.index.result.now inside ∙ ap Some (sym c.index.ensures) ∙ ap Some c.in-Some.is in
    class-known x c.args.n c.in-Some.class c.requires.telling read

pub returns : goal.returns
returns c =
    let x = c.args.self.now in
    let y : Telling = record x { classes = c.mark.new.classes; told = c.number.new.self } in
    let o = c.get.result in
    class-found x y c.args.n c.in_ok-class.class o c.requires.telling c.requires.known
    (slice_get-get_or x.outcomes.now c.args.n [] c.requires.known ∙ ap (λ p. Some p) (sym c.get.ensures))
    c.in_ok-class.ensures.ok (record { file = refl; outcomes = refl; runs = refl }) refl c.mark.ensures
